-- The answer to a writeback: an outcome, and the votes that it releases (Basil, writeback phase).
use Rattle.std.specs.Prelude.{ℕ, List, [], ◌∷◌, ◌++◌, Option, Some, None, Result, Ok, length, map, slice_get}
use Rattle.std.specs.Option.{option_map_or}
use Rattle.basil_types.specs.declared.party.Decision.{Decision}
use Rattle.basil_types.specs.Transaction.{TransactionValue, id}
use Rattle.certificates.specs.Refusals.{decision_of}
use Rattle.frame_views.specs.Spelling.{certificate_bytes}
use Rattle.frame_views.specs.Values.{CertificateValue, WritebackValue}
use Rattle.node_steps.specs.Pens.{after_one}
use Rattle.node_steps.specs.Refusing.{unless}
use Rattle.txn_table.specs.Entries.{EntryValue, OutcomeValue, askers_of, voted, decided}
use Rattle.txn_table.specs.Released.{released}
use Rattle.txn_table.specs.Tables.{id_of, place_of, changed}
use Rattle.replica_core.specs.declared.refusal.Refusal.{Refusal}
use Rattle.replica_core.specs.Replicas.{ReplicaSelf, BookValue, Done, quiet}
use Rattle.replica_core.specs.Known.{with_known, changed_at, outcome_with}
use Rattle.replica_core.specs.Signing.{vote_words, signature, exhausted}
use Rattle.replica_core.specs.FirstStage.{vote_value, vote_to}

-- ---- released votes

-- a waiting transaction votes, and its vote goes to each of its askers, without a proof
abbrev pub release_entry : ReplicaSelf → ℕ → Decision → Done → EntryValue → Done
release_entry me place d done e =
    let given = signature me done.book.pen (vote_words me (id_of e) d) in
    record {
      book = record (done.book) {
        entries = changed (voted d given None) place done.book.entries;
        pen = after_one done.book.pen;
      };
      signed = done.signed ++ vote_words me (id_of e) d ∷ [];
      sent = done.sent ++ map (λ asker. vote_to asker (vote_value me [] (id_of e) d None given)) (askers_of e.vote);
    }

abbrev pub release_one : ReplicaSelf → ℕ × Decision → Done → Done
release_one me r done = option_map_or (release_entry me r.0 r.1 done) (slice_get done.book.entries r.0) done

abbrev pub release_all : ReplicaSelf → List (ℕ × Decision) → Done → Done
release_all me [] done = done
release_all me (r ∷ rs) done = release_all me rs (release_one me r done)

-- the votes that an outcome of this transaction releases, by what is known before it
abbrev pub releases : ReplicaSelf → List EntryValue → Option ℕ → Decision → List (ℕ × Decision)
releases me entries None d = []
releases me entries (Some place) d = released me.home (record { place = place; outcome = d }) entries

-- ---- outcomes

abbrev pub with_outcome : BookValue → TransactionValue → Decision → CertificateValue → BookValue
with_outcome book t d c =
    record book { entries = changed_at (decided d (certificate_bytes c)) (id t) (with_known book.entries t) }

abbrev pub outcome_done :
    ReplicaSelf → BookValue → TransactionValue → Decision → CertificateValue → List (ℕ × Decision) → Done
outcome_done me book t d c votes = release_all me votes (quiet (with_outcome book t d c))

abbrev pub end_with :
    ReplicaSelf → BookValue → TransactionValue → Decision → CertificateValue → List (ℕ × Decision) → Result Done Refusal
end_with me book t d c votes = unless (exhausted (length votes) book.pen) (outcome_done me book t d c votes)

-- a known outcome stays
abbrev pub end_unless_ended :
    ReplicaSelf → BookValue → TransactionValue → CertificateValue → Option OutcomeValue → Result Done Refusal
end_unless_ended me book t c (Some outcome) = Ok (quiet book)
end_unless_ended me book t c None =
    let d = decision_of c.body in
    end_with me book t d c (releases me book.entries (place_of book.entries (id t)) d)

abbrev pub answer_writeback : ReplicaSelf → BookValue → WritebackValue → Result Done Refusal
answer_writeback me book m =
    end_unless_ended me book m.transaction m.certificate (outcome_with book.entries (id m.transaction))
