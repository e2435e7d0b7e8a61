-- When a replica votes.
use Rattle.std.specs.Prelude.{◌≡◌, ◌≤◌, ◌⊎◌, ℕ, List, [], ◌∷◌, Option, Some, None, Ok, length, slice_get, ⊤}
use Rattle.basil_types.specs.declared.party.Decision.{Decision}
use Rattle.basil_types.specs.declared.party.Decision.TheVariants as decision
use Rattle.basil_types.specs.declared.party.Party.{Party}
use Rattle.basil_types.specs.Transaction.{id}
use Rattle.basil_types.specs.Words.{SignedWords}
use Rattle.certificates.specs.Refusals.{decision_of}
use Rattle.frame_views.specs.Fitting.{bounds_of}
use Rattle.frame_views.specs.Frames.{frame_in}
use Rattle.frame_views.specs.Values.{SignedValue, WritebackValue, St1, Writeback}
use Rattle.mvtso_check.specs.declared.verdict.Verdict.{Verdict}
use Rattle.mvtso_check.specs.declared.verdict.Verdict.TheVariants as verdicts
use Rattle.txn_table.specs.Entries.{EntryValue, Unvoted}
use Rattle.txn_table.specs.declared.released.Supposed.{Supposed}
use Rattle.txn_table.specs.Released.{released, released_vote}
use Rattle.txn_table.specs.Tables.{entry_with, id_of, place_of}
use Rattle.replica_core.specs.Answers.{answer}
use Rattle.replica_core.specs.FirstStage.{verdict_of, vote_done}
use Rattle.replica_core.specs.Known.{known_of, outcome_with}
use Rattle.replica_core.specs.Refusals.{refused}
use Rattle.replica_core.specs.Replicas.{ReplicaSelf, BookValue, Done}
use Rattle.replica_core.specs.Signing.{vote_words}

-- the vote that a verdict gives, with the place of its proof; waiting gives none
pub record Vote : Type 0 where
  pub decision : Decision
  pub proof : Option ℕ

abbrev pub vote_by : Verdict → Option Vote
vote_by verdicts.Commit = Some (record { decision = decision.Commit; proof = None })
vote_by verdicts.Abort = Some (record { decision = decision.Abort; proof = None })
vote_by (verdicts.AbortBy place) = Some (record { decision = decision.Abort; proof = Some place })
vote_by verdicts.Wait = None

-- it isn't known, or nobody voted on it, waits for it, or ended it
abbrev pub IsUntouched : Option EntryValue → Type 0
IsUntouched None = ⊤
IsUntouched (Some e) = (e.vote ≡ Unvoted) × (e.outcome ≡ None)

-- a first stage of which nothing is refused, about an untouched transaction, gets the verdict's vote in that step,
-- signed and sent to its sender, unless the verdict is to wait
abbrev pub VotesAtOnce : Type 0
VotesAtOnce =
    (me : ReplicaSelf) (now : ℕ) (from : Party) (book : BookValue) (frame : List ℕ) (m : SignedValue) (v : Vote) →
    frame_in (bounds_of me.home.cluster) frame ≡ Ok (St1 m) → refused me (St1 m) ≡ None →
    IsUntouched (entry_with book.entries (id m.transaction)) → 1 ≤ book.pen.left →
    vote_by (verdict_of me now book (known_of book.entries m.transaction)) ≡ Some v →
    answer me now from book frame
    ≡ Ok (vote_done me from book (known_of book.entries m.transaction) v.decision v.proof)

-- these words are among them
abbrev pub IsAmong : SignedWords → List SignedWords → Type 0
IsAmong w [] = ⊥
IsAmong w (x ∷ xs) = (x ≡ w) ⊎ IsAmong w xs

-- a writeback of which nothing is refused, of a known transaction without outcome: each vote that the outcome releases
-- is signed in that step, if there are as many signatures left. A vote is released of an entry that waits, has no
-- outcome, depends on the one that ends by a key of the own shard, and has then among its dependencies there an aborted
-- one, or only committed ones
abbrev pub ReleasedVoteAtOnce : Type 0
ReleasedVoteAtOnce =
    (me : ReplicaSelf) (now : ℕ) (from : Party) (book : BookValue) (frame : List ℕ) (m : WritebackValue)
    (place other : ℕ) (e : EntryValue) (d : Decision) →
    let s : Supposed = record { place = place; outcome = decision_of m.certificate.body } in
    frame_in (bounds_of me.home.cluster) frame ≡ Ok (Writeback m) → refused me (Writeback m) ≡ None →
    outcome_with book.entries (id m.transaction) ≡ None → place_of book.entries (id m.transaction) ≡ Some place →
    slice_get book.entries other ≡ Some e → released_vote me.home s book.entries other e ≡ Some d →
    length (released me.home s book.entries) ≤ book.pen.left →
    (done : Done) × (answer me now from book frame ≡ Ok done) × IsAmong (vote_words me (id_of e) d) done.signed
