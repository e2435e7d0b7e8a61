-- What plans do is what answers say.
use Rattle.std.proofs.Common.{◌≡◌, ℕ, zero, suc, ◌<◌, Bool, cond, List, [], ◌∷◌, ◌++◌, length, map, Option, Some, None}
use Rattle.std.proofs.Common.{refl, sym, ap, ◌∙◌, arith}
use Rattle.std.specs.Prelude.{IfOk, option_and_then, unwrap_or, Result, Ok, Err}
use Rattle.std.specs.Option.{ForSome}
use Rattle.std.proofs.lemmas.Bool.{le-ltb}
use Rattle.basil_types.specs.declared.outbox.Envelope.{Envelope}
use Rattle.basil_types.specs.declared.party.Party.{Party}
use Rattle.basil_types.specs.declared.party.Decision.{Decision}
use Rattle.basil_types.specs.Transaction.{TransactionValue, id}
use Rattle.basil_types.specs.Words.{words_of}
use Rattle.certificates.specs.Accepted.{Accepted}
use Rattle.frame_views.specs.Spelling.{spelling}
use Rattle.frame_views.specs.Values as values
use Rattle.frame_views.specs.Values.{VotedValue}
use Rattle.frame_writing.specs.Unsigned.{EndsSigned, unsigned_vote}
use Rattle.keyring.specs.Signing.{Signing}
use Rattle.node_steps.specs.declared.pending.Unsigned.{Unsigned}
use Rattle.node_steps.specs.declared.pending.Pending.{Pending}
use Rattle.node_steps.specs.Pendings.{front_of, fronts_of, seal_front, sealed, sealed_all}
use Rattle.node_steps.specs.Pens.{after_one, pen_value}
use Rattle.node_steps.specs.Refusing.{unless}
use Rattle.txn_table.specs.Entries.{EntryValue, Unvoted, arrived, asked, voted}
use Rattle.txn_table.specs.Tables.{entry_with, changed}
use Rattle.replica_core.specs.declared.known.Known.{Known}
use Rattle.replica_core.specs.declared.refusal.Refusal.{Refusal}
use Rattle.replica_core.specs.declared.refusal.Refusal.TheVariants.{Exhausted}
use Rattle.replica_core.specs.declared.seat.Seat.{Seat}
use Rattle.replica_core.specs.declared.work.KnownWork.{KnownWork}
use Rattle.replica_core.specs.declared.work.KnownWork.TheVariants as work
use Rattle.replica_core.specs.FirstStage.{votes, vote_done, vote_value, wait_done}
use Rattle.replica_core.specs.Fronts.{front_to, vote_said}
use Rattle.replica_core.specs.Holding.{arrived_in}
use Rattle.replica_core.specs.Known.{with_known, changed_at, proven_at}
use Rattle.replica_core.specs.KnownWorks.{CanPerform, perform_known}
use Rattle.replica_core.specs.Placing.{ChangesAt, IsUntouched, entry_now}
use Rattle.replica_core.specs.Replicas.{BookValue}
use Rattle.replica_core.specs.Seats.{self_at}
use Rattle.replica_core.specs.Signing.{exhausted}
use Rattle.replica_core.specs.Telling.{Told, told_of, begun}

-- ---- votes

pub map_sealed : (s : List ℕ) (us : List Unsigned) → map (seal_front s) (map front_of us) ≡ map (sealed s) us
map_sealed s [] = refl
map_sealed s (u ∷ us) = ap (λ l. sealed s u ∷ l) (map_sealed s us)

abbrev envelope : Party → List ℕ → Envelope
envelope to frame = record { to = to; frame = frame }

module _ (seat : Seat) (accepts : Accepted) (signing : Signing) (book : BookValue) (from : Party) (u : TransactionValue)
    (arrives : Option TransactionValue) (place : ℕ) (change : ChangesAt book.entries u (arrived_in book.entries arrives) place) where
  pub vote_planned : (d : Decision) (proof : Option ℕ) (p : Pending) →
      ((m : VotedValue) → EndsSigned (values.Vote m) (unsigned_vote m) m.signature) → exhausted 1 book.pen ≡ None →
      p.words ≡ words_of (vote_said seat (id u) d) →
      fronts_of p ≡ front_to seat (id u) d (option_and_then (proven_at book.entries) proof) from ∷ [] →
      told_of (votes (self_at seat accepts signing) from book u d proof) ≡ Ok
      (perform_known signing (begun book) (work.Vote arrives place d proof p))
  vote_planned d proof p law left words fronts =
      let g = signing.gives book.pen.spent p.words in
      let vote_of : List ℕ → VotedValue = λ s. vote_value (self_at seat accepts signing) book.entries (id u) d proof s in
      let by_words : List ℕ → Told =
      λ w. record {
        book = record book {
          entries = changed_at (voted d (signing.gives book.pen.spent w) proof) (id u) (with_known book.entries u);
          pen = after_one book.pen;
        };
        signed = w ∷ [];
        sent = envelope from (spelling (values.Vote (vote_of (signing.gives book.pen.spent w)))) ∷ [];
      } in
      let made : List EntryValue → List Envelope → Told =
      λ es sent. record { book = record book { entries = es; pen = after_one book.pen }; signed = p.words ∷ []; sent = sent } in
      let sent : envelope from (spelling (values.Vote (vote_of g))) ∷ [] ≡ sealed_all g p =
      ap (λ (b : List ℕ). envelope from b ∷ []) (law (vote_of g))
      ∙ sym (ap (map (seal_front g)) fronts)
      ∙ map_sealed g p.frames.items in
      ap (λ o. told_of (unless o (vote_done (self_at seat accepts signing) from book u d proof))) left
      ∙ ap Ok (ap by_words (sym words)
      ∙ ap (λ es. made es (envelope from (spelling (values.Vote (vote_of g))) ∷ [])) (change (voted d g proof))
      ∙ ap (made (changed (voted d g proof) place (arrived_in book.entries arrives))) sent)

  pub wait_planned : told_of (Ok (wait_done from book u)) ≡ Ok (perform_known signing (begun book) (work.Wait arrives place from))
  wait_planned =
      let made : List EntryValue → Told = λ es. record { book = record book { entries = es }; signed = []; sent = [] } in
      ap Ok (ap made (change (asked from)))

-- ---- what plans need

pub can_sign_one : (spent left : ℕ) → (left ≡ 0 → ⊥) → exhausted 1 (pen_value spent left) ≡ None
can_sign_one spent left n = ap (λ (b : Bool). cond b (Some (Exhausted left)) None) (le-ltb left 1 (omega (arith, n)))

pub unvoted_now : (es : List EntryValue) (t : TransactionValue) → ForSome (entry_with es (id t)) IsUntouched →
    (entry_now es t).vote ≡ Unvoted
unvoted_now es t untouched = by (entry_with es (id t)) refl
  where
    by : (o : Option EntryValue) → entry_with es (id t) ≡ o → (unwrap_or o (arrived t)).vote ≡ Unvoted
    by None h = refl
    by (Some e) h = (untouched e h).0

pub longer : (es : List EntryValue) (arrives : Option TransactionValue) (p : ℕ) → p < length es → p < length (arrived_in es arrives)
longer es None p h = h
longer es (Some t) p h = by es p h
  where
    by : (es : List EntryValue) (p : ℕ) → p < length es → p < length (es ++ arrived t ∷ [])
    by [] p h = absurd (omega (arith, h))
    by (e ∷ es) zero h = omega arith
    by (e ∷ es) (suc p) h = let i = by es p (omega (arith, h)) in omega (arith, i)

pub if_ok_at : (size left : ℕ) (known : Known) (r : Result KnownWork Refusal) →
    IfOk r (λ w. (size left : ℕ) (known : Known) → CanPerform size left known w) → IfOk r (CanPerform size left known)
if_ok_at size left known (Ok w) h = h size left known
if_ok_at size left known (Err e) h = h
