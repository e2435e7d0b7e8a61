-- A first stage is voted on at once.
use Rattle.std.proofs.Common.{◌≡◌, ℕ, ◌≤◌, Bool, cond, Option, Some, None, Ok, ap, ◌∙◌}
use Rattle.std.specs.Option.{option_map_or}
use Rattle.std.proofs.lemmas.Bool.{le-ltb}
use Rattle.std.proofs.lemmas.Option.{same_Some}
use Rattle.basil_types.specs.declared.party.Decision.TheVariants as decision
use Rattle.basil_types.specs.declared.party.Party.{Party}
use Rattle.basil_types.specs.Transaction.{TransactionValue, id}
use Rattle.frame_views.specs.Values.{St1}
use Rattle.mvtso_check.specs.declared.verdict.Verdict.{Verdict}
use Rattle.mvtso_check.specs.declared.verdict.Verdict.TheVariants as verdicts
use Rattle.node_steps.specs.Pens.{PenValue}
use Rattle.node_steps.specs.Refusing.{unless, unless_refused}
use Rattle.txn_table.specs.Entries.{EntryValue, OutcomeValue}
use Rattle.txn_table.specs.Tables.{entry_with}
use Rattle.replica_core.specs.Answers.{answer_kind, answer_read_frame}
use Rattle.replica_core.specs.declared.refusal.Refusal.{Refusal}
use Rattle.replica_core.specs.declared.refusal.Refusal.TheVariants.{Exhausted}
use Rattle.replica_core.specs.FirstStage.{answer_known, by_verdict, by_vote, tell_outcome, told_or, verdict_of, vote_done}
use Rattle.replica_core.specs.Replicas.{ReplicaSelf, BookValue}
use Rattle.replica_core.specs.Signing.{exhausted}
use Rattle.replica_laws.specs.Voting.{IsUntouched, Vote, VotesAtOnce, vote_by}

can_sign : (pen : PenValue) → 1 ≤ pen.left → exhausted 1 pen ≡ None
can_sign pen h = ap (λ (b : Bool). cond b (Some (Exhausted pen.left)) None) (le-ltb pen.left 1 h)

module _ (me : ReplicaSelf) (now : ℕ) (from : Party) (book : BookValue) (left : 1 ≤ book.pen.left) where
  voted : (t : TransactionValue) (v : Verdict) (w : Vote) → vote_by v ≡ Some w →
      by_verdict me from book t v ≡ Ok (vote_done me from book t w.decision w.proof)
  voted t verdicts.Commit w h =
      ap (λ o. unless o (vote_done me from book t decision.Commit None)) (can_sign book.pen left)
      ∙ ap (λ (w : Vote). Ok (vote_done me from book t w.decision w.proof)) (same_Some _ _ h)
  voted t verdicts.Abort w h =
      ap (λ o. unless o (vote_done me from book t decision.Abort None)) (can_sign book.pen left)
      ∙ ap (λ (w : Vote). Ok (vote_done me from book t w.decision w.proof)) (same_Some _ _ h)
  voted t (verdicts.AbortBy place) w h =
      ap (λ o. unless o (vote_done me from book t decision.Abort (Some place))) (can_sign book.pen left)
      ∙ ap (λ (w : Vote). Ok (vote_done me from book t w.decision w.proof)) (same_Some _ _ h)
  voted t verdicts.Wait w h = absurd cc

  by_entry : (t : TransactionValue) (w : Vote) (o : Option EntryValue) → IsUntouched o →
      vote_by (verdict_of me now book (option_map_or (λ (e : EntryValue). e.transaction) o t)) ≡ Some w →
      option_map_or (told_or from book (answer_known me now from book t o)) o (answer_known me now from book t o)
      ≡ Ok (vote_done me from book (option_map_or (λ (e : EntryValue). e.transaction) o t) w.decision w.proof)
  by_entry t w None untouched h = voted t (verdict_of me now book t) w h
  by_entry t w (Some e) untouched h =
      ap (λ (o : Option OutcomeValue).
      option_map_or (λ outcome. Ok (tell_outcome from book e outcome)) o (by_vote me now from book e.transaction e.vote)) untouched.1
      ∙ ap (by_vote me now from book e.transaction) untouched.0
      ∙ voted e.transaction (verdict_of me now book e.transaction) w h

pub votes_at_once : VotesAtOnce
votes_at_once me now from book frame m v read passed untouched left verdict =
    ap (answer_read_frame me now from book) read
    ∙ ap (λ (o : Option Refusal). unless_refused o (answer_kind me now from book (St1 m))) passed
    ∙ by_entry me now from book left m.transaction v (entry_with book.entries (id m.transaction)) untouched verdict
