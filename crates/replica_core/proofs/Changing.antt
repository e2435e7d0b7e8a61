-- What the store stands for, and what is whole, after each change.
use Rattle.std.proofs.Common.{◌≡◌, ℕ, Bool, true, false, List, Option, Some, None, refl, sym, ap, subst, ◌∙◌}
use Rattle.std.specs.Prelude.{slice_get}
use Rattle.std.specs.List.{IsDistinct}
use Rattle.std.specs.Option.{option_and_then, option_map_or}
use Rattle.std.specs.Str.{bytes_eq}
use Rattle.basil_types.specs.declared.party.Party.{Party}
use Rattle.basil_types.specs.declared.party.Decision.{Decision}
use Rattle.basil_types.specs.declared.party.Decision.TheVariants.{Commit, Abort}
use Rattle.basil_types.specs.Transaction.{TransactionValue}
use Rattle.mv_store.specs.declared.store.Store.{Store}
use Rattle.mv_store.specs.Store.{Enters, TakesOut}
use Rattle.mvtso_check.specs.Standing.{StoresFollow, StandsAfter, IsEntry}
use Rattle.txn_table.specs.Entries.{EntryValue, VoteValue, Unvoted, Waiting, Voted, asked, voted, decided, decision_of, is_voted}
use Rattle.txn_table.specs.Entries.{is_waiting}
use Rattle.txn_table.specs.Tables.{ids_of, changed, is_voted_at, decision_at}
use Rattle.replica_core.specs.Holding.{IsUnvoted, IsWaiting}

module _ (follow : StoresFollow) (old new : Store) (es ns : List EntryValue) (p : ℕ) (e : EntryValue) (t : TransactionValue)
    (distinct : IsDistinct bytes_eq (ids_of es)) (at : slice_get es p ≡ Some e) (is : t ≡ e.transaction) where
  here : IsEntry es p e
  here = record { distinct = distinct; at = at }

  undecided : decision_at es p ≡ None → decision_of e ≡ None
  undecided u = sym (ap (option_and_then decision_of) at) ∙ u

  entered_it : (c : Bool) → Enters old new t p c → Enters old new e.transaction p c
  entered_it c en = subst (λ (u : TransactionValue). Enters old new u p c) is en

  removed_it : TakesOut old new t → TakesOut old new e.transaction
  removed_it en = subst (λ (u : TransactionValue). TakesOut old new u) is en

  becomes : (xs : List EntryValue) → ns ≡ xs → StandsAfter old es new xs → StandsAfter old es new ns
  becomes xs n s = subst (λ (l : List EntryValue). StandsAfter old es new l) (sym n) s

  pub after_ask : (a : Party) → decision_at es p ≡ None → is_voted_at es p ≡ false → Enters old new t p false →
      ns ≡ changed (asked a) p es → StandsAfter old es new ns
  after_ask a u v en n =
      becomes (changed (asked a) p es) n (follow.asks old new es p e a here (undecided u)
      (sym (ap (λ (o : Option EntryValue). option_map_or (λ (x : EntryValue). is_voted x.vote) o false) at) ∙ v) (entered_it false en))

  pub after_commit_vote : (d : Decision) (s : List ℕ) (proof : Option ℕ) → d ≡ Commit → decision_at es p ≡ None →
      Enters old new t p false → ns ≡ changed (voted d s proof) p es → StandsAfter old es new ns
  after_commit_vote d s proof i u en n =
      becomes (changed (voted Commit s proof) p es) (n ∙ ap (λ (d : Decision). changed (voted d s proof) p es) i)
      (follow.votes_commit old new es p e s proof here (undecided u) (entered_it false en))

  pub after_abort_vote : (d : Decision) (s : List ℕ) (proof : Option ℕ) → d ≡ Abort → decision_at es p ≡ None → TakesOut old new t →
      ns ≡ changed (voted d s proof) p es → StandsAfter old es new ns
  after_abort_vote d s proof i u en n =
      becomes (changed (voted Abort s proof) p es) (n ∙ ap (λ (d : Decision). changed (voted d s proof) p es) i)
      (follow.votes_abort old new es p e s proof here (undecided u) (removed_it en))

  pub after_commit : (d : Decision) (c : List ℕ) → d ≡ Commit → Enters old new t p true → ns ≡ changed (decided d c) p es →
      StandsAfter old es new ns
  after_commit d c i en n =
      becomes (changed (decided Commit c) p es) (n ∙ ap (λ (d : Decision). changed (decided d c) p es) i)
      (follow.commits old new es p e c here (entered_it true en))

  pub after_abort : (d : Decision) (c : List ℕ) → d ≡ Abort → TakesOut old new t → ns ≡ changed (decided d c) p es →
      StandsAfter old es new ns
  after_abort d c i en n =
      becomes (changed (decided Abort c) p es) (n ∙ ap (λ (d : Decision). changed (decided d c) p es) i)
      (follow.aborts old new es p e c here (removed_it en))

module _ (follow : StoresFollow) (store : Store) (es ns : List EntryValue) (p : ℕ) (e : EntryValue)
    (distinct : IsDistinct bytes_eq (ids_of es)) (at : slice_get es p ≡ Some e) (u : decision_at es p ≡ None) where
  still : IsEntry es p e
  still = record { distinct = distinct; at = at }

  pub after_first_abort : (d : Decision) (s : List ℕ) (proof : Option ℕ) → d ≡ Abort → IsUnvoted e → ns ≡ changed (voted d s proof) p es →
      StandsAfter store es store ns
  after_first_abort d s proof i v n =
      subst (λ (l : List EntryValue). StandsAfter store es store l) (sym (n ∙ ap (λ (d : Decision). changed (voted d s proof) p es) i))
      (follow.unasked store es p e s proof still (sym (ap (option_and_then decision_of) at) ∙ u) v)

  pub after_waited_commit : (d : Decision) (s : List ℕ) (proof : Option ℕ) → d ≡ Commit → IsWaiting e →
      ns ≡ changed (voted d s proof) p es → StandsAfter store es store ns
  after_waited_commit d s proof i v n =
      subst (λ (l : List EntryValue). StandsAfter store es store l) (sym (n ∙ ap (λ (d : Decision). changed (voted d s proof) p es) i))
      (follow.waited store es p e s proof still (sym (ap (option_and_then decision_of) at) ∙ u) v)

waiting_open : (v : VoteValue) → is_waiting v ≡ true → is_voted v ≡ false
waiting_open Unvoted h = refl
waiting_open (Waiting askers) h = refl
waiting_open (Voted vote signature proof) h = absurd cc

pub waiting_unvoted : (es : List EntryValue) (p : ℕ) (e : EntryValue) → slice_get es p ≡ Some e → IsWaiting e → is_voted_at es p ≡ false
waiting_unvoted es p e at w = ap (λ (o : Option EntryValue). option_map_or (λ (x : EntryValue). is_voted x.vote) o false) at
    ∙ waiting_open e.vote w
