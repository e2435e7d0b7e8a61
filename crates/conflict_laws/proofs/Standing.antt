-- Entries that stand, and that no two of them conflict.
use Rattle.std.proofs.Common.{◌≡◌, ℕ, zero, suc, Bool, true, false, List, [], ◌∷◌, ◌++◌}
use Rattle.std.proofs.Common.{Option, Some, None, refl, sym, ap, subst, ◌∙◌, ◌⊎◌, inl, inr, arith}
use Rattle.std.specs.Prelude.{Contains, slice_get, slice_set, is_none, option_map, not, ◌&&◌, ◌||◌}
use Rattle.std.specs.Option.{option_map_or}
use Rattle.std.proofs.lemmas.List.Elements.{Contains-append_right}
use Rattle.std.proofs.lemmas.Option.{same_Some}
use Rattle.basil_types.specs.declared.party.Decision.{Decision}
use Rattle.basil_types.specs.declared.party.Decision.TheVariants.{Commit, Abort}
use Rattle.basil_types.specs.Transaction.{TransactionValue}
use Rattle.txn_meta.specs.Conflicts.{conflict_in, ShardConflicts}
use Rattle.txn_table.specs.declared.released.Home.{Home}
use Rattle.txn_table.specs.Entries.{EntryValue, OutcomeValue, VoteValue, Unvoted, Waiting, Voted, decision_of, is_waiting}
use Rattle.txn_table.specs.Released.{is_aborted, is_committed}
use Rattle.txn_table.specs.Tables.{changed}
use Rattle.mvtso_check.specs.Book.{stands, waits_or_commits}
use Rattle.conflict_laws.specs.Conflicts.{BothStand, IsAborted}

-- it waits or has voted to commit, and isn't aborted
abbrev pub stays : EntryValue → Bool
stays e = waits_or_commits e.vote && not (is_aborted (decision_of e))

-- no two that stay conflict on a key of the shard
abbrev pub Apart : Home → List EntryValue → Type 0
Apart home es =
    (p q : ℕ) (e f : EntryValue) → slice_get es p ≡ Some e → slice_get es q ≡ Some f → stays e ≡ true → stays f ≡ true →
    conflict_in home.cluster home.shard e.transaction f.transaction ≡ false

-- ---- an entry

stands_by : (w : Bool) (d : Option Decision) → (w && not (is_aborted d)) ≡ true → ((w && is_none d) || is_committed d) ≡ true
stands_by false d h = absurd cc
stands_by true None h = refl
stands_by true (Some Commit) h = refl
stands_by true (Some Abort) h = absurd cc

pub stays_stands : (e : EntryValue) → stays e ≡ true → stands e ≡ true
stays_stands e h = stands_by (waits_or_commits e.vote) (decision_of e) h

pub both : (a b : Bool) → a ≡ true → b ≡ false → (a && not b) ≡ true
both true false h k = refl
both true true h k = absurd cc
both false b h k = absurd cc

pub first : (a b : Bool) → (a && b) ≡ true → a ≡ true
first true b h = refl
first false b h = absurd cc

pub with_first : (a b c : Bool) → (a && c) ≡ true → b ≡ true → (b && c) ≡ true
with_first true true c h k = h
with_first true false c h k = absurd cc
with_first false b c h k = absurd cc

-- one without an outcome that waits or has voted to commit
pub stays_open : (e : EntryValue) → waits_or_commits e.vote ≡ true → e.outcome ≡ None → stays e ≡ true
stays_open e h n =
    both (waits_or_commits e.vote) (is_aborted (decision_of e)) h
    (ap (λ (o : Option OutcomeValue). is_aborted (option_map (λ (o : OutcomeValue). o.decision) o)) n)

pub waits_stands : (v : VoteValue) → is_waiting v ≡ true → waits_or_commits v ≡ true
waits_stands Unvoted h = absurd cc
waits_stands (Waiting askers) h = refl
waits_stands (Voted d s p) h = absurd cc

aborted_or : (d : Option Decision) → (d ≡ Some Abort) ⊎ (is_aborted d ≡ false)
aborted_or None = inr refl
aborted_or (Some Commit) = inr refl
aborted_or (Some Abort) = inl refl

-- ---- places

pub in_got : {X : Type 0} (xs : List X) (n : ℕ) (y : X) → slice_get xs n ≡ Some y → Contains xs y
in_got [] n y h = absurd cc
in_got (x ∷ xs) zero y h = subst (Contains (x ∷ xs)) (same_Some x y h) (0, omega arith, refl)
in_got (x ∷ xs) (suc n) y h = Contains-append_right (x ∷ []) xs y (in_got xs n y h)

got_set : {X : Type 0} (xs : List X) (n : ℕ) (x : X) (p : ℕ) (y : X) → slice_get (slice_set xs n x) p ≡ Some y →
    (slice_get xs p ≡ Some y) ⊎ ((p ≡ n) × (y ≡ x))
got_set [] n x p y h = inl h
got_set (d ∷ es) zero x zero y h = inr (refl, sym (same_Some _ _ h))
got_set (d ∷ es) zero x (suc p) y h = inl h
got_set (d ∷ es) (suc n) x zero y h = inl h
got_set (d ∷ es) (suc n) x (suc p) y h = elim (got_set es n x p y h) [
  | inl old ↦ inl old
  | inr new ↦ inr (ap suc new.0, new.1)
]

pub got_push : {X : Type 0} (xs : List X) (x : X) (p : ℕ) (y : X) → slice_get (xs ++ x ∷ []) p ≡ Some y →
    (slice_get xs p ≡ Some y) ⊎ (y ≡ x)
got_push [] x zero y h = inr (sym (same_Some _ _ h))
got_push [] x (suc p) y h = absurd cc
got_push (d ∷ es) x zero y h = inl h
got_push (d ∷ es) x (suc p) y h = got_push es x p y h

-- what stands at the changed place is what was made of the entry there
pub record IsMade (f : EntryValue → EntryValue) (es : List EntryValue) (place p : ℕ) (y : EntryValue) : Type 0 where
  pub here : p ≡ place
  pub entry : EntryValue
  pub at : slice_get es place ≡ Some entry
  pub made : y ≡ f entry

pub got_changed : (f : EntryValue → EntryValue) (place : ℕ) (es : List EntryValue) (p : ℕ) (y : EntryValue) →
    slice_get (changed f place es) p ≡ Some y → (slice_get es p ≡ Some y) ⊎ IsMade f es place p y
got_changed f place es p y = by (slice_get es place) refl
  where
    by : (o : Option EntryValue) → slice_get es place ≡ o →
        slice_get (option_map_or (λ e. slice_set es place (f e)) o es) p ≡ Some y →
        (slice_get es p ≡ Some y) ⊎ IsMade f es place p y
    by None at h = inl h
    by (Some e) at h = elim (got_set es place (f e) p y h) [
      | inl old ↦ inl old
      | inr new ↦ inr (record { here = new.0; entry = e; at = at; made = new.1 })
    ]

-- ---- entries after a step

-- an entry at the place, of this transaction, stayed before
pub record Stayed (es : List EntryValue) (place : ℕ) (t : TransactionValue) : Type 0 where
  pub entry : EntryValue
  pub at : slice_get es place ≡ Some entry
  pub text : entry.transaction ≡ t
  pub stayed : stays entry ≡ true

-- nothing that stands conflicts with it
abbrev pub IsFree : Home → List EntryValue → TransactionValue → Type 0
IsFree home es t =
    (e : EntryValue) → Contains es e → stands e ≡ true → conflict_in home.cluster home.shard t e.transaction ≡ false

-- each that stays now stayed before, but for one with which nothing conflicts
abbrev pub Come : Home → (old new : List EntryValue) → (place : ℕ) → Type 0
Come home old new place =
    (p : ℕ) (y : EntryValue) → slice_get new p ≡ Some y → stays y ≡ true →
    Stayed old p y.transaction ⊎ ((p ≡ place) × IsFree home old y.transaction)

module _ (laws : ShardConflicts) (home : Home) (old new : List EntryValue) (apart : Apart home old) where
  abbrev at_odds : TransactionValue → TransactionValue → Bool
  at_odds = conflict_in home.cluster home.shard

  two_old : (p q : ℕ) (t u : TransactionValue) → Stayed old p t → Stayed old q u → at_odds t u ≡ false
  two_old p q t u a b =
      ap (λ (t : TransactionValue). at_odds t u) (sym a.text) ∙ ap (at_odds a.entry.transaction) (sym b.text)
      ∙ apart p q a.entry b.entry a.at b.at a.stayed b.stayed

  free_old : (q : ℕ) (t u : TransactionValue) → IsFree home old t → Stayed old q u → at_odds t u ≡ false
  free_old q t u a b =
      ap (at_odds t) (sym b.text) ∙ a b.entry (in_got old q b.entry b.at) (stays_stands b.entry b.stayed)

  pub apart_after : (place : ℕ) → Come home old new place → Apart home new
  apart_after place come p q y z hy hz sy sz = elim (come p y hy sy) [
    | inl a ↦ elim (come q z hz sz) [
      | inl b ↦ two_old p q y.transaction z.transaction a b
      | inr b ↦ laws.symmetric home.cluster home.shard y.transaction z.transaction
          ∙ free_old p z.transaction y.transaction b.1 a
    ]
    | inr a ↦ elim (come q z hz sz) [
      | inl b ↦ free_old q y.transaction z.transaction a.1 b
      | inr b ↦
          let same : y ≡ z = same_Some _ _ (sym hy ∙ ap (slice_get new) (a.0 ∙ sym b.0) ∙ hz) in
          ap (λ (e : EntryValue). at_odds y.transaction e.transaction) (sym same)
          ∙ laws.not_itself home.cluster home.shard y.transaction
    ]
  ]

-- ---- what no two of a book do

pub one_of_two : (home : Home) (es : List EntryValue) → Apart home es → (p q : ℕ) (e f : EntryValue) →
    slice_get es p ≡ Some e → slice_get es q ≡ Some f → BothStand home e f → IsAborted e ⊎ IsAborted f
one_of_two home es apart p q e f at there h = elim (aborted_or (decision_of e)) [
  | inl a ↦ inl a
  | inr a ↦ elim (aborted_or (decision_of f)) [
    | inl b ↦ inr b
    | inr b ↦
        let none = apart p q e f at there (both (waits_or_commits e.vote) (is_aborted (decision_of e)) h.one a)
        (both (waits_or_commits f.vote) (is_aborted (decision_of f)) h.other b) in
        let some = h.conflict in absurd cc
  ]
]
