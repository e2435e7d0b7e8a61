-- What a change of one entry leaves of the others, and a transaction that becomes known.
use Rattle.std.proofs.Common.{◌≡◌, ℕ, zero, suc, Bool, true, false, List, [], ◌∷◌, ◌++◌, length}
use Rattle.std.proofs.Common.{Option, Some, None, refl, sym, ap, subst, ◌∙◌, ◌⊎◌, inl, inr}
use Rattle.std.specs.Prelude.{slice_get, slice_set, is_some, if◌then◌else◌}
use Rattle.std.specs.Option.{option_map_or, option_and_then}
use Rattle.std.proofs.lemmas.Bool.{cases_eq}
use Rattle.std.proofs.lemmas.Option.{same_Some}
use Rattle.basil_types.specs.Transaction.{TransactionValue, id}
use Rattle.txn_meta.specs.Conflicts.{ShardConflicts}
use Rattle.txn_table.specs.declared.released.Home.{Home}
use Rattle.txn_table.specs.Entries.{EntryValue, OutcomeValue, arrived}
use Rattle.txn_table.specs.Laws.{IdsTellPlaces, KeepsTransactions}
use Rattle.txn_table.specs.Tables.{changed, entry_with, place_of}
use Rattle.replica_core.specs.Known.{changed_at, with_known}
use Rattle.conflict_laws.proofs.Standing.{Apart, Come, IsFree, Stayed, apart_after, got_changed, got_push, stays}

-- what has an outcome keeps it and its vote
abbrev pub Ended : (old new : List EntryValue) → Type 0
Ended old new =
    (p : ℕ) (e : EntryValue) (o : OutcomeValue) → slice_get old p ≡ Some e → e.outcome ≡ Some o →
    (f : EntryValue) × (slice_get new p ≡ Some f) × (f.vote ≡ e.vote) × (f.outcome ≡ Some o)

pub record Follows (home : Home) (old new : List EntryValue) : Type 0 where
  pub apart : Apart home old → Apart home new
  pub ended : Ended old new

pub follows_same : (home : Home) (es : List EntryValue) → Follows home es es
follows_same home es = record { apart = λ a. a; ended = λ p e o h k. (e, h, refl, k) }

pub follows_then : (home : Home) (a b c : List EntryValue) → Follows home a b → Follows home b c → Follows home a c
follows_then home a b c f g = record {
  apart = λ x. g.apart (f.apart x);
  ended = λ p e o h k.
      let x = f.ended p e o h k in
      let y = g.ended p x.0 o x.1 x.3 in
      (y.0, y.1, y.2 ∙ x.2, y.3);
}

-- ---- a change of one entry

set_other : {X : Type 0} (xs : List X) (p q : ℕ) (x : X) → (q ≡ p → ⊥) → slice_get (slice_set xs p x) q ≡ slice_get xs q
set_other [] p q x n = refl
set_other (d ∷ es) zero zero x n = absurd (n refl)
set_other (d ∷ es) zero (suc q) x n = refl
set_other (d ∷ es) (suc p) zero x n = refl
set_other (d ∷ es) (suc p) (suc q) x n = set_other es p q x (λ e. n (ap suc e))

pub other_stays : (f : EntryValue → EntryValue) (place : ℕ) (es : List EntryValue) (p : ℕ) → (p ≡ place → ⊥) →
    slice_get (changed f place es) p ≡ slice_get es p
other_stays f place es p n = by (slice_get es place)
  where
    by : (o : Option EntryValue) → slice_get (option_map_or (λ e. slice_set es place (f e)) o es) p ≡ slice_get es p
    by None = refl
    by (Some e) = set_other es place p (f e) n

pub ended_changed : (f : EntryValue → EntryValue) (place : ℕ) (es : List EntryValue) →
    ((x : EntryValue) → slice_get es place ≡ Some x → x.outcome ≡ None) → Ended es (changed f place es)
ended_changed f place es none p e o h k = elim (cases_eq p place) [
  | inl same ↦ (let n = none e (ap (slice_get es) (sym same) ∙ h) in absurd cc)
  | inr n ↦ (e, other_stays f place es p n ∙ h, refl, k)
]

-- ---- a transaction that becomes known

got_before : {X : Type 0} (xs ys : List X) (p : ℕ) (e : X) → slice_get xs p ≡ Some e → slice_get (xs ++ ys) p ≡ Some e
got_before [] ys p e h = absurd cc
got_before (x ∷ xs) ys zero e h = h
got_before (x ∷ xs) ys (suc p) e h = got_before xs ys p e h

got_last : {X : Type 0} (xs : List X) (y : X) → slice_get (xs ++ y ∷ []) (length xs) ≡ Some y
got_last [] y = refl
got_last (x ∷ xs) y = got_last xs y

module _ (es : List EntryValue) (t : TransactionValue) where
  pub ended_known : Ended es (with_known es t)
  ended_known = by (is_some (place_of es (id t)))
    where
      by : (b : Bool) → Ended es (if b then es else es ++ arrived t ∷ [])
      by true p e o h k = (e, h, refl, k)
      by false p e o h k = (e, got_before es (arrived t ∷ []) p e h, refl, k)

  -- what stays once it is known stayed before
  pub stayed_known : (p : ℕ) (y : EntryValue) → slice_get (with_known es t) p ≡ Some y → stays y ≡ true → Stayed es p y.transaction
  stayed_known p y = by (is_some (place_of es (id t)))
    where
      by : (b : Bool) → slice_get (if b then es else es ++ arrived t ∷ []) p ≡ Some y → stays y ≡ true → Stayed es p y.transaction
      by true h s = record { entry = y; at = h; text = refl; stayed = s }
      by false h s = elim (got_push es (arrived t) p y h) [
        | inl old ↦ record { entry = y; at = old; text = refl; stayed = s }
        | inr new ↦ (let none : stays y ≡ false = ap stays new in absurd cc)
      ]

  pub follows_known : (laws : ShardConflicts) (home : Home) → Follows home es (with_known es t)
  follows_known laws home = record {
    apart = λ a. apart_after laws home es (with_known es t) a 0 (λ p y h s. inl (stayed_known p y h s));
    ended = ended_known;
  }

-- the entry where a known transaction stands
pub known_here : (es : List EntryValue) (t : TransactionValue) (e : EntryValue) → entry_with es (id t) ≡ Some e →
    (place : ℕ) (x : EntryValue) → place_of (with_known es t) (id t) ≡ Some place → slice_get (with_known es t) place ≡ Some x → x ≡ e
known_here es t e known place x = by (place_of es (id t)) refl
  where
    by : (o : Option ℕ) → place_of es (id t) ≡ o → place_of (if is_some o then es else es ++ arrived t ∷ []) (id t) ≡ Some place →
        slice_get (if is_some o then es else es ++ arrived t ∷ []) place ≡ Some x → x ≡ e
    by None there h i = (let n : entry_with es (id t) ≡ None = ap (option_and_then (slice_get es)) there in absurd cc)
    by (Some p) there h i = same_Some _ _ (sym (ap (option_and_then (slice_get es)) h ∙ i) ∙ known)

-- where a transaction stands once it is known, there stands its entry, or it has just arrived
pub known_or_new : IdsTellPlaces → (es : List EntryValue) (t : TransactionValue) (P : EntryValue → Type 0) → P (arrived t) →
    ((e : EntryValue) → entry_with es (id t) ≡ Some e → P e) → (place : ℕ) (x : EntryValue) →
    place_of (with_known es t) (id t) ≡ Some place → slice_get (with_known es t) place ≡ Some x → P x
known_or_new laws es t P new known place x = by (place_of es (id t)) refl
  where
    by : (o : Option ℕ) → place_of es (id t) ≡ o → place_of (if is_some o then es else es ++ arrived t ∷ []) (id t) ≡ Some place →
        slice_get (if is_some o then es else es ++ arrived t ∷ []) place ≡ Some x → P x
    by (Some p) there h i = known x (ap (option_and_then (slice_get es)) h ∙ i)
    by None there h i =
        let last : length es ≡ place = same_Some _ _ (sym (laws.arrives es t there) ∙ h) in
        let is : x ≡ arrived t =
        same_Some _ _ (sym i ∙ ap (slice_get (es ++ arrived t ∷ [])) (sym last) ∙ got_last es (arrived t)) in
        subst P (sym is) new

-- ---- a change of a transaction that is or becomes known

-- it had no outcome, and stays only where it did, or where nothing conflicts with it
pub record MayChange (home : Home) (es : List EntryValue) (f : EntryValue → EntryValue) (x : EntryValue) : Type 0 where
  pub unended : x.outcome ≡ None
  pub stands : stays (f x) ≡ true → (stays x ≡ true) ⊎ IsFree home es x.transaction

pub follows_at : (laws : ShardConflicts) (home : Home) (f : EntryValue → EntryValue) (t : TransactionValue) (es : List EntryValue) →
    KeepsTransactions f →
    ((place : ℕ) (x : EntryValue) → place_of (with_known es t) (id t) ≡ Some place → slice_get (with_known es t) place ≡ Some x →
    MayChange home es f x) →
    Follows home es (changed_at f (id t) (with_known es t))
follows_at laws home f t es keeps may = by (place_of (with_known es t) (id t)) refl
  where
    by : (o : Option ℕ) → place_of (with_known es t) (id t) ≡ o →
        Follows home es (option_map_or (λ place. changed f place (with_known es t)) o (with_known es t))
    by None there = follows_known es t laws home
    by (Some place) there =
        let all = with_known es t in
        let come : Come home es (changed f place all) place =
        λ p y h s. elim (got_changed f place all p y h) [
          | inl old ↦ inl (stayed_known es t p y old s)
          | inr new ↦
              let text : y.transaction ≡ new.entry.transaction =
              ap (λ (e : EntryValue). e.transaction) new.made ∙ keeps new.entry in
              elim ((may place new.entry there new.at).stands (ap stays (sym new.made) ∙ s)) [
                | inl old ↦
                    let before = stayed_known es t place new.entry new.at old in
                    inl (record {
                      entry = before.entry;
                      at = ap (slice_get es) new.here ∙ before.at;
                      text = before.text ∙ sym text;
                      stayed = before.stayed;
                    })
                | inr free ↦ inr (new.here, subst (IsFree home es) (sym text) free)
              ]
        ] in
        record {
          apart = λ a. apart_after laws home es (changed f place all) a place come;
          ended = λ p e o h k.
              let x = ended_known es t p e o h k in
              let y = ended_changed f place all (λ x i. (may place x there i).unended) p x.0 o x.1 x.3 in
              (y.0, y.1, y.2 ∙ x.2, y.3);
        }
