-- Entries that grow: each known transaction stays at its place.
use Rattle.std.proofs.Common.{◌≡◌, ℕ, zero, suc, Bool, true, false, List, [], ◌∷◌, ◌++◌, length}
use Rattle.std.proofs.Common.{Option, Some, None, refl, sym, ap, ◌∙◌, ◌⊎◌, inl, inr}
use Rattle.std.specs.Prelude.{slice_get, slice_set, is_some, if◌then◌else◌}
use Rattle.std.specs.Option.{option_map_or, option_and_then}
use Rattle.std.proofs.lemmas.Bool.{cases_eq}
use Rattle.std.proofs.lemmas.Option.{same_Some}
use Rattle.basil_types.specs.declared.party.Decision.{Decision}
use Rattle.basil_types.specs.declared.party.Party.{Party}
use Rattle.basil_types.specs.Transaction.{TransactionValue, id}
use Rattle.txn_table.specs.Entries.{EntryValue, Voted, arrived, asked, asked_vote, voted, decided}
use Rattle.txn_table.specs.Laws.{IdsTellPlaces}
use Rattle.txn_table.specs.Tables.{changed, entry_with, place_of}
use Rattle.replica_core.specs.Known.{changed_at, with_known}
use Rattle.replica_laws.specs.Steps.{Grows, Keeps}

-- ---- an entry

pub keeps_same : (e : EntryValue) → Keeps e e
keeps_same e = record { text = refl; vote = λ d s p h. h; outcome = λ o h. h }

pub keeps_then : (a b c : EntryValue) → Keeps a b → Keeps b c → Keeps a c
keeps_then a b c k l = record {
  text = l.text ∙ k.text;
  vote = λ d s p h. l.vote d s p (k.vote d s p h);
  outcome = λ o h. l.outcome o (k.outcome o h);
}

pub keeps_asked : (from : Party) (e : EntryValue) → Keeps e (asked from e)
keeps_asked from e = record { text = refl; vote = λ d s p h. ap (asked_vote from) h; outcome = λ o h. h }

-- without a vote
abbrev pub IsOpen : EntryValue → Type 0
IsOpen e = (d : Decision) (s : List ℕ) (p : Option ℕ) → e.vote ≡ Voted d s p → ⊥

pub keeps_voted : (d : Decision) (s : List ℕ) (p : Option ℕ) (e : EntryValue) → IsOpen e → Keeps e (voted d s p e)
keeps_voted d s p e n = record { text = refl; vote = λ d s p h. absurd (n d s p h); outcome = λ o h. h }

pub keeps_decided : (d : Decision) (c : List ℕ) (e : EntryValue) → e.outcome ≡ None → Keeps e (decided d c e)
keeps_decided d c e n = record { text = refl; vote = λ d s p h. h; outcome = λ o h. absurd cc }

-- ---- a list

pub set_same : {X : Type 0} (xs : List X) (p : ℕ) (e x : X) → slice_get xs p ≡ Some e → slice_get (slice_set xs p x) p ≡ Some x
set_same [] p e x h = absurd cc
set_same (d ∷ es) zero e x h = refl
set_same (d ∷ es) (suc p) e x h = set_same es p e x h

pub set_other : {X : Type 0} (xs : List X) (p q : ℕ) (x : X) → (q ≡ p → ⊥) → slice_get (slice_set xs p x) q ≡ slice_get xs q
set_other [] p q x n = refl
set_other (d ∷ es) zero zero x n = absurd (n refl)
set_other (d ∷ es) zero (suc q) x n = refl
set_other (d ∷ es) (suc p) zero x n = refl
set_other (d ∷ es) (suc p) (suc q) x n = set_other es p q x (λ e. n (ap suc e))

pub got_before : {X : Type 0} (xs ys : List X) (p : ℕ) (e : X) → slice_get xs p ≡ Some e → slice_get (xs ++ ys) p ≡ Some e
got_before [] ys p e h = absurd cc
got_before (x ∷ xs) ys zero e h = h
got_before (x ∷ xs) ys (suc p) e h = got_before xs ys p e h

pub got_last : {X : Type 0} (xs : List X) (y : X) → slice_get (xs ++ y ∷ []) (length xs) ≡ Some y
got_last [] y = refl
got_last (x ∷ xs) y = got_last xs y

pub grows_same : (es : List EntryValue) → Grows es es
grows_same es p e h = (e, h, keeps_same e)

pub grows_then : (a b c : List EntryValue) → Grows a b → Grows b c → Grows a c
grows_then a b c g h p e i =
    let x = g p e i in
    let y = h p x.0 x.1 in
    (y.0, y.1, keeps_then e x.0 y.0 x.2 y.2)

pub grows_push : (es more : List EntryValue) → Grows es (es ++ more)
grows_push es more p e h = (e, got_before es more p e h, keeps_same e)

module _ (f : EntryValue → EntryValue) (place : ℕ) where
  pub other_stays : (es : List EntryValue) (p : ℕ) → (p ≡ place → ⊥) → slice_get (changed f place es) p ≡ slice_get es p
  other_stays es p n = by (slice_get es place)
    where
      by : (o : Option EntryValue) → slice_get (option_map_or (λ e. slice_set es place (f e)) o es) p ≡ slice_get es p
      by None = refl
      by (Some e) = set_other es place p (f e) n

  pub grows_changed : (es : List EntryValue) → ((e : EntryValue) → slice_get es place ≡ Some e → Keeps e (f e)) →
      Grows es (changed f place es)
  grows_changed es keeps p e h = elim (cases_eq p place) [
    | inl same ↦
        let here : slice_get es place ≡ Some e = ap (slice_get es) (sym same) ∙ h in
        let set : changed f place es ≡ slice_set es place (f e) =
        ap (λ o. option_map_or (λ e. slice_set es place (f e)) o es) here in (
          f e,
          ap (slice_get (changed f place es)) same ∙ ap (λ l. slice_get l place) set ∙ set_same es place e (f e) here,
          keeps e here,
        )
    | inr n ↦ (e, other_stays es p n ∙ h, keeps_same e)
  ]

pub grows_at : (f : EntryValue → EntryValue) (x : List ℕ) (es : List EntryValue) →
    ((place : ℕ) (e : EntryValue) → place_of es x ≡ Some place → slice_get es place ≡ Some e → Keeps e (f e)) →
    Grows es (changed_at f x es)
grows_at f x es keeps = by (place_of es x) refl
  where
    by : (o : Option ℕ) → place_of es x ≡ o → Grows es (option_map_or (λ place. changed f place es) o es)
    by None h = grows_same es
    by (Some place) h = grows_changed f place es (λ e i. keeps place e h i)

-- ---- a transaction that becomes known

pub grows_known : (es : List EntryValue) (t : TransactionValue) → Grows es (with_known es t)
grows_known es t = by (is_some (place_of es (id t)))
  where
    by : (b : Bool) → Grows es (if b then es else es ++ arrived t ∷ [])
    by true = grows_same es
    by false = grows_push es (arrived t ∷ [])

-- the entry of an id, found at its place
pub found_at : (es : List EntryValue) (x : List ℕ) (place : ℕ) (e : EntryValue) → place_of es x ≡ Some place →
    slice_get es place ≡ Some e → entry_with es x ≡ Some e
found_at es x place e h i = ap (option_and_then (slice_get es)) h ∙ i

-- where a transaction stands once it is known, there stands its entry, or it has just arrived
pub known_or_new : IdsTellPlaces → (es : List EntryValue) (t : TransactionValue) (place : ℕ) (e : EntryValue) →
    place_of (with_known es t) (id t) ≡ Some place → slice_get (with_known es t) place ≡ Some e →
    (entry_with es (id t) ≡ Some e) ⊎ (e ≡ arrived t)
known_or_new laws es t place e = by (place_of es (id t)) refl
  where
    by : (o : Option ℕ) → place_of es (id t) ≡ o → place_of (if is_some o then es else es ++ arrived t ∷ []) (id t) ≡ Some place →
        slice_get (if is_some o then es else es ++ arrived t ∷ []) place ≡ Some e → (entry_with es (id t) ≡ Some e) ⊎ (e ≡ arrived t)
    by (Some p) there h i = inl (found_at es (id t) place e h i)
    by None there h i =
        let last : length es ≡ place = same_Some _ _ (sym (laws.arrives es t there) ∙ h) in
        inr (same_Some _ _ (sym i ∙ ap (slice_get (es ++ arrived t ∷ [])) (sym last) ∙ got_last es (arrived t)))
