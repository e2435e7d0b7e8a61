-- Where a transaction and a read are found.
use Rattle.std.proofs.Common.{◌≡◌, ◌∙◌, ℕ, zero, suc, ◌+◌, ◌<◌, Bool, true, false, cond}
use Rattle.std.proofs.Common.{List, [], ◌∷◌, length, map, get_or, refl, sym, ap, subst, arith}
use Rattle.std.specs.Prelude.{Option, Some, None, IfSome, option_map, find, position, slice_get, nat_lt, ◌&&◌, ◌==◌}
use Rattle.std.specs.List.{position_or_len}
use Rattle.std.specs.Option.{ForSome, option_map_or}
use Rattle.std.specs.Str.{bytes_eq}
use Rattle.std.proofs.lemmas.List.Folds.{find_at}
use Rattle.std.proofs.lemmas.List.Quantifiers.{position-Some}
use Rattle.std.proofs.lemmas.Option.{same_Some}
use Rattle.basil_types.proofs.Walks.{position-cons}
use Rattle.basil_types.specs.Transaction.{id}
use Rattle.client_recover.specs.Taken.{PursuitValue}
use Rattle.client_core.specs.declared.asking.Asking.{Asking}
use Rattle.client_core.specs.declared.held.Formed.{Formed}
use Rattle.client_core.specs.declared.held.Held.{Held}
use Rattle.client_core.specs.declared.held.Slot.{Slot}
use Rattle.client_core.specs.Clients.{AskedRead, SlotValue, ClientValue}
use Rattle.client_core.specs.Finding as finding
use Rattle.client_core.specs.Kept.{KeptRead, kept_read, shown_read}
use Rattle.client_core.specs.Showing.{KeepsReads, ShowsFormed, ShowsHeld, ShowsSlot}
use Rattle.client_core.specs.Slots.{is_begun_at, is_named, is_of, slot_of_id, slot_of_time}
use Rattle.client_core.proofs.ShowingLaws.{slots_found}
use Rattle.client_core.proofs.StandingLaws.{now_transaction}

-- ---- positions

pub find_got : {A : Type 0} (p : A → Bool) (xs : List A) (i : ℕ) → position p xs ≡ Some i → find p xs ≡ slice_get xs i
find_got p xs i e = by (nat_lt (position_or_len p xs) (length xs)) e
  where
    by : (b : Bool) → cond b (Some (position_or_len p xs)) None ≡ Some i → find p xs ≡ slice_get xs i
    by true at = find_at p xs ∙ ap (slice_get xs) (same_Some (position_or_len p xs) i at)
    by false at = absurd cc

pub find_none : {A : Type 0} (p : A → Bool) (xs : List A) → position p xs ≡ None → find p xs ≡ None
find_none p [] e = refl
find_none p (x ∷ xs) e = by (p x) (position p xs) (find_none p xs) (sym (position-cons p x xs) ∙ e)
  where
    by : (b : Bool) (o : Option ℕ) → (o ≡ None → find p xs ≡ None) → cond b (Some 0) (option_map (λ k. k + 1) o) ≡ None
        → cond b (Some x) (find p xs) ≡ None
    by true o later at = absurd cc
    by false None later at = later refl
    by false (Some k) later at = absurd cc

pub position_map : {A B : Type 0} (f : A → B) (p : B → Bool) (xs : List A) → position (λ x. p (f x)) xs ≡ position p (map f xs)
position_map f p [] = refl
position_map f p (x ∷ xs) =
    position-cons (λ y. p (f y)) x xs
    ∙ ap (λ o. cond (p (f x)) (Some 0) (option_map (λ k. k + 1) o)) (position_map f p xs)
    ∙ sym (position-cons p (f x) (map f xs))

got_or : {A : Type 0} (xs : List A) (i : ℕ) (x d : A) → slice_get xs i ≡ Some x → get_or xs i d ≡ x
got_or [] i x d e = absurd cc
got_or (y ∷ ys) zero x d e = same_Some y x e
got_or (y ∷ ys) (suc i) x d e = got_or ys i x d e

pub position_passes : {A : Type 0} (p : A → Bool) (xs : List A) (i : ℕ) (x : A) →
    position p xs ≡ Some i → slice_get xs i ≡ Some x → p x ≡ true
position_passes p xs i x e at = ap p (sym (got_or xs i x x at)) ∙ (position-Some p xs i x e).1

pub position_within : {A : Type 0} (p : A → Bool) (xs : List A) (i : ℕ) → position p xs ≡ Some i → i < length xs
position_within p [] i e = absurd cc
position_within p (x ∷ xs) i e = (position-Some p (x ∷ xs) i x e).0

pub place_within : {A : Type 0} (o : Option ℕ) (p : A → Bool) (xs : List A) → o ≡ position p xs → IfSome o (λ i. i < length xs)
place_within None p xs e = tt
place_within (Some i) p xs e = position_within p xs i (sym e)

pub there : {A : Type 0} (xs : List A) (i : ℕ) → i < length xs → (x : A) × (slice_get xs i ≡ Some x)
there [] i h = absurd (omega arith)
there (x ∷ xs) zero h = (x, refl)
there (x ∷ xs) (suc i) h = there xs i (omega arith)

pub same_some : {A : Type 0} (o : Option A) (P : A → Type 0) (x : A) → o ≡ Some x → P x → ForSome o P
same_some o P x at h y e = subst P (same_Some x y (sym at ∙ e)) h

-- ---- slots

pub begun_same : (time : ℕ) (x : Slot) (s : SlotValue) → ShowsSlot x s → (x.begun && (x.time == time)) ≡ is_begun_at time s
begun_same time x s h = ap (λ (t : SlotValue). t.begun && (t.time == time)) (sym h.value)

pub time_found : (held : Held) (v : ClientValue) (time : ℕ) → ShowsHeld held v
    → position (λ (x : Slot). x.begun && (x.time == time)) held.slots.items ≡ slot_of_time v time
time_found held v time h =
    slots_found (λ (x : Slot). x.begun && (x.time == time)) (is_begun_at time) held.slots.items v.slots (begun_same time) h.slots

named_by : (named : List ℕ) (f : Option Formed) (o : Option PursuitValue) → ShowsFormed f o
    → finding.is_named_by named f ≡ option_map_or (λ (p : PursuitValue). bytes_eq named (id p.transaction)) o false
named_by named None None h = refl
named_by named None (Some p) h = absurd h
named_by named (Some f) None h = absurd h
named_by named (Some f) (Some p) h = ap (λ t. bytes_eq named (id t)) (now_transaction f.held_back f.pursuit p h.stands)

pub named_same : (named : List ℕ) (x : Slot) (s : SlotValue) → ShowsSlot x s → finding.is_named named x ≡ is_named named s
named_same named x s h = named_by named x.formed s.pursuit h.formed

pub named_at_place : (held : Held) (v : ClientValue) (named : List ℕ) → ShowsHeld held v
    → position (finding.is_named named) held.slots.items ≡ slot_of_id v named
named_at_place held v named h =
    slots_found (finding.is_named named) (is_named named) held.slots.items v.slots (named_same named) h.slots

-- ---- reads

abbrev of_key : List ℕ → KeptRead → Bool
of_key key k = bytes_eq k.key key

pub asked_places : (asked : List Asking) (reads : List AskedRead) (key : List ℕ) → KeepsReads asked reads
    → position (λ (a : Asking). bytes_eq a.key key) asked ≡ position (is_of key) reads
asked_places asked reads key keeps =
    position_map shown_read (of_key key) asked ∙ ap (position (of_key key)) keeps ∙ sym (position_map kept_read (of_key key) reads)
