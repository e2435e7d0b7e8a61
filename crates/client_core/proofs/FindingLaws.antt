-- The slot of a formed transaction.
use Rattle.std.proofs.Common.{◌≡◌, ℕ, ◌+◌, ◌<◌, Bool, true, false, cond, List, [], ◌∷◌, length, map, refl, sym, ap, ◌∙◌}
use Rattle.std.specs.Prelude.{Option, Some, None, IfSome, nat_lt, option_map, position}
use Rattle.std.specs.List.{position_or_len}
use Rattle.std.specs.Option.{option_map_or}
use Rattle.std.specs.Str.{bytes_eq}
use Rattle.std.proofs.lemmas.Bool.{ltb-true}
use Rattle.basil_types.specs.Transaction.{id}
use Rattle.basil_types.proofs.Walks.{position-cons}
use Rattle.client_core.specs.declared.held.Formed.{Formed}
use Rattle.client_core.specs.declared.held.Held.{Held}
use Rattle.client_core.specs.declared.held.Slot.{Slot}
use Rattle.client_core.specs.Clients.{ClientValue, SlotValue}
use Rattle.client_core.specs.Finding.{id_formed, id_in, is_id, is_named, is_named_by}
use Rattle.client_core.specs.Showing.{ShowsFormed, ShowsHeld, ShowsSlot}
use Rattle.client_core.specs.Slots as slots
use Rattle.client_core.specs.Slots.{slot_of_id}
use Rattle.client_core.proofs.ShowingLaws.{shown_transaction, slots_found}
use Rattle.client_recover.specs.Taken.{PursuitValue}

pub position_within : {A : Type 0} (test : A → Bool) (xs : List A) → IfSome (position test xs) (λ i. i < length xs)
position_within test xs = by (position_or_len test xs) (length xs) (nat_lt (position_or_len test xs) (length xs)) refl
  where
    by : (k n : ℕ) (b : Bool) → nat_lt k n ≡ b → IfSome (cond b (Some k) None) (λ i. i < n)
    by k n true e = ltb-true k n e
    by k n false e = tt

named_formed : (named : List ℕ) (f : Option Formed) (p : Option PursuitValue) → ShowsFormed f p
    → is_named_by named f ≡ option_map_or (λ (q : PursuitValue). bytes_eq named (id q.transaction)) p false
named_formed named None None h = refl
named_formed named None (Some p) h = absurd h
named_formed named (Some f) None h = absurd h
named_formed named (Some f) (Some p) h = ap (λ t. bytes_eq named (id t)) (shown_transaction f p h)

slot_named : (named : List ℕ) (x : Slot) (s : SlotValue) → ShowsSlot x s → is_named named x ≡ slots.is_named named s
slot_named named x s h = named_formed named x.formed s.pursuit h.formed

pub id_found : (held : Held) (v : ClientValue) (named : List ℕ) → ShowsHeld held v
    → position (is_named named) held.slots.items ≡ slot_of_id v named
id_found held v named h =
    slots_found (is_named named) (slots.is_named named) held.slots.items v.slots (slot_named named) h.slots

same_test : (named : List ℕ) (o : Option Formed) → is_id named (id_formed o) ≡ is_named_by named o
same_test named None = refl
same_test named (Some f) = refl

-- the place of an id among the ids is that of its slot
pub id_placed : (named : List ℕ) (xs : List Slot) → position (is_id named) (map id_in xs) ≡ position (is_named named) xs
id_placed named [] = refl
id_placed named (x ∷ xs) =
    position-cons (is_id named) (id_in x) (map id_in xs)
    ∙ ap (λ b. cond b (Some 0) (option_map (λ k. k + 1) (position (is_id named) (map id_in xs)))) (same_test named x.formed)
    ∙ ap (λ o. cond (is_named named x) (Some 0) (option_map (λ k. k + 1) o)) (id_placed named xs)
    ∙ sym (position-cons (is_named named) x xs)
