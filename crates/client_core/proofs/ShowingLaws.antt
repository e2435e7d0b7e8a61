-- What a client shows, slot by slot.
use Rattle.std.proofs.Common.{◌≡◌, ◌∙◌, ℕ, zero, suc, ◌+◌, Bool, true, false, cond, List, [], ◌∷◌, ◌++◌, length, map, refl, sym, ap, subst}
use Rattle.std.specs.Prelude.{Option, Some, None, option_map, is_some, find, position, slice_get, slice_set}
use Rattle.std.proofs.lemmas.Option.{same_Some}
use Rattle.std.specs.Option.{option_map_or}
use Rattle.std.specs.Str.{bytes_eq}
use Rattle.basil_types.proofs.Walks.{position-cons}
use Rattle.basil_types.specs.Setting.{Setting}
use Rattle.client_core.specs.declared.asking.Asking.{Asking}
use Rattle.client_core.specs.declared.held.Formed.{Formed}
use Rattle.client_core.specs.declared.held.Held.{Held}
use Rattle.client_core.specs.declared.held.Slot.{Slot}
use Rattle.client_core.specs.Clients.{AskedRead, ClientValue, SlotValue}
use Rattle.client_core.specs.Keeping.{state_kept}
use Rattle.client_core.specs.Kept.{KeptRead, kept_read, shown_read}
use Rattle.client_core.specs.Forming.{started}
use Rattle.client_core.specs.Showing.{KeepsReads, ShowsFormed, ShowsHeld, ShowsPursuit, ShowsSlot, ShowsSlots, StandsNow, slot_value}
use Rattle.client_core.specs.Slots.{ReadStateValue, is_of, read_state, value, own_state, write_in}
use Rattle.client_core.proofs.KeepingLaws.{state_law}
use Rattle.client_core.proofs.StandingLaws.{now_signature, now_transaction}
use Rattle.client_recover.specs.declared.pursuit.Pursuit.{Pursuit}
use Rattle.basil_types.specs.Transaction.{TransactionValue}
use Rattle.frame_views.specs.Values.{SignedValue}
use Rattle.client_recover.specs.Pursuits.{signed_part}
use Rattle.client_recover.specs.Standing.{StandsFor, GoesBackTo}
use Rattle.client_recover.specs.Taken.{PursuitValue}

abbrev signed : TransactionValue → List ℕ → SignedValue
signed t signature = record { transaction = t; signature = signature }

pub formed_same : (f : Option Formed) (p : Option PursuitValue) → ShowsFormed f p → is_some f ≡ is_some p
formed_same None None h = refl
formed_same None (Some p) h = absurd h
formed_same (Some f) None h = absurd h
formed_same (Some f) (Some p) h = refl

-- ---- slots

pub slots_count : (slots : List Slot) (ss : List SlotValue) → ShowsSlots slots ss → length slots ≡ length ss
slots_count [] [] h = refl
slots_count [] (s ∷ ss) h = absurd h
slots_count (x ∷ xs) [] h = absurd h
slots_count (x ∷ xs) (s ∷ ss) h = ap suc (slots_count xs ss h.1)

pub slots_push : (slots : List Slot) (ss : List SlotValue) (slot : Slot) (s : SlotValue) → ShowsSlots slots ss → ShowsSlot slot s
    → ShowsSlots (slots ++ slot ∷ []) (ss ++ s ∷ [])
slots_push [] [] slot s h one = (one, tt)
slots_push [] (t ∷ ts) slot s h one = absurd h
slots_push (x ∷ xs) [] slot s h one = absurd h
slots_push (x ∷ xs) (t ∷ ts) slot s h one = (h.0, slots_push xs ts slot s h.1 one)

pub slots_set : (slots : List Slot) (ss : List SlotValue) (place : ℕ) (slot : Slot) (s : SlotValue) → ShowsSlots slots ss → ShowsSlot slot s
    → ShowsSlots (slice_set slots place slot) (slice_set ss place s)
slots_set [] [] place slot s h one = tt
slots_set [] (t ∷ ts) place slot s h one = absurd h
slots_set (x ∷ xs) [] place slot s h one = absurd h
slots_set (x ∷ xs) (t ∷ ts) zero slot s h one = (one, h.1)
slots_set (x ∷ xs) (t ∷ ts) (suc place) slot s h one = (h.0, slots_set xs ts place slot s h.1 one)

pub slots_at : (slots : List Slot) (ss : List SlotValue) (place : ℕ) (slot : Slot) → ShowsSlots slots ss → slice_get slots place ≡ Some slot
    → (s : SlotValue) × (slice_get ss place ≡ Some s) × ShowsSlot slot s
slots_at [] ss place slot h got = absurd cc
slots_at (x ∷ xs) [] place slot h got = absurd h
slots_at (x ∷ xs) (t ∷ ts) zero slot h got = (t, refl, subst (λ y. ShowsSlot y t) (same_Some x slot got) h.0)
slots_at (x ∷ xs) (t ∷ ts) (suc place) slot h got = slots_at xs ts place slot h.1 got

pub slots_found : (test : Slot → Bool) (probe : SlotValue → Bool) (slots : List Slot) (ss : List SlotValue)
    → ((x : Slot) (s : SlotValue) → ShowsSlot x s → test x ≡ probe s) → ShowsSlots slots ss → position test slots ≡ position probe ss
slots_found test probe [] [] each h = refl
slots_found test probe [] (s ∷ ss) each h = absurd h
slots_found test probe (x ∷ xs) [] each h = absurd h
slots_found test probe (x ∷ xs) (s ∷ ss) each h =
    position-cons test x xs
    ∙ ap (λ b. cond b (Some 0) (option_map (λ k. k + 1) (position test xs))) (each x s h.0)
    ∙ ap (λ o. cond (probe s) (Some 0) (option_map (λ k. k + 1) o)) (slots_found test probe xs ss each h.1)
    ∙ sym (position-cons probe s ss)

-- ---- reads

find_map : {A B : Type 0} (f : A → B) (test : B → Bool) (xs : List A) → option_map f (find (λ x. test (f x)) xs) ≡ find test (map f xs)
find_map f test [] = refl
find_map f test (x ∷ xs) = by (find_map f test xs) (test (f x))
  where
    by : option_map f (find (λ y. test (f y)) xs) ≡ find test (map f xs) → (b : Bool)
        → option_map f (cond b (Some x) (find (λ y. test (f y)) xs)) ≡ cond b (Some (f x)) (find test (map f xs))
    by later true = refl
    by later false = later

abbrev of_key : List ℕ → KeptRead → Bool
of_key key k = bytes_eq k.key key

pub asked_same : (asked : List Asking) (reads : List AskedRead) (key : List ℕ) → KeepsReads asked reads
    → option_map shown_read (find (λ (a : Asking). bytes_eq a.key key) asked) ≡ option_map kept_read (find (is_of key) reads)
asked_same asked reads key keeps =
    find_map shown_read (of_key key) asked ∙ ap (find (of_key key)) keeps ∙ sym (find_map kept_read (of_key key) reads)

state_or : (c : Setting) (o : ReadStateValue) (r : Option AskedRead)
    → option_map_or (state_kept c) (option_map kept_read r) o ≡ option_map_or (read_state c) r o
state_or c o None = refl
state_or c o (Some r) = state_law c r

-- what the kept reads tell, or else the writes
pub value_law : (c : Setting) (slot : Slot) (reads : List AskedRead) (p : Option PursuitValue) (key : List ℕ)
    → KeepsReads slot.reads.items reads
    → option_map_or (state_kept c) (option_map shown_read (find (λ (a : Asking). bytes_eq a.key key) slot.reads.items))
    (own_state (write_in key slot.writes.items))
    ≡ value c (slot_value slot reads p) key
value_law c slot reads p key keeps =
    ap (λ o. option_map_or (state_kept c) o (own_state (write_in key slot.writes.items))) (asked_same slot.reads.items reads key keeps)
    ∙ state_or c (own_state (write_in key slot.writes.items)) (find (is_of key) reads)

-- ---- what is formed

pub shown_transaction : (f : Formed) (p : PursuitValue) → ShowsPursuit f p → f.pursuit.transaction ≡ p.transaction
shown_transaction f p h = now_transaction f.held_back f.pursuit p h.stands

pub shown_signature : (f : Formed) (p : PursuitValue) → ShowsPursuit f p → f.pursuit.signature ≡ p.signature
shown_signature f p h = now_signature f.held_back f.pursuit p h.stands

pub shown_stands : (f : Formed) (p : PursuitValue) → f.held_back ≡ false → ShowsPursuit f p → StandsFor f.pursuit p
shown_stands f p none h = subst (λ (b : Bool). StandsNow b f.pursuit p) none h.stands

-- what a formed transaction's slot shows, and one that isn't formed
pub formed_some : (f : Formed) (o : Option PursuitValue) → ShowsFormed (Some f) o
    → (p : PursuitValue) × (o ≡ Some p) × ShowsPursuit f p
formed_some f None h = absurd h
formed_some f (Some p) h = (p, refl, h)

pub formed_none : (o : Option PursuitValue) → ShowsFormed None o → o ≡ None
formed_none None h = refl
formed_none (Some p) h = absurd h

pub formed_law : (f : Formed) (p : Option PursuitValue) (t : TransactionValue) (signature : List ℕ) → ShowsFormed (Some f) p
    → t ≡ f.pursuit.transaction → signature ≡ f.pursuit.signature
    → Some (signed t signature) ≡ option_map signed_part p
formed_law f None t signature h a b = absurd h
formed_law f (Some p) t signature h a b =
    ap (λ u. Some (signed u signature)) (a ∙ shown_transaction f p h)
    ∙ ap (λ u. Some (signed p.transaction u)) (b ∙ shown_signature f p h)

pub none_law : (p : Option PursuitValue) → ShowsFormed None p → None ≡ option_map signed_part p
none_law None h = refl
none_law (Some p) h = absurd h

-- ---- a second stage that starts

-- whether it has started is of no account to what is counted
started_now : (b : Bool) (u : Pursuit) (p : PursuitValue) → StandsNow b u p → StandsNow b u (record p { second = true })
started_now true u p h =
    let g : GoesBackTo u p = h in
    record { transaction = g.transaction; signature = g.signature; votes = g.votes; logs = g.logs; outcome = g.outcome }
started_now false u p h =
    let g : StandsFor u p = h in
    record { transaction = g.transaction; signature = g.signature; votes = g.votes; logs = g.logs; outcome = g.outcome }

pub stands_started : (f : Formed) (p : PursuitValue) → ShowsPursuit f p
    → ShowsPursuit (started f) (record p { second = true })
stands_started f p h = record { stands = started_now f.held_back f.pursuit p h.stands; second = refl }

pub formed_started : (f : Option Formed) (p : Option PursuitValue) → ShowsFormed f p
    → ShowsFormed (option_map started f) (option_map (λ (q : PursuitValue). record q { second = true }) p)
formed_started None None h = tt
formed_started None (Some p) h = absurd h
formed_started (Some f) None h = absurd h
formed_started (Some f) (Some p) h = stands_started f p h

-- ---- formed slots

module _ (held : Held) (v : ClientValue) (i : ℕ) (x : Slot) (h : ShowsHeld held v) (at : slice_get held.slots.items i ≡ Some x) where
  pub slot_pursued : (f : Formed) → x.formed ≡ Some f
      → (s : SlotValue) × (p : PursuitValue) × (slice_get v.slots i ≡ Some s) × (s.pursuit ≡ Some p) × ShowsPursuit f p
  slot_pursued f formed =
      let found = slots_at held.slots.items v.slots i x h.slots at in
      let shows = subst (λ (o : Option Formed). ShowsFormed o (found.0).pursuit) formed (found.2).formed in
      let some = formed_some f (found.0).pursuit shows in
      (found.0, some.0, found.1, some.1, some.2)

  pub slot_open : x.formed ≡ None → (s : SlotValue) × (slice_get v.slots i ≡ Some s) × (s.pursuit ≡ None)
  slot_open formed =
      let found = slots_at held.slots.items v.slots i x h.slots at in
      let shows = subst (λ (o : Option Formed). ShowsFormed o (found.0).pursuit) formed (found.2).formed in
      (found.0, found.1, formed_none (found.0).pursuit shows)
