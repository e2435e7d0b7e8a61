-- Changes of one slot.
use Rattle.std.proofs.Common.{◌≡◌, ◌∙◌, ℕ, zero, suc, ◌<◌, ◌≤◌, List, [], ◌∷◌, ◌++◌}
use Rattle.std.proofs.Common.{length, length-append, map, refl, sym, ap, subst, arith}
use Rattle.std.specs.Prelude.{Option, Some, None, option_map, slice_get, slice_set, slice_index_or}
use Rattle.std.proofs.lemmas.List.{length-set, map-append}
use Rattle.std.proofs.lemmas.Option.{same_Some}
use Rattle.basil_types.specs.declared.transaction.parts.WritePart.{WritePart}
use Rattle.basil_types.specs.Setting.{Setting}
use Rattle.node_steps.specs.Lists.{by_key, put}
use Rattle.client_core.specs.declared.asking.Asking.{Asking}
use Rattle.client_core.specs.declared.held.Formed.{Formed}
use Rattle.client_core.specs.declared.held.Held.{Held}
use Rattle.client_core.specs.declared.held.Slot.{Slot}
use Rattle.client_steps.specs.declared.fault.CallFault.{CallFault}
use Rattle.client_steps.specs.declared.steps.ReadStep.{ReadStep}
use Rattle.client_core.specs.Steps.{by_step}
use Rattle.node_steps.specs.Refusing.{unless}
use Rattle.client_core.specs.Calls.{begun_slot, begin_done, by_slot, call_read, call_write, read_at, read_done, write_fault, write_done}
use Rattle.client_core.specs.Clients.{AskedRead, SlotValue, ClientSelf, ClientValue, quiet}
use Rattle.client_core.specs.Kept.{KeptRead, kept_read, shown_read}
use Rattle.client_core.specs.Clusters.{AreOf, IsOf}
use Rattle.client_core.specs.Finding.{AreIds, id_formed, id_in}
use Rattle.client_core.specs.Showing.{KeepsReads, SameHeld, ShowsFormed, ShowsSlot, ShowsSlots, ShowsHeld, slot_value}
use Rattle.client_core.specs.Slots.{most_slots, put_read, with_pursuit}
use Rattle.client_core.specs.Forming.{started}
use Rattle.client_core.specs.Works.{Changes, starts, with_new}
use Rattle.client_recover.specs.Taken.{PursuitValue}
use Rattle.client_core.proofs.PlacingLaws.{put_map}
use Rattle.client_core.proofs.ShowingLaws.{formed_started, slots_at, slots_set, slots_push}

pub got : {A : Type 0} (xs : List A) (i : ℕ) (x : A) → i < length xs → x ≡ slice_index_or xs i x → slice_get xs i ≡ Some x
got [] i x h e = absurd (omega arith)
got (y ∷ ys) zero x h e = ap Some (sym e)
got (y ∷ ys) (suc i) x h e = got ys i x (omega arith) e

pub within : {A : Type 0} (xs : List A) (i : ℕ) (x : A) → slice_get xs i ≡ Some x → i < length xs
within [] i x e = absurd cc
within (y ∷ ys) zero x e = omega arith
within (y ∷ ys) (suc i) x e = let h = within ys i x e in omega arith

pub set_own : {A : Type 0} (xs : List A) (i : ℕ) (x : A) → slice_get xs i ≡ Some x → slice_set xs i x ≡ xs
set_own [] i x e = refl
set_own (y ∷ ys) zero x e = ap (λ z. z ∷ ys) (sym (same_Some y x e))
set_own (y ∷ ys) (suc i) x e = ap (λ l. y ∷ l) (set_own ys i x e)

-- ---- one slot

abbrev kept_key : KeptRead → List ℕ
kept_key k = k.key

pub put_keeps : (asked : List Asking) (reads : List AskedRead) (a : Asking) (r : AskedRead) → KeepsReads asked reads
    → shown_read a ≡ kept_read r → KeepsReads (put (by_key (λ (x : Asking). x.key)) a asked) (put_read r reads)
put_keeps asked reads a r keeps same =
    put_map shown_read kept_key a asked
    ∙ ap (λ k. put (by_key kept_key) k (map shown_read asked)) same
    ∙ ap (λ ks. put (by_key kept_key) (kept_read r) ks) keeps
    ∙ sym (put_map kept_read kept_key r reads)

pub slot_reads : (slot new : Slot) (s : SlotValue) (reads : List AskedRead) → ShowsSlot slot s → new ≡ record slot { reads = new.reads }
    → KeepsReads new.reads.items reads → ShowsSlot new (record s { reads = reads })
slot_reads slot new s reads h same keeps =
    record {
      value =
          ap (λ (t : SlotValue). let u : SlotValue = record t { reads = reads } in u) h.value
          ∙ ap (λ (x : Slot). slot_value x reads s.pursuit) (sym same);
      reads = keeps;
      formed = subst (λ (x : Slot). ShowsFormed x.formed s.pursuit) (sym same) h.formed;
    }

pub slot_writes : (slot new : Slot) (s : SlotValue) → ShowsSlot slot s → new ≡ record slot { writes = new.writes }
    → (w : List WritePart) → new.writes.items ≡ w → ShowsSlot new (record s { writes = w })
slot_writes slot new s h same w is =
    record {
      value =
          ap (λ (t : SlotValue). let u : SlotValue = record t { writes = w } in u) h.value
          ∙ ap (λ l. let u : SlotValue = record (slot_value slot s.reads s.pursuit) { writes = l } in u) (sym is)
          ∙ ap (λ (x : Slot). slot_value x s.reads s.pursuit) (sym same);
      reads = subst (λ (x : Slot). KeepsReads x.reads.items s.reads) (sym same) h.reads;
      formed = subst (λ (x : Slot). ShowsFormed x.formed s.pursuit) (sym same) h.formed;
    }

pub slot_formed : (slot new : Slot) (s : SlotValue) (p : Option PursuitValue) → ShowsSlot slot s
    → new ≡ record slot { formed = new.formed } → ShowsFormed new.formed p → ShowsSlot new (record s { pursuit = p })
slot_formed slot new s p h same formed =
    record {
      value =
          ap (λ (t : SlotValue). let u : SlotValue = record t { pursuit = p } in u) h.value
          ∙ ap (λ (x : Slot). slot_value x s.reads p) (sym same);
      reads = subst (λ (x : Slot). KeepsReads x.reads.items s.reads) (sym same) h.reads;
      formed = formed;
    }

pub slot_pursues : (slot new : Slot) (s : SlotValue) (p : PursuitValue) → ShowsSlot slot s → new ≡ record slot { formed = new.formed }
    → ShowsFormed new.formed (Some p) → ShowsSlot new (with_pursuit s p)
slot_pursues slot new s p h same formed = slot_formed slot new s (Some p) h same formed

pub slot_starts : (slot new : Slot) (s : SlotValue) → ShowsSlot slot s
    → new ≡ record slot { formed = option_map started slot.formed } → ShowsSlot new (starts s)
slot_starts slot new s h same =
    let formed : new.formed ≡ option_map started slot.formed = ap (λ (x : Slot). x.formed) same in
    slot_formed slot new s (starts s).pursuit h
    (same ∙ ap (λ (f : Option Formed). let x : Slot = record slot { formed = f } in x) (sym formed))
    (subst (λ (f : Option Formed). ShowsFormed f (starts s).pursuit) (sym formed) (formed_started slot.formed s.pursuit h.formed))

of_started : (c : Setting) (o : Option Formed) → IsOf c o → IsOf c (option_map started o)
of_started c None h f e = absurd cc
of_started c (Some g) h f e = subst (λ (x : Formed). x.pursuit.cluster ≡ c) (same_Some (started g) f e) (h g refl)

pub started_of : (c : Setting) (slot new : Slot) → new ≡ record slot { formed = option_map started slot.formed }
    → IsOf c slot.formed → IsOf c new.formed
started_of c slot new same of =
    subst (IsOf c) (sym (ap (λ (x : Slot). x.formed) same)) (of_started c slot.formed of)

-- ---- the cluster

pub are_set : (c : Setting) (slots : List Slot) (i : ℕ) (slot changed : Slot) → slice_get slots i ≡ Some slot
    → (IsOf c slot.formed → IsOf c changed.formed) → AreOf c slots → AreOf c (slice_set slots i changed)
are_set c [] i slot changed at kept h j y e = absurd cc
are_set c (x ∷ xs) zero slot changed at kept h zero y e =
    subst (λ (z : Slot). IsOf c z.formed) (same_Some changed y e) (kept (h 0 slot at))
are_set c (x ∷ xs) zero slot changed at kept h (suc j) y e = h (suc j) y e
are_set c (x ∷ xs) (suc i) slot changed at kept h zero y e = h 0 y e
are_set c (x ∷ xs) (suc i) slot changed at kept h (suc j) y e =
    are_set c xs i slot changed at kept (λ k z d. h (suc k) z d) j y e

pub are_pushed : (c : Setting) (slots : List Slot) (slot : Slot) → AreOf c slots → IsOf c slot.formed
    → AreOf c (slots ++ slot ∷ [])
are_pushed c [] slot h one zero y e = subst (λ (z : Slot). IsOf c z.formed) (same_Some slot y e) one
are_pushed c [] slot h one (suc j) y e = absurd cc
are_pushed c (x ∷ xs) slot h one zero y e = h 0 y e
are_pushed c (x ∷ xs) slot h one (suc j) y e = are_pushed c xs slot (λ k z d. h (suc k) z d) one j y e

pub none_of : (c : Setting) (o : Option Formed) → o ≡ None → IsOf c o
none_of c o none f e = let z : None ≡ Some f = sym none ∙ e in absurd cc

pub some_of : (c : Setting) (f : Formed) → f.pursuit.cluster ≡ c → IsOf c (Some f)
some_of c f is g e = subst (λ (x : Formed). x.pursuit.cluster ≡ c) (same_Some f g e) is

-- ---- the ids

ids_kept : (slots : List Slot) (i : ℕ) (slot changed : Slot) → slice_get slots i ≡ Some slot → id_in changed ≡ id_in slot →
    map id_in (slice_set slots i changed) ≡ map id_in slots
ids_kept [] i slot changed at same = absurd cc
ids_kept (x ∷ xs) zero slot changed at same =
    ap (λ (o : Option (List ℕ)). o ∷ map id_in xs) (same ∙ ap id_in (sym (same_Some x slot at)))
ids_kept (x ∷ xs) (suc i) slot changed at same = ap (λ l. id_in x ∷ l) (ids_kept xs i slot changed at same)

ids_changed : (slots : List Slot) (i : ℕ) (changed : Slot) →
    slice_set (map id_in slots) i (id_in changed) ≡ map id_in (slice_set slots i changed)
ids_changed [] i changed = refl
ids_changed (x ∷ xs) zero changed = refl
ids_changed (x ∷ xs) (suc i) changed = ap (λ l. id_in x ∷ l) (ids_changed xs i changed)

-- of a slot that keeps its id
pub set_ids : (ids : List (Option (List ℕ))) (slots : List Slot) (i : ℕ) (slot changed : Slot) → slice_get slots i ≡ Some slot →
    id_in changed ≡ id_in slot → AreIds ids slots → AreIds ids (slice_set slots i changed)
set_ids ids slots i slot changed at same h = h ∙ sym (ids_kept slots i slot changed at same)

-- of one that has another
pub placed_ids : (ids : List (Option (List ℕ))) (slots : List Slot) (i : ℕ) (changed : Slot) → AreIds ids slots →
    AreIds (slice_set ids i (id_in changed)) (slice_set slots i changed)
placed_ids ids slots i changed h = ap (λ l. slice_set l i (id_in changed)) h ∙ ids_changed slots i changed

-- of one slot more
pub pushed_ids : (ids : List (Option (List ℕ))) (slots : List Slot) (slot : Slot) → AreIds ids slots →
    AreIds (ids ++ id_in slot ∷ []) (slots ++ slot ∷ [])
pushed_ids ids slots slot h = ap (λ l. l ++ id_in slot ∷ []) h ∙ sym (map-append id_in slots (slot ∷ []))

started_id : (o : Option Formed) → id_formed (option_map started o) ≡ id_formed o
started_id None = refl
started_id (Some f) = refl

pub started_keeps : (slot new : Slot) → new ≡ record slot { formed = option_map started slot.formed } → id_in new ≡ id_in slot
started_keeps slot new same = ap id_in same ∙ started_id slot.formed

-- ---- how many

pub most_set : (slots : List Slot) (i : ℕ) (slot : Slot) → length slots ≤ most_slots → length (slice_set slots i slot) ≤ most_slots
most_set slots i slot h = subst (λ n. n ≤ most_slots) (sym (length-set slots i slot)) h

pub most_pushed : (slots new : List Slot) (slot : Slot) → length slots < most_slots → new ≡ slots ++ slot ∷ [] → length new ≤ most_slots
most_pushed slots new slot h is =
    let count = ap length is ∙ length-append slots (slot ∷ []) in
    omega (arith, count, h)

-- ---- all slots

pub same_held : (old new : Held) (v : ClientValue) → SameHeld old new → ShowsHeld old v → ShowsHeld new v
same_held old new v same h =
    record { last = same.0 ∙ h.last; slots = subst (λ l. ShowsSlots l v.slots) (sym same.1) h.slots }

module _ (old new : Held) (i : ℕ) (slot changed : Slot) (at : slice_get old.slots.items i ≡ Some slot)
    (last : new.last ≡ old.last) (set : new.slots.items ≡ slice_set old.slots.items i changed) where
  pub held_changes : (change : SlotValue → SlotValue) → ((s : SlotValue) → ShowsSlot slot s → ShowsSlot changed (change s))
      → (v after : ClientValue) → ShowsHeld old v → Changes v i change after → ShowsHeld new after
  held_changes change each v after h (s, at_s, is) =
      let found = slots_at old.slots.items v.slots i slot h.slots at in
      let same : found.0 ≡ s = same_Some found.0 s (sym found.1 ∙ at_s) in
      subst (ShowsHeld new) (sym is)
      (record {
        last = last ∙ h.last;
        slots =
            subst (λ l. ShowsSlots l (slice_set v.slots i (change s))) (sym set)
            (slots_set old.slots.items v.slots i changed (change s) h.slots
            (each s (subst (ShowsSlot slot) same found.2)));
      })

  pub held_same : ((s : SlotValue) → ShowsSlot slot s → ShowsSlot changed s) → (v : ClientValue) → ShowsHeld old v → ShowsHeld new v
  held_same each v h =
      let found = slots_at old.slots.items v.slots i slot h.slots at in
      record {
        last = last ∙ h.last;
        slots =
            subst (λ l. ShowsSlots l v.slots) (sym set)
            (subst (λ l. ShowsSlots (slice_set old.slots.items i changed) l) (set_own v.slots i found.0 found.1)
            (slots_set old.slots.items v.slots i changed found.0 h.slots (each found.0 found.2)));
      }

-- ---- one slot more

pub held_more : (old new : Held) (slot : Slot) (v after : ClientValue) (s : SlotValue) → ShowsHeld old v → after ≡ with_new v s
    → new.last ≡ old.last → new.slots.items ≡ old.slots.items ++ slot ∷ [] → ShowsSlot slot s → ShowsHeld new after
held_more old new slot v after s h is last items one =
    subst (ShowsHeld new) (sym is)
    (record {
      last = last ∙ h.last;
      slots =
          subst (λ l. ShowsSlots l (v.slots ++ s ∷ [])) (sym items)
          (slots_push old.slots.items v.slots slot s h.slots one);
    })

pub begun_shows : (old new : Held) (slot : Slot) (v : ClientValue) (time : ℕ) → ShowsHeld old v → new.last ≡ time
    → new.slots.items ≡ old.slots.items ++ slot ∷ [] → slot_value slot [] None ≡ begun_slot time → slot.reads.items ≡ []
    → slot.formed ≡ None → ShowsHeld new (begin_done v time).client
begun_shows old new slot v time h last items value reads formed =
    let one : ShowsSlot slot (begun_slot time) =
    record {
      value = sym value;
      reads = ap (map shown_read) reads;
      formed = subst (λ f. ShowsFormed f None) (sym formed) tt;
    } in
    record {
      last = last;
      slots =
          subst (λ l. ShowsSlots l (v.slots ++ begun_slot time ∷ [])) (sym items)
          (slots_push old.slots.items v.slots slot (begun_slot time) h.slots one);
    }

-- ---- answers by the slot

pub set_got : {A : Type 0} (xs : List A) (i : ℕ) (y x : A) → i < length xs → slice_get (slice_set xs i y) i ≡ Some x → x ≡ y
set_got [] i y x h e = absurd (omega arith)
set_got (z ∷ zs) zero y x h e = sym (same_Some y x e)
set_got (z ∷ zs) (suc i) y x h e = set_got zs i y x (omega arith) e

module _ (held : Held) (v : ClientValue) (i : ℕ) (x : Slot) (shows : ShowsHeld held v) (at : slice_get held.slots.items i ≡ Some x) where
  pub write_answers : (w : WritePart) (fault : Option CallFault)
      → ((reads : List AskedRead) (p : Option PursuitValue) → ShowsFormed x.formed p → fault ≡ write_fault (slot_value x reads p) w)
      → (s : SlotValue) × (slice_get v.slots i ≡ Some s) × (call_write v i w ≡ unless fault (write_done v i w s))
  write_answers w fault each =
      let found = slots_at held.slots.items v.slots i x shows.slots at in
      let s = found.0 in (
        s,
        found.1,
        ap (by_slot v (λ t. unless (write_fault t w) (write_done v i w t))) found.1
            ∙ ap (λ (t : SlotValue). unless (write_fault t w) (write_done v i w s)) (found.2).value
            ∙ ap (λ f. unless f (write_done v i w s)) (sym (each s.reads s.pursuit (found.2).formed)),
      )

  pub read_answers : (me : ClientSelf) (key : List ℕ) (step : ReadStep)
      → ((reads : List AskedRead) (p : Option PursuitValue) → KeepsReads x.reads.items reads → ShowsFormed x.formed p
      → read_at me v i key (slot_value x reads p) ≡ by_step step (quiet v) (read_done me v i (slot_value x reads p) key))
      → (s : SlotValue) × (slice_get v.slots i ≡ Some s) × (call_read me v i key ≡ by_step step (quiet v) (read_done me v i s key))
  read_answers me key step each =
      let found = slots_at held.slots.items v.slots i x shows.slots at in
      let s = found.0 in (
        s,
        found.1,
        ap (by_slot v (read_at me v i key)) found.1
            ∙ ap (read_at me v i key) (found.2).value
            ∙ each s.reads s.pursuit (found.2).reads (found.2).formed
            ∙ ap (λ (t : SlotValue). by_step step (quiet v) (read_done me v i t key)) (sym (found.2).value),
      )

  pub slot_found : (s : SlotValue) × (slice_get v.slots i ≡ Some s) × ShowsSlot x s
  slot_found = slots_at held.slots.items v.slots i x shows.slots at
