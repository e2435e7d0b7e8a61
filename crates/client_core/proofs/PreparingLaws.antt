-- What the plan of a transaction that is pursued does.
use Rattle.std.proofs.Common.{◌≡◌, ◌∙◌, ℕ, List, [], ◌∷◌, ◌++◌, map, refl, sym, ap}
use Rattle.std.specs.Prelude.{Option, Some, slice_get, slice_set, Result, Ok, Err, IfOk}
use Rattle.basil_types.specs.Built.{built}
use Rattle.basil_types.specs.Setting.{Setting}
use Rattle.basil_types.specs.Transaction.{TransactionValue, long_text, id}
use Rattle.basil_types.specs.Words.{TransactionWords, words_of}
use Rattle.basil_types.specs.declared.party.Party.{Party}
use Rattle.frame_views.specs.Spelling.{spelling}
use Rattle.frame_views.specs.Values.{St1}
use Rattle.frame_writing.specs.Unsigned.{EndsSigned, unsigned_st1}
use Rattle.node_steps.specs.Framed.{framed}
use Rattle.node_steps.specs.Pendings.{front_of, seal_front, sealed}
use Rattle.node_steps.specs.Pens.{after_one}
use Rattle.node_steps.specs.declared.pending.Unsigned.{Unsigned}
use Rattle.client_recover.specs.Pursuits.{to_involved}
use Rattle.client_core.specs.declared.asking.Asking.{Asking}
use Rattle.client_steps.specs.declared.fault.CallFault.{CallFault}
use Rattle.client_core.specs.declared.held.Held.{Held}
use Rattle.client_core.specs.declared.held.Slot.{Slot}
use Rattle.client_core.specs.Calls.{by_slot, call_prepare, formed, prepare_done, prepare_fault}
use Rattle.client_recover.specs.Taken.{PursuitValue}
use Rattle.node_steps.specs.Refusing.{unless}
use Rattle.client_core.proofs.ShowingLaws.{slots_at}
use Rattle.client_steps.specs.Addressing.{parties_in, enveloped, fronted}
use Rattle.client_core.specs.Clients.{AskedRead, ClientSelf, ClientValue, SlotValue}
use Rattle.client_core.specs.Keeping.{part_kept}
use Rattle.client_core.specs.Kept.{kept_read, shown_read}
use Rattle.client_core.specs.Preparing.{pursue_done}
use Rattle.client_core.specs.Showing.{KeepsReads, ShowsFormed, ShowsHeld, ShowsSlot, slot_value}
use Rattle.client_core.specs.Slots.{as_read}
use Rattle.client_core.specs.Works.{Changes, pursues}

-- ---- the parts

each_part : (c : Setting) (reads : List AskedRead) → map (part_kept c) (map kept_read reads) ≡ map (as_read c) reads
each_part c [] = refl
each_part c (r ∷ rs) = ap (λ l. as_read c r ∷ l) (each_part c rs)

pub parts_law : (c : Setting) (asked : List Asking) (reads : List AskedRead) → KeepsReads asked reads
    → map (part_kept c) (map shown_read asked) ≡ map (as_read c) reads
parts_law c asked reads keeps = ap (map (part_kept c)) keeps ∙ each_part c reads

-- ---- the frames

each_sealed : (signature : List ℕ) (us : List Unsigned) → map (sealed signature) us ≡ map (seal_front signature) (map front_of us)
each_sealed signature [] = refl
each_sealed signature (u ∷ us) = ap (λ l. sealed signature u ∷ l) (each_sealed signature us)

each_fronted : (signature bytes : List ℕ) (ps : List Party)
    → map (seal_front signature) (map (fronted bytes) ps) ≡ map (enveloped (bytes ++ long_text signature)) ps
each_fronted signature bytes [] = refl
each_fronted signature bytes (p ∷ ps) = ap (λ l. enveloped (bytes ++ long_text signature) p ∷ l) (each_fronted signature bytes ps)

pub pursue_sends : (c : Setting) (t : TransactionValue) (signature : List ℕ) (us : List Unsigned)
    → EndsSigned (St1 (record { transaction = t; signature = signature }))
    (unsigned_st1 (record { transaction = t; signature = signature })) signature
    → map front_of us ≡ map (fronted (unsigned_st1 (record { transaction = t; signature = [] }))) (parties_in c t)
    → map framed (to_involved c t (St1 (record { transaction = t; signature = signature })))
    ≡ map (enveloped (spelling (St1 (record { transaction = t; signature = signature })))) (parties_in c t)
    → map (sealed signature) us ≡ map framed (to_involved c t (St1 (record { transaction = t; signature = signature })))
pursue_sends c t signature us ends fronts reach =
    each_sealed signature us
    ∙ ap (map (seal_front signature)) fronts
    ∙ each_fronted signature (unsigned_st1 (record { transaction = t; signature = [] })) (parties_in c t)
    ∙ ap (λ b. map (enveloped b) (parties_in c t)) (sym ends)
    ∙ sym reach

pub pursue_changes : (me : ClientSelf) (v : ClientValue) (i : ℕ) (s : SlotValue) (t : TransactionValue) (words : List ℕ)
    → slice_get v.slots i ≡ Some s → words ≡ words_of (TransactionWords (id t))
    → Changes (record v { pen = after_one v.pen }) i (pursues t (me.signing.gives v.pen.spent words)) (pursue_done me v i s t).client
pursue_changes me v i s t words at is =
    let after = λ (w : List ℕ). let one : ClientValue = record v { pen = after_one v.pen } in
    let c : ClientValue = record one { slots = slice_set v.slots i (pursues t (me.signing.gives v.pen.spent w) s) } in c in
    (s, at, ap after (sym is))

-- ---- the answer by the slot

module _ (held : Held) (me : ClientSelf) (v : ClientValue) (i : ℕ) (x : Slot) (h : ShowsHeld held v)
    (at : slice_get held.slots.items i ≡ Some x) where
  pub prepare_answers : (fault : Option CallFault)
      → ((reads : List AskedRead) (p : Option PursuitValue) → KeepsReads x.reads.items reads → ShowsFormed x.formed p
      → prepare_fault me v (slot_value x reads p) ≡ fault)
      → (s : SlotValue) × (slice_get v.slots i ≡ Some s) × ShowsSlot x s × (call_prepare me v i ≡ unless fault (prepare_done me v i s))
  prepare_answers fault each =
      let found = slots_at held.slots.items v.slots i x h.slots at in
      let s = found.0 in (
        s,
        found.1,
        found.2,
        ap (by_slot v (λ t. unless (prepare_fault me v t) (prepare_done me v i t))) found.1
            ∙ ap (λ f. unless f (prepare_done me v i s))
            (ap (prepare_fault me v) (found.2).value ∙ each s.reads s.pursuit (found.2).reads (found.2).formed),
      )

  pub formed_same_as : (s : SlotValue) (t : TransactionValue) → ShowsSlot x s
      → t ≡ built x.time me.number (map (as_read me.cluster) s.reads) x.writes.items → t ≡ formed me s
  formed_same_as s t shows is =
      is ∙ sym (ap (λ (u : SlotValue). built u.time me.number (map (as_read me.cluster) s.reads) u.writes) shows.value)

-- what is the same as something equal
pub if_ok_from : {A E : Type 0} (r : Result A E) (x y : A) → x ≡ y → IfOk r (λ u. u ≡ x) → IfOk r (λ u. u ≡ y)
if_ok_from (Ok u) x y e h = h ∙ e
if_ok_from (Err f) x y e h = h
