-- What the plan of a read does.
use Rattle.std.proofs.Common.{◌≡◌, ◌∙◌, ℕ, List, [], ◌++◌, map, refl, sym, ap, subst}
use Rattle.std.specs.Prelude.{Some, slice_get}
use Rattle.std.proofs.lemmas.List.{append-nil}
use Rattle.std.proofs.lemmas.Option.{same_Some}
use Rattle.basil_types.specs.declared.outbox.Envelope.{Envelope}
use Rattle.frame_views.specs.Values.{Read}
use Rattle.node_steps.specs.Framed.{framed}
use Rattle.txn_meta.specs.Places.{shard_of}
use Rattle.client_recover.specs.Pursuits.{to_shard}
use Rattle.client_core.specs.declared.asking.Asking.{Asking}
use Rattle.client_core.specs.declared.held.Held.{Held}
use Rattle.client_core.specs.declared.held.Slot.{Slot}
use Rattle.client_core.specs.Calls.{read_done}
use Rattle.client_core.specs.Clients.{ClientSelf, ClientValue, SlotValue, quiet}
use Rattle.client_core.specs.Kept.{KeptRead, kept_read, shown_read}
use Rattle.client_core.specs.Showing.{ShowsHeld, ShowsSlot}
use Rattle.client_core.specs.Slots.{put_read, with_slot}
use Rattle.keyring.specs.Signing.{Signing}
use Rattle.client_core.specs.declared.work.ClientPlan.{ClientPlan}
use Rattle.client_core.specs.declared.work.Work.TheVariants.{Nothing}
use Rattle.client_core.specs.Works.{Changes, Leaves, WillDo, asks, sealed_by, words_by}
use Rattle.client_core.proofs.ShowingLaws.{slots_at}

-- the slot that stands there shows what the client has there
pub shown_at : (held : Held) (v : ClientValue) (i : ℕ) (x : Slot) (s : SlotValue) → ShowsHeld held v → slice_get held.slots.items i ≡ Some x
    → slice_get v.slots i ≡ Some s → ShowsSlot x s
shown_at held v i x s h at at_s =
    let found = slots_at held.slots.items v.slots i x h.slots at in
    subst (ShowsSlot x) (same_Some found.0 s (sym found.1 ∙ at_s)) found.2

pub ask_changes : (me : ClientSelf) (v : ClientValue) (i : ℕ) (s : SlotValue) (key : List ℕ) (asked : Asking) → slice_get v.slots i ≡ Some s
    → shown_read asked ≡ kept_read (record { key = key; replies = [] }) → Changes v i (asks asked) (read_done me v i s key).client
ask_changes me v i s key asked at same = (
  s,
  at,
  ap (λ k. let c : ClientValue = with_slot v i (record s { reads = put_read (record { key = k; replies = [] }) s.reads }) in c)
      (sym (ap (λ (k : KeptRead). k.key) same)),
)

pub ask_same : (asked : Asking) (key : List ℕ) → shown_read asked ≡ kept_read (record { key = key; replies = [] })
    → shown_read asked ≡ kept_read (record { key = asked.key; replies = [] })
ask_same asked key same =
    same ∙ ap (λ k. kept_read (record { key = k; replies = [] })) (sym (ap (λ (k : KeptRead). k.key) same))

pub ask_sends : (me : ClientSelf) (v : ClientValue) (i : ℕ) (x : Slot) (s : SlotValue) (key : List ℕ) (sent : List Envelope) → ShowsSlot x s
    → sent ≡ map framed (to_shard me.cluster (Read (record { key = key; time = x.time; client = me.number })) (shard_of me.cluster key))
    → sent ++ [] ≡ map framed (read_done me v i s key).sent
ask_sends me v i x s key sent h is =
    append-nil sent ∙ is
    ∙ ap (λ t. map framed (to_shard me.cluster (Read (record { key = key; time = t; client = me.number })) (shard_of me.cluster key)))
    (sym (ap (λ (y : SlotValue). y.time) h.value))

pub nothing_done : (signing : Signing) (held : Held) (v : ClientValue) (plan : ClientPlan) → plan.work ≡ Nothing
    → plan.out.messages.items ≡ [] → ShowsHeld held v → WillDo signing held v plan (quiet v)
nothing_done signing held v plan work none h =
    record {
      leaves = subst (λ w. Leaves signing held v w v) (sym work) (h, refl);
      words = ap words_by work;
      messages = ap (λ l. l ++ sealed_by signing v.pen plan.work) none ∙ ap (sealed_by signing v.pen) work;
    }
