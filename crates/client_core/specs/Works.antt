-- What a planned call or frame does, and what it needs.
use Rattle.std.specs.Prelude.{◌≡◌, ◌≢◌, ◌+◌, ◌<◌, ℕ, List, [], ◌∷◌, ◌++◌, ⊤, true, Some, option_map, Result, Ok, Err}
use Rattle.std.specs.Prelude.{map, length, slice_get, vec_len, vec_capacity}
use Rattle.std.specs.Option.{ForSome}
use Rattle.basil_types.specs.declared.outbox.Envelope.{Envelope}
use Rattle.basil_types.specs.declared.outbox.Outbox.{Outbox}
use Rattle.basil_types.specs.declared.transaction.parts.WritePart.{WritePart}
use Rattle.basil_types.specs.Transaction.{TransactionValue}
use Rattle.basil_types.specs.Words.{words_of}
use Rattle.certificates.specs.Deciding.{HasGoodForm}
use Rattle.keyring.specs.Signing.{Signing}
use Rattle.node_steps.specs.Framed.{framed}
use Rattle.node_steps.specs.Pendings.{bytes_in, bytes_sent, sealed_all, CanSign}
use Rattle.node_steps.specs.Pens.{PenValue, after_one}
use Rattle.client_core.specs.declared.asking.Asking.{Asking}
use Rattle.client_steps.specs.declared.fault.CallFault.{CallFault}
use Rattle.client_steps.specs.declared.fault.CallFault.TheVariants.{NoMemory}
use Rattle.client_core.specs.declared.held.Held.{Held}
use Rattle.client_core.specs.declared.held.Slot.{Slot}
use Rattle.client_core.specs.declared.work.ClientPlan.{ClientPlan}
use Rattle.client_core.specs.declared.work.Work.{Work}
use Rattle.client_core.specs.declared.work.Work.TheVariants.{Nothing, Ask, Pursue, Start, Hold, Reply, Take}
use Rattle.client_core.specs.Clients.{ClientValue, ClientDone, SlotValue}
use Rattle.client_core.specs.Clusters.{IsOf}
use Rattle.client_core.specs.Kept.{kept_read, shown_read}
use Rattle.client_core.specs.Replying.{Replies, HasReplyRoomAt}
use Rattle.client_core.specs.Showing.{ShowsHeld, ShowsSlot}
use Rattle.client_core.specs.Slots.{most_slots, put_read, put_write, with_slot, with_pursuit}
use Rattle.client_core.specs.Taking.{TakesIn}
use Rattle.client_recover.specs.Owned.{unstarted}
use Rattle.client_recover.specs.Taken.{PursuitValue}

-- ---- what it does

-- a slot of a client, changed
abbrev pub Changes : ClientValue → ℕ → (SlotValue → SlotValue) → ClientValue → Type 0
Changes before slot change after =
    (s : SlotValue) × (slice_get before.slots slot ≡ Some s) × (after ≡ with_slot before slot (change s))

abbrev pub asks : Asking → SlotValue → SlotValue
asks asked s = record s { reads = put_read (record { key = asked.key; replies = [] }) s.reads }

abbrev pub pursues : TransactionValue → List ℕ → SlotValue → SlotValue
pursues t signature s = with_pursuit s (unstarted t signature)

abbrev pub starts : SlotValue → SlotValue
starts s = record s { pursuit = option_map (λ (p : PursuitValue). record p { second = true }) s.pursuit }

-- a client with one slot more
abbrev pub with_new : ClientValue → SlotValue → ClientValue
with_new before s = record before { slots = before.slots ++ s ∷ [] }

abbrev pub Adds : ClientValue → Slot → ClientValue → Type 0
Adds before slot after = (s : SlotValue) × ShowsSlot slot s × (after ≡ with_new before s)

-- what it makes of the client that these show, at this place of the pen
abbrev pub Leaves : Signing → Held → ClientValue → Work → ClientValue → Type 0
Leaves signing held before Nothing after = ShowsHeld held after × (after.pen ≡ before.pen)
Leaves signing held before (Ask slot asked) after = ShowsHeld held before × Changes before slot (asks asked) after
Leaves signing held before (Pursue slot formed pending) after =
    ShowsHeld held before
    × Changes (record before { pen = after_one before.pen }) slot
    (pursues formed (signing.gives before.pen.spent pending.words)) after
Leaves signing held before (Start slot) after = ShowsHeld held before × Changes before slot starts after
Leaves signing held before (Hold recovered) after = ShowsHeld held before × Adds before recovered after
Leaves signing held before (Reply slot read reply) after =
    ShowsHeld held before × Replies held before slot read reply after
Leaves signing held before (Take slot starts) after = ShowsHeld held before × TakesIn held before slot starts after

-- what it signs, and sends with the signature
abbrev pub words_by : Work → List (List ℕ)
words_by Nothing = []
words_by (Ask slot asked) = []
words_by (Pursue slot formed pending) = pending.words ∷ []
words_by (Start slot) = []
words_by (Hold recovered) = []
words_by (Reply slot read reply) = []
words_by (Take slot starts) = []

abbrev pub sealed_by : Signing → PenValue → Work → List Envelope
sealed_by signing pen Nothing = []
sealed_by signing pen (Ask slot asked) = []
sealed_by signing pen (Pursue slot formed pending) = sealed_all (signing.gives pen.spent pending.words) pending
sealed_by signing pen (Start slot) = []
sealed_by signing pen (Hold recovered) = []
sealed_by signing pen (Reply slot read reply) = []
sealed_by signing pen (Take slot starts) = []

abbrev pub pending_count : Work → ℕ
pending_count Nothing = 0
pending_count (Ask slot asked) = 0
pending_count (Pursue slot formed pending) = length pending.frames.items
pending_count (Start slot) = 0
pending_count (Hold recovered) = 0
pending_count (Reply slot read reply) = 0
pending_count (Take slot starts) = 0

abbrev pub pending_bytes : (size : ℕ) → Work → ℕ
pending_bytes size Nothing = 0
pending_bytes size (Ask slot asked) = 0
pending_bytes size (Pursue slot formed pending) = bytes_in size pending.frames.items
pending_bytes size (Start slot) = 0
pending_bytes size (Hold recovered) = 0
pending_bytes size (Reply slot read reply) = 0
pending_bytes size (Take slot starts) = 0

abbrev pub word_count : Work → ℕ
word_count Nothing = 0
word_count (Ask slot asked) = 0
word_count (Pursue slot formed pending) = 1
word_count (Start slot) = 0
word_count (Hold recovered) = 0
word_count (Reply slot read reply) = 0
word_count (Take slot starts) = 0

-- what it tells of its messages, with signatures of this size
pub record Counts (size : ℕ) (plan : ClientPlan) : Type 0 where
  pub messages : plan.messages ≡ length plan.out.messages.items + pending_count plan.work
  pub bytes : plan.bytes ≡ bytes_sent plan.out.messages.items + pending_bytes size plan.work

-- the plan of this work, with messages that are sent beside
pub record IsPlanOf (size : ℕ) (work : Work) (out : Outbox) (plan : ClientPlan) : Type 0 where
  pub does : plan.work ≡ work
  pub sends : plan.out ≡ out
  pub counts : Counts size plan

pub record WillDo (signing : Signing) (held : Held) (before : ClientValue) (plan : ClientPlan) (d : ClientDone) :
    Type 0 where
  pub leaves : Leaves signing held before plan.work d.client
  pub words : words_by plan.work ≡ map words_of d.signed
  pub messages : plan.out.messages.items ++ sealed_by signing before.pen plan.work ≡ map framed d.sent

-- the plan does what the answer says, and a refusal is the answer's, unless memory is wanting
abbrev pub IsPlanned : Signing → Held → ClientValue → Result ClientPlan CallFault → Result ClientDone CallFault → Type 0
IsPlanned signing held before (Ok plan) answer =
    (d : ClientDone) × (answer ≡ Ok d) × WillDo signing held before plan d
IsPlanned signing held before (Err e) answer = e ≢ NoMemory → answer ≡ Err e

-- ---- what it needs

abbrev pub HasReadRoom : Slot → Type 0
HasReadRoom s = vec_len s.reads < vec_capacity s.reads

abbrev pub HasSlotRoom : Held → Type 0
HasSlotRoom held =
    (vec_len held.slots < vec_capacity held.slots) × (length held.slots.items < most_slots)
    × (vec_len held.ids < vec_capacity held.ids)

abbrev pub CanWork : (size left : ℕ) → Held → Outbox → Work → Type 0
CanWork size left held out Nothing = ⊤
CanWork size left held out (Ask slot asked) =
    (slot < length held.slots.items) × ForSome (slice_get held.slots.items slot) HasReadRoom
    × (shown_read asked ≡ kept_read (record { key = asked.key; replies = [] }))
CanWork size left held out (Pursue slot formed pending) =
    (slot < length held.slots.items) × HasGoodForm formed × CanSign size left out pending
CanWork size left held out (Start slot) = slot < length held.slots.items
CanWork size left held out (Hold recovered) = HasSlotRoom held × IsOf held.cluster recovered.formed
CanWork size left held out (Reply slot read reply) =
    (slot < length held.slots.items) × ForSome (slice_get held.slots.items slot) (HasReplyRoomAt read)
CanWork size left held out (Take slot starts) = slot < length held.slots.items

pub record CanPerform (size left : ℕ) (held : Held) (plan : ClientPlan) : Type 0 where
  pub work : CanWork size left held plan.out plan.work
  pub unsigned : plan.out.signed.items ≡ []
  pub counts : Counts size plan

-- ---- a write, which is no plan

abbrev pub writes : WritePart → SlotValue → SlotValue
writes w s = record s { writes = put_write w s.writes }

-- it is done exactly where the answer does it, or refused for the first fault, or memory is wanting
abbrev pub Written : Held → ClientValue → Result ClientDone CallFault → Result (Unit {0}) CallFault → Type 0
Written held before answer (Ok x) =
    (d : ClientDone) × (answer ≡ Ok d) × ShowsHeld held d.client × (d.client.pen ≡ before.pen)
Written held before answer (Err e) = e ≢ NoMemory → answer ≡ Err e
