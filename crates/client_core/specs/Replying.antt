-- What a reply does to a read that was asked for.
use Rattle.std.specs.Prelude.{◌≡◌, ◌≢◌, ◌<◌, ℕ, List, Option, None, Some, Result, Ok, Err, length, slice_get, slice_set}
use Rattle.std.specs.Option.{ForSome}
use Rattle.basil_types.specs.Built.{or_else}
use Rattle.basil_types.specs.Setting.{Setting}
use Rattle.certificates.specs.Accepted.{Accepted}
use Rattle.certificates.specs.declared.fault.FrameFault.{FrameFault}
use Rattle.certificates.specs.declared.fault.FrameFault.TheVariants.{NotMine, NoMemory}
use Rattle.client_reads.specs.Replies.{reply_fault}
use Rattle.frame_views.specs.Values.{ReadReplyValue}
use Rattle.node_steps.specs.Lists.{by_key, put}
use Rattle.node_steps.specs.Refusing.{when}
use Rattle.client_core.specs.declared.asking.Asking.{Asking}
use Rattle.client_core.specs.declared.held.Held.{Held}
use Rattle.client_core.specs.declared.held.Slot.{Slot}
use Rattle.client_core.specs.declared.replies.KeptReply.{KeptReply}
use Rattle.client_core.specs.Clients.{AskedRead, SlotValue, ClientValue}
use Rattle.client_core.specs.Keeping.{with_kept, HasReplyRoom}
use Rattle.client_core.specs.Kept.{KeptRead, kept_read, shown_read}
use Rattle.client_core.specs.Slots.{is_chosen, put_read, with_slot}

-- once the choice is made no reply is waited for
abbrev pub asked_fault : Accepted → Setting → (number time : ℕ) → ReadReplyValue → AskedRead → Option FrameFault
asked_fault A c number time m r =
    or_else (when (is_chosen c r) NotMine)
    (reply_fault A c (record { key = r.key; time = time; client = number }) m)

-- what is kept of a read, with what is kept of one more reply, if anything is
abbrev pub kept_with : KeptRead → Option KeptReply → KeptRead
kept_with k None = k
kept_with k (Some reply) = with_kept k reply

-- what is kept of a reply, or its first fault, or memory is wanting
abbrev pub TakesReply : KeptRead → Result (Option KeptReply) FrameFault → Option FrameFault → AskedRead → Type 0
TakesReply k (Ok o) fault r = (fault ≡ None) × (kept_with k o ≡ kept_read r)
TakesReply k (Err e) fault r = e ≢ NoMemory → fault ≡ Some e

-- ---- the read at a place of a slot

-- a read of this key is put into this place
abbrev pub IsPlaceOf : List ℕ → ℕ → List Asking → Type 0
IsPlaceOf key read asked =
    (a : Asking) → a.key ≡ key → put (by_key (λ (x : Asking). x.key)) a asked ≡ slice_set asked read a

-- with what is kept of one more reply it tells this, and it is put into its place
abbrev pub TellsAt : ℕ → Option KeptReply → AskedRead → Slot → Type 0
TellsAt read o r x =
    ForSome (slice_get x.reads.items read)
    (λ (a : Asking). (kept_with (shown_read a) o ≡ kept_read r) × IsPlaceOf a.key read x.reads.items)

abbrev pub TakesReplyAt :
    Slot → ℕ → Result (Option KeptReply) FrameFault → Option FrameFault → AskedRead → Type 0
TakesReplyAt x read (Ok o) fault r = (fault ≡ None) × TellsAt read o r x
TakesReplyAt x read (Err e) fault r = e ≢ NoMemory → fault ≡ Some e

abbrev pub HasReplyRoomAt : ℕ → Slot → Type 0
HasReplyRoomAt read x = (read < length x.reads.items) × ForSome (slice_get x.reads.items read) HasReplyRoom

-- ---- a client

-- the read at a place of a slot keeps one more reply
abbrev pub Replies : Held → ClientValue → (slot read : ℕ) → KeptReply → ClientValue → Type 0
Replies held before slot read reply after =
    (s : SlotValue) × (r : AskedRead) × (slice_get before.slots slot ≡ Some s)
    × (after ≡ with_slot before slot (record s { reads = put_read r s.reads }))
    × ForSome (slice_get held.slots.items slot) (TellsAt read (Some reply) r)
