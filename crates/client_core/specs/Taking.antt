-- What a frame does to a transaction that is pursued.
use Rattle.std.specs.Prelude.{◌≡◌, ℕ, List, Bool, ◌||◌, Option, None, Some, Result, Ok, Err, slice_get}
use Rattle.std.specs.Option.{ForSome}
use Rattle.basil_types.specs.Setting.{Setting}
use Rattle.basil_types.specs.Transaction.{TransactionValue}
use Rattle.certificates.specs.Accepted.{Accepted}
use Rattle.certificates.specs.declared.fault.FrameFault.{FrameFault}
use Rattle.certificates.specs.declared.fault.FrameFault.TheVariants.{NotMine}
use Rattle.client_recover.specs.Frames.{vote_taken, log_taken, certificate_taken}
use Rattle.client_recover.specs.Pursuits.{take_frame}
use Rattle.client_recover.specs.Standing.{StandsFor}
use Rattle.client_recover.specs.Taken.{PursuitValue, TakenValue}
use Rattle.frame_views.specs.Values.{MessageValue, Read, ReadReply, St1, Vote}
use Rattle.frame_views.specs.Values.{St2, LogReply, Writeback, Recover, Invoke}
use Rattle.frame_views.specs.Values.{Elect, Decide}
use Rattle.client_core.specs.declared.held.Formed.{Formed}
use Rattle.client_core.specs.declared.held.Held.{Held}
use Rattle.client_core.specs.declared.held.Slot.{Slot}
use Rattle.client_core.specs.Calls.{pursuit_done}
use Rattle.client_core.specs.Clients.{ClientSelf, SlotValue, ClientValue, ClientDone}
use Rattle.client_core.specs.Frames.{HeldValue, held_with}
use Rattle.client_core.specs.Slots.{with_slot, with_pursuit}

-- ---- what is taken

-- what is taken of a message for a transaction, or the first fault
abbrev pub taken_of : Accepted → Setting → TransactionValue → MessageValue → Result TakenValue FrameFault
taken_of A c t (Read m) = Err NotMine
taken_of A c t (ReadReply m) = Err NotMine
taken_of A c t (St1 m) = Err NotMine
taken_of A c t (Vote v) = vote_taken A c t (Some v)
taken_of A c t (St2 m) = Err NotMine
taken_of A c t (LogReply r) = log_taken A c t (Some r)
taken_of A c t (Writeback m) = certificate_taken A c t (Some m)
taken_of A c t (Recover m) = Err NotMine
taken_of A c t (Invoke m) = Err NotMine
taken_of A c t (Elect m) = Err NotMine
taken_of A c t (Decide m) = Err NotMine

abbrev pub by_taken : ClientSelf → ClientValue → HeldValue → Result TakenValue FrameFault → Result ClientDone FrameFault
by_taken me client h (Ok x) = Ok (pursuit_done client h.place h.slot (take_frame me.cluster h.pursuit x))
by_taken me client h (Err fault) = Err fault

abbrev pub on_pursuit : ClientSelf → ClientValue → MessageValue → Option HeldValue → Result ClientDone FrameFault
on_pursuit me client m None = Err NotMine
on_pursuit me client m (Some h) = by_taken me client h (taken_of me.accepts me.cluster h.pursuit.transaction m)

-- a message that names a transaction
abbrev pub on_named : ClientSelf → ClientValue → List ℕ → MessageValue → Result ClientDone FrameFault
on_named me client named m = on_pursuit me client m (held_with client named)

-- ---- a client

-- the pursuit stands for this, with what is held back, and its second stage has started or starts where it then has
abbrev pub WillStand : Bool → PursuitValue → Option Formed → Type 0
WillStand starts p None = ⊥
WillStand starts p (Some f) = StandsFor f.pursuit p × ((starts || f.second) ≡ p.second)

-- the pursuit in a slot takes what is held back
abbrev pub TakesIn : Held → ClientValue → (slot : ℕ) → Bool → ClientValue → Type 0
TakesIn held before slot starts after =
    (s : SlotValue) × (p : PursuitValue) × (slice_get before.slots slot ≡ Some s)
    × (after ≡ with_slot before slot (with_pursuit s p))
    × ForSome (slice_get held.slots.items slot) (λ (x : Slot). WillStand starts p x.formed)
