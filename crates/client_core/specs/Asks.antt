-- What a client is asked to plan, and what it answers.
use Rattle.std.specs.Prelude.{◌≡◌, ◌≢◌, ◌<◌, ℕ, Bool, true, false, Option, Some, None, Result, Ok, Err, length, ⊤}
use Rattle.certificates.specs.declared.fault.FrameFault.{FrameFault}
use Rattle.certificates.specs.declared.fault.FrameFault.TheVariants as frames
use Rattle.frame_views.specs.Fitting.{IsSignature}
use Rattle.keyring.specs.Signing.{Signing}
use Rattle.client_core.specs.declared.ask.Ask.{Ask}
use Rattle.client_core.specs.declared.ask.Ask.TheVariants.{Read, Prepare, Settle, Recover, Invoke, Frame}
use Rattle.client_core.specs.declared.ask.AskFault.{AskFault}
use Rattle.client_core.specs.declared.ask.AskFault.TheVariants as faults
use Rattle.client_steps.specs.declared.fault.CallFault.{CallFault}
use Rattle.client_steps.specs.declared.fault.CallFault.TheVariants.{NoMemory}
use Rattle.client_core.specs.declared.held.Held.{Held}
use Rattle.client_core.specs.declared.work.ClientPlan.{ClientPlan}
use Rattle.client_core.specs.Answers.{on_frame}
use Rattle.client_core.specs.Calls.{call_read, call_prepare, call_settle, call_recover, call_invoke, recovered_at}
use Rattle.client_core.specs.Clients.{ClientDone, ClientSelf, ClientValue}
use Rattle.client_core.specs.Works.{WillDo}

-- the slot is held, and the signature has a good length
abbrev pub CanBeAsked : Held → Ask → Type 0
CanBeAsked held (Read slot key) = slot < length held.slots.items
CanBeAsked held (Prepare slot) = slot < length held.slots.items
CanBeAsked held (Settle slot) = slot < length held.slots.items
CanBeAsked held (Recover t signature) = IsSignature signature.now
CanBeAsked held (Invoke slot) = slot < length held.slots.items
CanBeAsked held (Frame frame) = ⊤

-- whether it is a call, and not a frame
abbrev pub is_call : Ask → Bool
is_call (Read slot key) = true
is_call (Prepare slot) = true
is_call (Settle slot) = true
is_call (Recover t signature) = true
is_call (Invoke slot) = true
is_call (Frame frame) = false

abbrev pub is_call_fault : AskFault → Bool
is_call_fault (faults.Call fault) = true
is_call_fault (faults.Frame fault) = false

-- a call's fault or a frame's
abbrev pub by_call : {A : Type 0} → Result A CallFault → Result A AskFault
by_call (Ok d) = Ok d
by_call (Err fault) = Err (faults.Call fault)

abbrev pub by_frame : {A : Type 0} → Result A FrameFault → Result A AskFault
by_frame (Ok d) = Ok d
by_frame (Err fault) = Err (faults.Frame fault)

abbrev pub answer_to : ClientSelf → ClientValue → Ask → Result ClientDone AskFault
answer_to me client (Read slot key) = by_call (call_read me client slot key.now)
answer_to me client (Prepare slot) = by_call (call_prepare me client slot)
answer_to me client (Settle slot) = by_call (call_settle me client slot)
answer_to me client (Recover t signature) = by_call (call_recover me client t.now signature.now)
answer_to me client (Invoke slot) = by_call (call_invoke me client slot)
answer_to me client (Frame frame) = by_frame (on_frame me client frame.now)

-- the slot that a recovery answers
abbrev pub slot_of : ClientValue → Ask → Option ℕ
slot_of client (Read slot key) = None
slot_of client (Prepare slot) = None
slot_of client (Settle slot) = None
slot_of client (Recover t signature) = Some (recovered_at client t.now)
slot_of client (Invoke slot) = None
slot_of client (Frame frame) = None

-- the plan does what the answer says, and a refusal is the answer's, unless memory is wanting
abbrev pub IsPlannedAsk :
    Signing → Held → ClientValue → Result ClientPlan AskFault → Result ClientDone AskFault → Type 0
IsPlannedAsk signing held before (Ok plan) answer =
    (d : ClientDone) × (answer ≡ Ok d) × WillDo signing held before plan d
IsPlannedAsk signing held before (Err e) answer =
    e ≢ faults.Call NoMemory → e ≢ faults.Frame frames.NoMemory → answer ≡ Err e
