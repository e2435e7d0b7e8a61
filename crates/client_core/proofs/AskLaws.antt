-- The plan of a call or of the answer to a frame is the plan of what was asked.
use Rattle.std.proofs.Common.{◌≡◌, true, false, ap, refl}
use Rattle.std.specs.Prelude.{IfErr, IfOk, Result, Ok, Err}
use Rattle.certificates.specs.declared.fault.FrameFault.{FrameFault}
use Rattle.keyring.specs.Signing.{Signing}
use Rattle.client_core.specs.declared.ask.AskFault.TheVariants.{Call, Frame}
use Rattle.client_steps.specs.declared.fault.CallFault.{CallFault}
use Rattle.client_core.specs.declared.held.Held.{Held}
use Rattle.client_core.specs.declared.work.ClientPlan.{ClientPlan}
use Rattle.client_core.specs.Asks.{IsPlannedAsk, by_call, by_frame, is_call_fault}
use Rattle.client_core.specs.Clients.{ClientDone, ClientValue}
use Rattle.client_core.specs.Receiving.{IsPlannedFrame}
use Rattle.client_core.specs.Works.{IsPlanned}

pub call_asked : (signing : Signing) (held : Held) (v : ClientValue) (r : Result ClientPlan CallFault) (a : Result ClientDone CallFault)
    → IsPlanned signing held v r a → IsPlannedAsk signing held v (by_call r) (by_call a)
call_asked signing held v (Ok plan) a h = (h.0, ap by_call h.1, h.2)
call_asked signing held v (Err e) a h = λ wanting frames. ap by_call (h (λ i. wanting (ap Call i)))

pub frame_asked : (signing : Signing) (held : Held) (v : ClientValue) (r : Result ClientPlan FrameFault) (a : Result ClientDone FrameFault)
    → IsPlannedFrame signing held v r a → IsPlannedAsk signing held v (by_frame r) (by_frame a)
frame_asked signing held v (Ok plan) a h = (h.0, ap by_frame h.1, h.2)
frame_asked signing held v (Err e) a h = λ calls wanting. ap by_frame (h (λ i. wanting (ap Frame i)))

pub call_if : (r : Result ClientPlan CallFault) (P : ClientPlan → Type 0) → IfOk r P → IfOk (by_call r) P
call_if (Ok plan) P h = h
call_if (Err e) P h = h

pub frame_if : (r : Result ClientPlan FrameFault) (P : ClientPlan → Type 0) → IfOk r P → IfOk (by_frame r) P
frame_if (Ok plan) P h = h
frame_if (Err e) P h = h

-- ---- the kind of a fault

pub call_kind : (planned : Result ClientPlan CallFault) → IfErr (by_call planned) (λ e. is_call_fault e ≡ true)
call_kind (Ok plan) = tt
call_kind (Err fault) = refl

pub frame_kind : (planned : Result ClientPlan FrameFault) → IfErr (by_frame planned) (λ e. is_call_fault e ≡ false)
frame_kind (Ok plan) = tt
frame_kind (Err fault) = refl
