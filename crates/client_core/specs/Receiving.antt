-- What planning a frame gives.
use Rattle.std.specs.Prelude.{◌≡◌, ◌≢◌, ◌||◌, Bool, [], ℕ, Result, Ok, Err, map}
use Rattle.basil_types.specs.Setting.{Setting}
use Rattle.certificates.specs.declared.fault.FrameFault.{FrameFault}
use Rattle.certificates.specs.declared.fault.FrameFault.TheVariants.{NoMemory}
use Rattle.client_recover.specs.Pursuits.{PursuitDone, take_frame}
use Rattle.client_recover.specs.Standing.{StandsFor}
use Rattle.client_recover.specs.Taken.{PursuitValue, TakenValue}
use Rattle.client_core.specs.declared.held.Formed.{Formed}
use Rattle.client_core.specs.declared.held.Held.{Held}
use Rattle.client_core.specs.declared.work.ClientPlan.{ClientPlan}
use Rattle.client_core.specs.declared.work.Work.TheVariants.{Take}
use Rattle.client_core.specs.Clients.{ClientValue, ClientDone}
use Rattle.client_core.specs.Works.{WillDo}
use Rattle.keyring.specs.Signing.{Signing}
use Rattle.node_steps.specs.Framed.{framed}

-- the plan does what the answer says, and a refusal is the answer's, unless memory is wanting
abbrev pub IsPlannedFrame :
    Signing → Held → ClientValue → Result ClientPlan FrameFault → Result ClientDone FrameFault → Type 0
IsPlannedFrame signing held before (Ok plan) answer =
    (d : ClientDone) × (answer ≡ Ok d) × WillDo signing held before plan d
IsPlannedFrame signing held before (Err e) answer = e ≢ NoMemory → answer ≡ Err e

-- Ok exactly where the answer is, and then it is done; else the first refusal, or memory is wanting
abbrev pub AnswersFrame :
    Result (Unit {0}) FrameFault → Result ClientDone FrameFault → (ClientDone → Type 0) → Type 0
AnswersFrame (Ok x) answer IsDone = (d : ClientDone) × (answer ≡ Ok d) × IsDone d
AnswersFrame (Err e) answer IsDone = e ≢ NoMemory → answer ≡ Err e

-- ---- a frame that is held back

-- this is taken, once it isn't held back any more
pub record HoldsBack (f : Formed) (plan : ClientPlan) (slot : ℕ) (d : PursuitDone) : Type 0 where
  pub starts : Bool
  pub work : plan.work ≡ Take slot starts
  pub stands : StandsFor f.pursuit d.pursuit
  pub second : (starts || f.second) ≡ d.pursuit.second
  pub messages : plan.out.messages.items ≡ map framed d.sent
  pub signed : plan.out.signed.items ≡ []

-- the plan takes what is taken, and a refusal is the frame's first fault, unless memory is wanting
abbrev pub IsTake :
    Setting → Formed → PursuitValue → ℕ → Result ClientPlan FrameFault → Result TakenValue FrameFault → Type 0
IsTake c f p slot (Ok plan) taken = (x : TakenValue) × (taken ≡ Ok x) × HoldsBack f plan slot (take_frame c p x)
IsTake c f p slot (Err e) taken = e ≢ NoMemory → taken ≡ Err e
