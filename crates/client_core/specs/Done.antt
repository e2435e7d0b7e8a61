-- What a call leaves and sends.
use Rattle.std.specs.Prelude.{◌≡◌, ◌≢◌, ◌≤◌, ◌++◌, Result, Ok, Err, length, map}
use Rattle.basil_types.specs.declared.outbox.Outbox.{Outbox}
use Rattle.basil_types.specs.Words.{words_of}
use Rattle.node_steps.specs.Framed.{framed}
use Rattle.node_steps.specs.Pens.{PenValue}
use Rattle.client_steps.specs.declared.fault.CallFault.{CallFault}
use Rattle.client_steps.specs.declared.fault.CallFault.TheVariants.{NoMemory}
use Rattle.client_core.specs.declared.held.Held.{Held}
use Rattle.client_core.specs.declared.work.ClientPlan.{ClientPlan}
use Rattle.client_core.specs.Clients.{ClientDone, ClientValue}
use Rattle.client_core.specs.Showing.{ShowsHeld}
use Rattle.client_core.specs.Works.{CanPerform, WillDo}
use Rattle.keyring.specs.Signing.{Signing}

-- what a client holds, with its pen at this place, is this value
pub record Shows (held : Held) (pen : PenValue) (v : ClientValue) : Type 0 where
  pub shows : ShowsHeld held v
  pub place : v.pen ≡ pen

-- some value is shown
abbrev pub IsShown : Held → PenValue → Type 0
IsShown held pen = (v : ClientValue) × Shows held pen v

-- each slot that was held still is
abbrev pub KeepsSlots : (old new : Held) → Type 0
KeepsSlots old new = length old.slots.items ≤ length new.slots.items

-- the plan can be committed by a client that holds this, with this pen: it does what some answer says
pub record CanCommit (signing : Signing) (pen : PenValue) (held : Held) (plan : ClientPlan) : Type 0 where
  pub can : CanPerform signing.size pen.left held plan
  pub meant : ∥ ((v : ClientValue) × (d : ClientDone) × Shows held pen v × WillDo signing held v plan d) ∥₁

-- Ok exactly where the answer is, and then it is done; else the first refusal, or memory is wanting
abbrev pub Calls : {A : Type 0} → Result A CallFault → Result ClientDone CallFault → (ClientDone → Type 0) → Type 0
Calls (Ok x) answer IsDone = (d : ClientDone) × (answer ≡ Ok d) × IsDone d
Calls (Err e) answer IsDone = e ≢ NoMemory → answer ≡ Err e

-- the outbox gains the messages and the signed words, each in order
pub record Sends (old new : Outbox) (d : ClientDone) : Type 0 where
  pub messages : new.messages.items ≡ old.messages.items ++ map framed d.sent
  pub signed : new.signed.items ≡ old.signed.items ++ map words_of d.signed

-- these messages and signed words, each in order
pub record IsSent (out : Outbox) (d : ClientDone) : Type 0 where
  pub messages : out.messages.items ≡ map framed d.sent
  pub signed : out.signed.items ≡ map words_of d.signed

-- the outbox holds what it held
pub record SameOutbox (old new : Outbox) : Type 0 where
  pub messages : new.messages.items ≡ old.messages.items
  pub signed : new.signed.items ≡ old.signed.items
