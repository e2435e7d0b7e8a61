-- What a client that is asked comes to, under the room of a pool.
use Rattle.std.specs.Prelude.{◌≡◌, ◌≢◌, ℕ, ⊤, true, false, Option, Some, None, Result, Ok, Err}
use Rattle.node_steps.specs.Holding.{Holds}
use Rattle.basil_types.specs.declared.memory.NoMemory.{NoMemory}
use Rattle.certificates.specs.declared.fault.FrameFault.TheVariants as frames
use Rattle.client_core.specs.Asks.{is_call, is_call_fault}
use Rattle.client_core.specs.Clients.{ClientDone, ClientValue}
use Rattle.client_core.specs.declared.ask.Ask.{Ask}
use Rattle.client_core.specs.declared.ask.Ask.TheVariants as asks
use Rattle.client_core.specs.declared.ask.AskFault.{AskFault}
use Rattle.client_core.specs.declared.ask.AskFault.TheVariants.{Call, Frame}
use Rattle.client_steps.specs.declared.fault.CallFault.{CallFault}
use Rattle.client_steps.specs.declared.fault.CallFault.TheVariants as calls
use Rattle.frame_views.specs.Fitting.{IsSignature}
use Rattle.keyring.specs.declared.verifier.Verifier as verifiers
use Rattle.keyring.specs.declared.signer.Signer as signers
use Rattle.cluster_run.specs.States.{Setup}
use Rattle.cluster_nodes.specs.declared.calling.StandingClient.{StandingClient}
use Rattle.cluster_nodes.specs.declared.handled.Handled.{Handled}
use Rattle.cluster_nodes.specs.declared.handled.Handled.TheVariants.{Refused, Full, Sent}
use Rattle.message_pool.specs.declared.pool.Room.{Room}
use Rattle.cluster_nodes.specs.Handling.{fits}
use Rattle.cluster_nodes.specs.Standings.{HoldsAs}

-- a signature that is given has a good length
abbrev pub HasSignature : Ask → Type 0
HasSignature (asks.Read slot key) = ⊤
HasSignature (asks.Prepare slot) = ⊤
HasSignature (asks.Settle slot) = ⊤
HasSignature (asks.Recover t signature) = IsSignature signature.now
HasSignature (asks.Invoke slot) = ⊤
HasSignature (asks.Frame frame) = ⊤

-- the slot that is named
abbrev pub slot_named : Ask → Option ℕ
slot_named (asks.Read slot key) = Some slot
slot_named (asks.Prepare slot) = Some slot
slot_named (asks.Settle slot) = Some slot
slot_named (asks.Recover t signature) = None
slot_named (asks.Invoke slot) = Some slot
slot_named (asks.Frame frame) = None

-- it is refused, and not for want of memory
pub record IsAnswered (fault : AskFault) : Type 0 where
  pub call : fault ≢ Call calls.NoMemory
  pub frame : fault ≢ Frame frames.NoMemory

-- a call is refused by a call's fault, and a frame by a frame's
abbrev pub IsOfKind : Ask → Handled AskFault → Type 0
IsOfKind ask (Refused fault) = is_call_fault fault ≡ is_call ask
IsOfKind ask Full = ⊤
IsOfKind ask (Sent out) = ⊤

-- a fault is told as it is, unless memory was wanting
abbrev pub RefusesAsk : AskFault → Result (Handled AskFault) NoMemory → Type 0
RefusesAsk fault (Ok (Refused same)) = (same ≡ fault) × IsAnswered fault
RefusesAsk fault (Ok Full) = ⊥
RefusesAsk fault (Ok (Sent out)) = ⊥
RefusesAsk fault (Err wanting) = ⊤

-- a call that sends nothing is as answered; where it is refused, for want of memory too, all is as it was
abbrev pub Called : {A V S : Type 0} {v : verifiers.Ghosts V} {g : signers.Ghosts S} → Setup → ℕ → ClientValue →
    Result ClientDone CallFault → Result A CallFault → StandingClient V S v g → Type 0
Called s number c answer (Ok x) node = (d : ClientDone) × (answer ≡ Ok d) × HoldsAs s number node d.client
Called s number c answer (Err fault) node = (fault ≢ calls.NoMemory → answer ≡ Err fault) × HoldsAs s number node c

-- it is as answered: refused, or done where what is sent has room; else, and where memory is wanting, all is as it was
abbrev pub Answers : {V S : Type 0} {v : verifiers.Ghosts V} {g : signers.Ghosts S} → Setup → ℕ → ClientValue → Room →
    Result ClientDone AskFault → Result (Handled AskFault) NoMemory → StandingClient V S v g → Type 0
Answers s number c room answer (Ok (Refused fault)) node = (answer ≡ Err fault) × HoldsAs s number node c
Answers s number c room answer (Ok Full) node =
    (d : ClientDone) × (answer ≡ Ok d) × (fits room d.sent ≡ false) × HoldsAs s number node c
Answers s number c room answer (Ok (Sent out)) node =
    (d : ClientDone) × (answer ≡ Ok d) × (fits room d.sent ≡ true) × Holds out d.sent d.signed
    × HoldsAs s number node d.client
Answers s number c room answer (Err wanting) node = HoldsAs s number node c
