-- What a client of a world does that is asked.
use Rattle.std.specs.Prelude.{◌≡◌, ◌≢◌, ℕ, suc, true, false, Option, Some, None, Result, Ok, Err, slice_set, ⊤}
use Rattle.node_steps.specs.Holding.{Holds}
use Rattle.basil_types.specs.declared.memory.NoMemory.{NoMemory}
use Rattle.client_core.specs.Asks.{by_call}
use Rattle.client_core.specs.Calls.{call_recover}
use Rattle.client_core.specs.Clients.{ClientDone, ClientValue}
use Rattle.client_core.specs.declared.ask.AskFault.{AskFault}
use Rattle.client_core.specs.declared.ask.Ask.TheVariants as asks
use Rattle.client_steps.specs.declared.fault.CallFault.{CallFault}
use Rattle.client_steps.specs.declared.fault.CallFault.TheVariants as calls
use Rattle.cluster_nodes.specs.Asking.{IsOfKind}
use Rattle.cluster_nodes.specs.declared.handled.Handled.{Handled}
use Rattle.cluster_nodes.specs.declared.handled.Handled.TheVariants.{Refused, Full, Sent}
use Rattle.cluster_nodes.specs.Handling.{fits}
use Rattle.cluster_run.specs.Parts.{client_self}
use Rattle.cluster_run.specs.States.{FormedValue, Setup, State}
use Rattle.keyring.specs.declared.verifier.Verifier as verifiers
use Rattle.keyring.specs.declared.signer.Signer as signers
use Rattle.message_pool.specs.Posts.{PoolValue}
use Rattle.cluster_world.specs.Beginning.{formed_in}
use Rattle.cluster_world.specs.declared.engine.Engine.{Engine}
use Rattle.cluster_world.specs.Sending.{HasRoomFor, IsWithin, room_of}
use Rattle.cluster_world.specs.Shows.{Shows, Stands}

-- the client at this place is another
abbrev pub with_client : ℕ → ClientValue → State → State
with_client place c st = record st { clients = slice_set st.clients place c }

-- what is sent has room in the pool; one that is full is within its limits
abbrev pub HasEntry : {E : Type 0} → PoolValue → Handled E → Type 0
HasEntry pool (Refused fault) = ⊤
HasEntry pool Full = IsWithin pool
HasEntry pool (Sent out) = HasRoomFor pool out.messages.items

-- and a call is refused by its fault
pub record IsAnswer (pool : PoolValue) (handled : Handled AskFault) : Type 0 where
  pub kind : IsOfKind (asks.Prepare 0) handled
  pub within : HasEntry pool handled

module _ {V S : Type 0} {v : verifiers.Ghosts V} {g : signers.Ghosts S} (s : Setup) (st : State) (place : ℕ)
    (pool : PoolValue) where
  -- it is as answered: refused, or done where what is sent has room; else all is as it was
  abbrev pub Does : Result ClientDone AskFault → Engine V S v g → Handled AskFault → Type 0
  Does answer core (Refused fault) = (answer ≡ Err fault) × Stands s core st
  Does answer core Full = (d : ClientDone) × (answer ≡ Ok d) × (fits (room_of pool) d.sent ≡ false) × Stands s core st
  Does answer core (Sent out) =
      (d : ClientDone) × (answer ≡ Ok d) × (fits (room_of pool) d.sent ≡ true) × Holds out d.sent d.signed
      × Stands s core (with_client place d.client st)

  abbrev pub Asked : Result ClientDone AskFault → Engine V S v g → Result (Handled AskFault) NoMemory → Type 0
  Asked answer core (Ok handled) = Does answer core handled
  Asked answer core (Err wanting) = ⊤

module _ {V S : Type 0} {v : verifiers.Ghosts V} {g : signers.Ghosts S} (s : Setup) (st : State) (tx place : ℕ)
    (c : ClientValue) (pool : PoolValue) where
  -- nothing is formed, or the client is asked to recover what is
  abbrev pub Recovers : Engine V S v g → Result (Option (Handled AskFault)) NoMemory → Type 0
  Recovers core (Ok None) = (formed_in st.begun tx ≡ None) × Stands s core st
  Recovers core (Ok (Some handled)) =
      (f : FormedValue) × (formed_in st.begun tx ≡ Some f)
      × Does s st place pool
      (by_call (call_recover (client_self s (suc place)) c f.transaction f.signature)) core handled
  Recovers core (Err wanting) = ⊤

module _ {V S : Type 0} {v : verifiers.Ghosts V} {g : signers.Ghosts S} (s : Setup) (st : State) (place : ℕ) where
  -- a call that sends nothing is done, or refused; memory may be wanting
  abbrev pub Writes : Result ClientDone CallFault → Engine V S v g → Result (Unit {0}) CallFault → Type 0
  Writes answer core (Ok done) = (d : ClientDone) × (answer ≡ Ok d) × Shows s core (with_client place d.client st)
  Writes answer core (Err fault) = (fault ≢ calls.NoMemory → answer ≡ Err fault) × Shows s core st
