-- What the receiver of a frame does.
use Rattle.std.specs.Prelude.{◌≡◌, ℕ, true, false, List, Result, Ok, Err, ⊤}
use Rattle.basil_types.specs.declared.party.Party.{Party}
use Rattle.basil_types.specs.Words.{SignedWords}
use Rattle.cluster_nodes.specs.declared.handled.Handled.{Handled}
use Rattle.cluster_nodes.specs.declared.handled.Handled.TheVariants as handled
use Rattle.cluster_nodes.specs.Handling.{fits}
use Rattle.cluster_run.specs.declared.fault.WorldFault.{WorldFault}
use Rattle.cluster_run.specs.Parts.{refuse, send}
use Rattle.cluster_run.specs.States.{Setup, State}
use Rattle.keyring.specs.declared.verifier.Verifier as verifiers
use Rattle.keyring.specs.declared.signer.Signer as signers
use Rattle.message_pool.specs.Posts.{PoolValue}
use Rattle.node_steps.specs.Holding.{Holds}
use Rattle.node_steps.specs.Envelopes.{EnvelopeValue}
use Rattle.cluster_world.specs.declared.engine.Engine.{Engine}
use Rattle.cluster_world.specs.declared.fault.StepFault.{StepFault}
use Rattle.cluster_world.specs.declared.fault.StepFault.TheVariants as faults
use Rattle.cluster_world.specs.declared.taking.Took.{Took}
use Rattle.cluster_world.specs.declared.taking.Took.TheVariants.{Nothing, Refused, Sent}
use Rattle.cluster_world.specs.Sending.{HasRoomFor, IsWithin, full_of, room_of}
use Rattle.cluster_world.specs.Shows.{Stands}

-- what is sent has room in the pool
abbrev pub IsTaken : PoolValue → Took → Type 0
IsTaken pool Nothing = ⊤
IsTaken pool Refused = ⊤
IsTaken pool (Sent party out) = HasRoomFor pool out.messages.items

abbrev pub took_of : {E : Type 0} → PoolValue → Party → Handled E → Result Took StepFault
took_of pool party (handled.Refused fault) = Ok Refused
took_of pool party handled.Full = Err (full_of pool)
took_of pool party (handled.Sent out) = Ok (Sent party out)

-- how a frame of a number is handled
abbrev pub Handles : Type 0
Handles = (number : ℕ) → State → Result State WorldFault

-- it comes to this, whatever its number: a party signs and sends
pub record Sends (s : Setup) (handles : Handles) (st : State) : Type 0 where
  pub party : Party
  pub said : List SignedWords
  pub mail : List EnvelopeValue
  pub after : State
  pub same : after.pool ≡ st.pool
  pub watched : after.watch ≡ st.watch
  pub certified : after.certified ≡ st.certified
  pub is : (number : ℕ) → handles number st ≡ send s party said mail after

module _ {V S : Type 0} {v : verifiers.Ghosts V} {g : signers.Ghosts S} (s : Setup) (st : State) (pool : PoolValue)
    (handles : Handles) where
  -- as the frame is handled: nothing happens, or the node refuses it, or sends, if there is room; else all is as it was
  abbrev pub Takes : Engine V S v g → Result Took StepFault → Type 0
  Takes core (Ok Nothing) = ((number : ℕ) → handles number st ≡ Ok st) × Stands s core st
  Takes core (Ok Refused) = ((number : ℕ) → handles number st ≡ refuse number st) × Stands s core st
  Takes core (Ok (Sent party out)) =
      (a : Sends s handles st) × (party ≡ a.party) × (fits (room_of pool) a.mail ≡ true) × Holds out a.mail a.said
      × Stands s core a.after
  Takes core (Err (faults.World fault)) =
      (faults.World fault ≡ full_of pool) × IsWithin pool × (a : Sends s handles st)
      × (fits (room_of pool) a.mail ≡ false) × Stands s core st
  Takes core (Err faults.NoMemory) = ⊤
