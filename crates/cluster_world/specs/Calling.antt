-- What a call comes to that a client of a world, or a transaction that was begun, answers at once.
use Rattle.std.specs.Prelude.{◌≡◌, ◌≢◌, ℕ, Option, Some, None, Result, Ok, Err}
use Rattle.basil_types.specs.Transaction.{id}
use Rattle.client_core.specs.Clients.{ClientDone, ClientValue}
use Rattle.client_core.specs.Slots.{slot_of_id}
use Rattle.client_steps.specs.declared.fault.CallFault.{CallFault}
use Rattle.client_steps.specs.declared.fault.CallFault.TheVariants as calls
use Rattle.cluster_run.specs.declared.fault.WorldFault.{WorldFault}
use Rattle.cluster_run.specs.declared.fault.WorldFault.TheVariants as worlds
use Rattle.cluster_run.specs.Events.{at_formed, by_client, held_call, set_begun}
use Rattle.cluster_run.specs.States.{BegunValue, FormedValue, Setup, State}
use Rattle.keyring.specs.declared.verifier.Verifier as verifiers
use Rattle.keyring.specs.declared.signer.Signer as signers
use Rattle.cluster_world.specs.Asking.{with_client}
use Rattle.cluster_world.specs.declared.engine.Engine.{Engine}
use Rattle.cluster_world.specs.declared.fault.StepFault.{StepFault}
use Rattle.cluster_world.specs.declared.fault.StepFault.TheVariants as faults
use Rattle.cluster_world.specs.Shows.{Shows}

module _ {V S : Type 0} {v : verifiers.Ghosts V} {g : signers.Ghosts S} (s : Setup) (st : State) where
  -- a call that sends nothing is done by the client at this place, or refused; memory may be wanting
  abbrev pub CallsAt : (place : ℕ) → {A : Type 0} → Result ClientDone CallFault → Engine V S v g → Result A CallFault →
      Type 0
  CallsAt place answer core (Ok x) = (d : ClientDone) × (answer ≡ Ok d) × Shows s core (with_client place d.client st)
  CallsAt place answer core (Err fault) = (fault ≢ calls.NoMemory → answer ≡ Err fault) × Shows s core st

  -- a begun transaction is another from now on, or what is added is refused; memory may be wanting
  abbrev pub AddsTo : (tx : ℕ) → Result BegunValue CallFault → Engine V S v g → Result (Unit {0}) CallFault → Type 0
  AddsTo tx answer core (Ok done) = (after : BegunValue) × (answer ≡ Ok after) × Shows s core (set_begun tx after st)
  AddsTo tx answer core (Err fault) = (fault ≢ calls.NoMemory → answer ≡ Err fault) × Shows s core st

-- a call of a client on a slot that it holds
abbrev pub SlotCall : Type 0
SlotCall = ClientValue → (slot : ℕ) → Result ClientDone CallFault

-- on the slot of a formed transaction
abbrev pub holds_at : Setup → (client : ℕ) → SlotCall → FormedValue → State → Result State WorldFault
holds_at s client call f st = by_client s client (λ c. held_call (slot_of_id c (id f.transaction)) (call c)) st

-- nothing is formed, or nobody has this number; it is in this slot; or the client doesn't hold it
abbrev pub IsHeld : Setup → State → (tx client : ℕ) → Result (Option ℕ) StepFault → Type 0
IsHeld s st tx client (Ok None) = (call : SlotCall) → at_formed tx (holds_at s client call) st ≡ Ok st
IsHeld s st tx client (Ok (Some slot)) =
    (call : SlotCall) → at_formed tx (holds_at s client call) st ≡ by_client s client (λ c. call c slot) st
IsHeld s st tx client (Err fault) =
    (fault ≡ faults.World (worlds.Call calls.NotPrepared))
    × ((call : SlotCall) → at_formed tx (holds_at s client call) st ≡ Err (worlds.Call calls.NotPrepared))
