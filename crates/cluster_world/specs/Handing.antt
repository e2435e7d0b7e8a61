-- What handing a frame to its receiver comes to.
use Rattle.std.specs.Prelude.{◌≡◌, ℕ, false, List, Result, Ok, Err, ⊤}
use Rattle.basil_types.specs.declared.party.Party.{Party}
use Rattle.cluster_nodes.specs.Handling.{fits}
use Rattle.cluster_run.specs.declared.fault.WorldFault.TheVariants.{Broken, PoolFull, Call, Exhausted}
use Rattle.cluster_run.specs.Parts.{handle, see}
use Rattle.cluster_run.specs.States.{Setup, State}
use Rattle.keyring.specs.declared.verifier.Verifier as verifiers
use Rattle.keyring.specs.declared.signer.Signer as signers
use Rattle.message_pool.specs.Posts.{PoolValue}
use Rattle.cluster_world.specs.declared.engine.Engine.{Engine}
use Rattle.cluster_world.specs.declared.fault.StepFault.{StepFault}
use Rattle.cluster_world.specs.declared.fault.StepFault.TheVariants as faults
use Rattle.cluster_world.specs.declared.taking.Took.{Took}
use Rattle.cluster_world.specs.Sending.{IsWithin, full_of, room_of}
use Rattle.cluster_world.specs.Shows.{Stands}
use Rattle.cluster_world.specs.Taking.{Handles, Sends, Takes}

abbrev pub handling : Setup → (from to : Party) → List ℕ → Handles
handling s from to frame number now = handle s number from to frame now

module _ {V S : Type 0} {v : verifiers.Ghosts V} {g : signers.Ghosts S} (s : Setup) (st : State) (pool : PoolValue)
    (from to : Party) (frame : List ℕ) where
  -- it is seen, and then as it is handled; where there is no room for what would be sent, all is as it was
  abbrev pub Hands : Engine V S v g → Result Took StepFault → Type 0
  Hands core (Ok took) =
      (seen : State) × (see s frame st ≡ Ok seen) × Takes s seen pool (handling s from to frame) core (Ok took)
  Hands core (Err (faults.World (Broken b))) = see s frame st ≡ Err (Broken b)
  Hands core (Err (faults.World (PoolFull messages bytes))) =
      (faults.World (PoolFull messages bytes) ≡ full_of pool)
      × IsWithin pool × (seen : State) × (see s frame st ≡ Ok seen) × (a : Sends s (handling s from to frame) seen)
      × (fits (room_of pool) a.mail ≡ false) × Stands s core st
  Hands core (Err (faults.World (Call fault))) = ⊥
  Hands core (Err (faults.World (Exhausted party))) = ⊥
  Hands core (Err faults.NoMemory) = ⊤
