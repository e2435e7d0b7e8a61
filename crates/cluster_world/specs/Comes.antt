-- What an event comes to.
use Rattle.std.specs.Prelude.{◌≡◌, Result, Ok, Err, ⊤}
use Rattle.keyring.specs.declared.verifier.Verifier as verifiers
use Rattle.keyring.specs.declared.signer.Signer as signers
use Rattle.cluster_run.specs.declared.fault.WorldFault.{WorldFault}
use Rattle.cluster_run.specs.declared.fault.WorldFault.TheVariants.{Broken, PoolFull, Call, Exhausted}
use Rattle.cluster_run.specs.States.{Setup, State}
use Rattle.cluster_world.specs.declared.engine.Engine.{Engine}
use Rattle.cluster_world.specs.declared.fault.StepFault.{StepFault}
use Rattle.cluster_world.specs.declared.fault.StepFault.TheVariants as fault
use Rattle.cluster_world.specs.Shows.{Shows}

module _ {V S : Type 0} {v : verifiers.Ghosts V} {g : signers.Ghosts S} (s : Setup) (st : State) where
  -- Ok exactly where the answer is, and then the world shows what it leaves; a refusal is the answer's, and leaves all
  -- as before; a breach is the answer's, and ends the run; so does want of memory
  abbrev pub Comes : Result State WorldFault → Engine V S v g → Result (Unit {0}) StepFault → Type 0
  Comes answer core (Ok done) = (after : State) × (answer ≡ Ok after) × Shows s core after
  Comes answer core (Err (fault.World (Broken b))) = answer ≡ Err (Broken b)
  Comes answer core (Err (fault.World (PoolFull messages bytes))) =
      (answer ≡ Err (PoolFull messages bytes)) × Shows s core st
  Comes answer core (Err (fault.World (Call f))) = (answer ≡ Err (Call f)) × Shows s core st
  Comes answer core (Err (fault.World (Exhausted party))) = (answer ≡ Err (Exhausted party)) × Shows s core st
  Comes answer core (Err fault.NoMemory) = ⊤
