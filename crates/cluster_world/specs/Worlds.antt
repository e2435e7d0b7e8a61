-- What a world is.
use Rattle.std.specs.Prelude.{◌≡◌, List, Bool, true, false, Result, Ok, Err}
use Rattle.cluster_run.specs.declared.fault.WorldFault.TheVariants.{Broken}
use Rattle.cluster_run.specs.Events.{EventValue, run}
use Rattle.cluster_run.specs.Headline.{IsSafe}
use Rattle.cluster_run.specs.Safety.{AreEvents}
use Rattle.cluster_run.specs.States.{IsSetup, KitValue, Setup, State, start}
use Rattle.keyring.specs.declared.verifier.Verifier as verifiers
use Rattle.keyring.specs.declared.signer.Signer as signers
use Rattle.cluster_world.specs.declared.engine.Engine.{Engine}
use Rattle.cluster_world.specs.declared.fault.StepFault.{StepFault}
use Rattle.cluster_world.specs.declared.fault.StepFault.TheVariants as faults
use Rattle.cluster_world.specs.Shows.{Shows}

-- a breach, and want of memory, end a world
abbrev pub is_end : Result (Unit {0}) StepFault → Bool
is_end (Err (faults.World (Broken b))) = true
is_end (Err faults.NoMemory) = true
is_end _ = false

module _ {V S : Type 0} {v : verifiers.Ghosts V} {g : signers.Ghosts S} (engine : Engine V S v g) where
  -- what it shows is what some run of this kit without a breach comes to
  pub record Ran (k : KitValue) : Type 0 where
    pub setup : Setup
    pub proper : IsSetup setup
    pub kit : setup.kit ≡ k
    pub events : List EventValue
    pub sized : AreEvents events
    pub state : State
    pub comes : run setup events (start setup) ≡ Ok state
    pub shows : Shows setup engine state

  -- and that run is safe
  pub record RanSafely (k : KitValue) : Type 0 where
    pub ran : Ran k
    pub safe : IsSafe ran.setup ran.state
