-- How the journals of a run begin.
use Rattle.std.specs.Prelude.{List, ◌++◌}
use Rattle.keyring.specs.declared.verifier.Verifier as verifiers
use Rattle.keyring.specs.declared.signer.Signer as signers
use Rattle.run_journals.specs.declared.journals.Journals.{Journals}
use Rattle.run_journals.specs.Journals.{JournalValue}
use Rattle.cluster_run.specs.States.{Setup, Standing}
use Rattle.journaled_runs.specs.Journaling.{fresh_journals}
use Rattle.journaled_runs.specs.Shown.{Holds}

-- behind the others, whatever they hold, come those of the correct ones of these replicas
abbrev pub AddsJournals : {V S : Type 0} {v : verifiers.Ghosts V} {g : signers.Ghosts S} → Setup → List Standing →
    (old new : Journals V S v g) → Type 0
AddsJournals s more old new =
    (before : List JournalValue) → Holds s old before → Holds s new (before ++ fresh_journals s more)
