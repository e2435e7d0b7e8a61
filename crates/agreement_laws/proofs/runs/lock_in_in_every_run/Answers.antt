use Rattle.agreement_laws.specs.Runs.{run, start}
use Rattle.agreement_laws.proofs.runs.lock_in_in_every_run.Goals as goal

pub returns : goal.returns
returns c =
    λ setting sane es lawful. c.lock_in.ensures setting sane (run es start) (c.invariant_in_every_run.ensures setting sane es lawful)
