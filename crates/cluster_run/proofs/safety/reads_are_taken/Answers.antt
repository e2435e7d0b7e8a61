use Rattle.cluster_run.proofs.Reading as reading
use Rattle.cluster_run.proofs.safety.reads_are_taken.Goals as goal

pub returns : goal.returns
returns c = reading.reads_are_taken c.versions_are_told_apart.ensures c.choices_are_taken.ensures
