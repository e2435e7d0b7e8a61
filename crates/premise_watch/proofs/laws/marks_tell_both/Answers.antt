use Rattle.premise_watch.proofs.Halves as halves
use Rattle.premise_watch.proofs.laws.marks_tell_both.Goals as goal

pub returns : goal.returns
returns c = halves.marks_tell_both
