use Rattle.run_begun.proofs.AddingLaws.{writes}
use Rattle.run_begun.proofs.laws.writes_are_added.Goals as goal

pub returns : goal.returns
returns c = writes
