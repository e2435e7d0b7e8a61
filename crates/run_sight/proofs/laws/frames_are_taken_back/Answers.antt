use Rattle.run_sight.proofs.BackLaws.{taken}
use Rattle.run_sight.proofs.laws.frames_are_taken_back.Goals as goal

pub returns : goal.returns
returns c = taken
