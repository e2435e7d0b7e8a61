use Rattle.frame_fitting.proofs.LengthLaws.{frame_length}
use Rattle.frame_fitting.proofs.lengths.below_the_limit.Goals as goal

pub returns : goal.returns
returns c = λ cluster m is fits short. frame_length cluster is m fits short
