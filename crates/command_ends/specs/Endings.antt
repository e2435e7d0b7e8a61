-- What an ending is among the outcomes.
use Rattle.command_ends.specs.Outcome.{Outcome, BadLine, Written, Broken, Refused, RefusedAt, Stray, Full}
use Rattle.command_ends.specs.Outcome.{Undecided, TooLong}
use Rattle.command_ends.specs.declared.ending.Ending.{Ending}
use Rattle.command_ends.specs.declared.ending.Ending.TheVariants as ending

abbrev pub outcome_is : Ending → Outcome
outcome_is (ending.BadLine line reason) = BadLine line reason
outcome_is (ending.Written text) = Written text
outcome_is (ending.Broken broken) = Broken broken
outcome_is (ending.Refused reason) = Refused reason
outcome_is (ending.RefusedAt refusal) = RefusedAt refusal
outcome_is (ending.Stray line) = Stray line
outcome_is (ending.Full messages bytes) = Full messages bytes
outcome_is (ending.Undecided replies) = Undecided replies
outcome_is ending.TooLong = TooLong
