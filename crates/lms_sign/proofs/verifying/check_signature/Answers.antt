use Rattle.std.proofs.Common.{rules}
use Rattle.lms_sign.proofs.verifying.check_signature.Goals as goal

pub returns-then-read_number-leaves : goal.returns-then-read_number-leaves
returns-then-read_number-leaves c = search rules

pub root_of-root-requires-clause-size : goal.root_of-root-requires-clause-size
root_of-root-requires-clause-size c = search rules

pub root_of-root-requires-clause-one_time_type : goal.root_of-root-requires-clause-one_time_type
root_of-root-requires-clause-one_time_type c = search rules

pub root_of-root-requires-clause-range : goal.root_of-root-requires-clause-range
root_of-root-requires-clause-range c = search rules

pub returns-then-ne : goal.returns-then-ne
returns-then-ne c = search rules

pub returns : goal.returns
returns c = search rules
