use Rattle.std.proofs.Common.{arith}
use Rattle.lms_ots.proofs.LaneLaws.{moved-bound, moved-same, moved-all}
use Rattle.lms_ots.proofs.lanes.longest_first.Goals as goal

pub returns-clause-bound : goal.returns-clause-bound
returns-clause-bound c =
    moved-bound c.args.lanes.now c.sort_unstable_by_key.new.self (omega arith) c.requires c.sort_unstable_by_key.ensures.permutation

pub returns-clause-same : goal.returns-clause-same
returns-clause-same c =
    moved-same c.args.lanes.now c.sort_unstable_by_key.new.self (omega arith) c.requires c.sort_unstable_by_key.ensures.permutation

pub returns-clause-all : goal.returns-clause-all
returns-clause-all c = moved-all c.args.lanes.now c.sort_unstable_by_key.new.self (omega arith) c.sort_unstable_by_key.ensures.permutation
