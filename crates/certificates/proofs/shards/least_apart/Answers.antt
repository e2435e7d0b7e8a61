use Rattle.std.proofs.Common.{◌∙◌, sym, arith}
use Rattle.certificates.specs.Marks.{is_apart}
use Rattle.certificates.proofs.ShardLaws.{find_here, find_later, find_past}
use Rattle.certificates.proofs.shards.least_apart.Goals as goal

pub loop-shard-preserved : goal.loop-shard-preserved
loop-shard-preserved c =
    sym (find_later (is_apart c.args.marks.now c.args.others.now) c.loop-shard.shard (omega arith) cc) ∙ c.loop-shard.invariant

pub returns-then-is_apart : goal.returns-then-is_apart
returns-then-is_apart c =
    sym (find_here (is_apart c.args.marks.now c.args.others.now) c.loop-shard.shard (omega arith) cc) ∙ c.loop-shard.invariant

pub returns : goal.returns
returns c = sym (find_past (is_apart c.args.marks.now c.args.others.now) c.loop-shard.shard (omega arith)) ∙ c.loop-shard.invariant
