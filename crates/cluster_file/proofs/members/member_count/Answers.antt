use Rattle.std.proofs.Common.{arith}
use Rattle.cluster_file.proofs.Objects.{counted}
use Rattle.cluster_file.proofs.members.member_count.Goals as goal

pub returns-in-Object : goal.returns-in-Object
returns-in-Object c = counted c.args.value.now c.in-Object.object c.len.result c.in-Object.is (omega arith)
