-- The first were read.
use Rattle.std.proofs.Common.{◌≡◌, length, map, string_bytes}
use Rattle.client_text.specs.Ops.{ops_of}
use Rattle.client_text.proofs.OpLaws.{behind}
use Rattle.client_text.proofs.plan.read_ops.Given as goal

abbrev pub invariant-loop-argument : goal.invariant-loop-argument
invariant-loop-argument l = behind l.ops.items (ops_of (map string_bytes l.left)) ≡ ops_of (map string_bytes l.arguments)

abbrev pub decreases-loop-argument : goal.decreases-loop-argument
decreases-loop-argument l = length l.left
