use Rattle.std.proofs.Common.{◌≡◌, ◌+◌}
use Rattle.std.specs.Prelude.{drop}
use Rattle.node_steps.specs.Pendings.{bytes_in}
use Rattle.node_steps.proofs.pending.Pending.bytes.Given as goal

abbrev pub invariant-loop-unsigned : goal.invariant-loop-unsigned
invariant-loop-unsigned l = l.bytes + bytes_in l.size (drop l.unsigned-index l.self.frames.items) ≡ bytes_in l.size l.self.frames.items
