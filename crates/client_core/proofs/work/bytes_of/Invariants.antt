use Rattle.std.proofs.Common.{◌≡◌, ◌+◌}
use Rattle.std.specs.Prelude.{drop}
use Rattle.node_steps.specs.Pendings.{bytes_sent}
use Rattle.client_core.proofs.work.bytes_of.Given as goal

abbrev pub invariant-loop-envelope : goal.invariant-loop-envelope
invariant-loop-envelope l = l.bytes + bytes_sent (drop l.envelope-index l.messages) ≡ bytes_sent l.messages
