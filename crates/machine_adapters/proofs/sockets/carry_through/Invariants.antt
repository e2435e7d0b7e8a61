use Rattle.std.proofs.Common.{◌≤◌, ◌-◌, length}
use Rattle.machine_adapters.proofs.sockets.carry_through.Given as goal

abbrev pub invariant-loop-done : goal.invariant-loop-done
invariant-loop-done g l = (l.done ≤ length l.frame) × (length l.frame ≤ length l.given)

abbrev pub decreases-loop-done : goal.decreases-loop-done
decreases-loop-done g l = length l.frame - l.done
