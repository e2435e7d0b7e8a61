use Rattle.std.proofs.Common.{◌≡◌, ◌≤◌, ◌*◌}
use Rattle.lms_ots.specs.Sets.{last_of}
use Rattle.lms_ots.specs.Digits.{missing}
use Rattle.lms_ots.proofs.digits.missing_sum.Given as goal

abbrev pub invariant-loop-i : goal.invariant-loop-i
invariant-loop-i l = record { value : l.sum ≡ missing l.set l.digest l.i; bound : l.sum ≤ last_of l.set * l.i }
