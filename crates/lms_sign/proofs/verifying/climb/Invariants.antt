use Rattle.std.proofs.Common.{◌≡◌, ◌/◌, ◌^◌}
use Rattle.lms_sign.specs.Verifying.{climbed, path_in}
use Rattle.lms_sign.proofs.verifying.climb.Given as goal

abbrev pub invariant-loop-level : goal.invariant-loop-level
invariant-loop-level l = record {
  number : l.number ≡ l.r / 2 ^ l.level;
  node : l.node ≡ climbed l.ident (path_in l.fn.set l.signature) l.r l.fn.leaf l.level;
}
