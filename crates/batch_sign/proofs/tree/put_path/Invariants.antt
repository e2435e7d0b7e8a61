use Rattle.std.proofs.Common.{◌≡◌, ◌/◌, ◌^◌, ◌+◌, ◌*◌, ◌++◌, take}
use Rattle.lms_ots.specs.Chains.{joined}
use Rattle.batch_sign.specs.Trees.{path_over}
use Rattle.batch_sign.proofs.tree.put_path.Given as goal

abbrev pub invariant-loop-level : goal.invariant-loop-level
invariant-loop-level l = record {
  number : l.number ≡ l.r / 2 ^ l.level;
  written : take (l.at + 32 * l.level) l.out ≡ take l.at l.fn.out ++ joined (path_over l.leaves l.fn.depth l.r) l.level;
}
