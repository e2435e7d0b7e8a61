use Rattle.std.proofs.Common.{◌≡◌, ◌/◌, ◌^◌, ◌+◌, ◌*◌, ◌++◌, take}
use Rattle.lms_ots.specs.Chains.{joined}
use Rattle.lms_sign.specs.Tree.{tree_of}
use Rattle.lms_sign.specs.Signing.{path_of}
use Rattle.lms_sign.proofs.signing.put_path.Given as goal

abbrev pub invariant-loop-level : goal.invariant-loop-level
invariant-loop-level l = record {
  number : l.number ≡ l.r / 2 ^ l.level;
  written : take (l.at + 32 * l.level) l.out ≡ take l.at l.fn.out ++ joined (path_of (tree_of l.fn.set l.ident l.seed) l.r) l.level;
}
