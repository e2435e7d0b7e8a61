use Rattle.std.proofs.Common.{◌≡◌, ◌/◌, ◌^◌}
use Rattle.batch_sign.specs.Trees.{climbed}
use Rattle.batch_sign.specs.Signatures.{depth_in, leaf_number_in, path_in}
use Rattle.batch_sign.proofs.climbing.climb.Given as goal

abbrev pub invariant-loop-level : goal.invariant-loop-level
invariant-loop-level l = record {
  depth : l.depth ≡ depth_in l.signature;
  number : l.number ≡ leaf_number_in l.signature / 2 ^ l.level;
  node : l.node ≡ climbed (path_in l.signature) (leaf_number_in l.signature) l.fn.leaf l.level;
}
