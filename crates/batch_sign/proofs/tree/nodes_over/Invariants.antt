use Rattle.std.proofs.Common.{◌≡◌, ◌*◌, ◌+◌, ◌-◌, ◌^◌, vec_len}
use Rattle.batch_sign.specs.Filled.{AreLeavesBelow, AreNodesFrom}
use Rattle.batch_sign.proofs.tree.nodes_over.Given as goal

abbrev pub invariant-loop-place : goal.invariant-loop-place
invariant-loop-place l = record {
  width_is : l.width ≡ 2 ^ l.fn.depth;
  len : vec_len l.nodes ≡ 2 * 2 ^ l.fn.depth;
  filled : AreLeavesBelow l.leaves l.fn.depth l.place l.nodes.items;
}

abbrev pub invariant-loop-done : goal.invariant-loop-done
invariant-loop-done l = record {
  width_is : l.width ≡ 2 ^ l.fn.depth;
  len : vec_len l.nodes ≡ 2 * 2 ^ l.fn.depth;
  filled : AreNodesFrom l.fn.leaves l.fn.depth (l.width + 1 - l.done) l.nodes.items;
}
