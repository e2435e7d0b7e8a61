use Rattle.std.proofs.Common.{◌≡◌, ◌*◌, ◌+◌, ◌-◌, vec_len}
use Rattle.lms_sign.specs.Sets.{leaves_of}
use Rattle.lms_sign.specs.Tree.{tree_of}
use Rattle.lms_sign.specs.Filled.{AreLeavesBelow, AreNodesFrom}
use Rattle.lms_sign.proofs.nodes.nodes_of.Given as goal

abbrev pub invariant-loop-q : goal.invariant-loop-q
invariant-loop-q l = record {
  leaves_is : l.leaves ≡ leaves_of l.set;
  len : vec_len l.nodes ≡ 2 * leaves_of l.set;
  filled : AreLeavesBelow (tree_of l.set l.ident l.seed) l.q l.nodes.items;
}

abbrev pub invariant-loop-done : goal.invariant-loop-done
invariant-loop-done l = record {
  leaves_is : l.leaves ≡ leaves_of l.fn.set;
  len : vec_len l.nodes ≡ 2 * leaves_of l.fn.set;
  filled : AreNodesFrom (tree_of l.fn.set l.ident l.seed) (l.leaves + 1 - l.done) l.nodes.items;
}
