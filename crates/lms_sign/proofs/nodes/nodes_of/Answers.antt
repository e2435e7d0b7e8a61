use Rattle.std.proofs.Common.{◌≡◌, ℕ, List, ◌+◌, ◌-◌, ◌*◌, ◌<◌, arith, sym, subst, refl, ◌∙◌, get_or, [], length}
use Rattle.std.proofs.Math.ListN.{set}
use Rattle.lms_sign.specs.Sets.{leaves_of}
use Rattle.lms_sign.specs.Tree.{inner_node, tree_of}
use Rattle.lms_sign.specs.Filled.{AreLeavesBelow, AreNodesFrom}
use Rattle.lms_sign.proofs.TreeLaws.{get_or-same, from_leaves, goes_up}
use Rattle.lms_sign.proofs.nodes.nodes_of.Goals as goal

pub loop-done-init : goal.loop-done-init
loop-done-init c =
    let tree = tree_of c.args.set c.args.ident.now c.args.seed.now in
    let all : c.loop-q.q ≡ leaves_of c.args.set = omega arith in
    let leaves : AreLeavesBelow tree (leaves_of c.args.set) c.loop-q.nodes.items =
    subst (λ (x : ℕ). AreLeavesBelow tree x c.loop-q.nodes.items) all c.loop-q.invariant.filled in
    record {
      leaves_is = c.loop-q.invariant.leaves_is;
      len = c.loop-q.invariant.len;
      filled = subst (λ (x : ℕ). AreNodesFrom tree x c.loop-q.nodes.items) (omega arith) (from_leaves tree c.loop-q.nodes.items leaves);
    }

pub loop-done-preserved : goal.loop-done-preserved
loop-done-preserved c =
    let tree = tree_of c.args.set c.args.ident.now c.args.seed.now in
    let nodes = c.loop-done.nodes.items in
    let r = c.leaves-leaves.result - c.loop-done.done in
    let so_far : AreNodesFrom tree (r + 1) nodes =
    subst (λ (x : ℕ). AreNodesFrom tree x nodes) (omega arith) c.loop-done.invariant.filled in
    let room : 2 * r + 1 < length nodes = omega arith in
    let left : c.index.result.now ≡ get_or nodes (2 * r) [] = c.index.ensures ∙ get_or-same nodes (2 * r) _ [] (omega arith) in
    let right : c.index-in-loop-done.result.now ≡ get_or nodes (2 * r + 1) [] =
    c.index-in-loop-done.ensures ∙ get_or-same nodes (2 * r + 1) _ [] room in
    let is : c.inner.result ≡ inner_node tree.ident r (get_or nodes (2 * r) []) (get_or nodes (2 * r + 1) []) =
    c.inner.ensures ∙ rw (← left, ← right) refl in
    let up = goes_up tree nodes r (omega arith) (omega arith) room so_far in
    record {
      leaves_is = c.loop-done.invariant.leaves_is;
      len = c.loop-done.invariant.len;
      filled = subst (λ (x : ℕ). AreNodesFrom tree x (set nodes r c.inner.result))
          (omega arith) (subst (λ (v : List ℕ). AreNodesFrom tree r (set nodes r v)) (sym is) up);
    }
