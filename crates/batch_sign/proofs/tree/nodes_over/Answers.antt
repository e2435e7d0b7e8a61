use Rattle.std.proofs.Common.{◌≡◌, ℕ, List, ◌+◌, ◌-◌, ◌*◌, ◌^◌, ◌<◌, arith, sym, subst, refl, ◌∙◌, get_or, [], length}
use Rattle.std.proofs.Math.ListN.{set}
use Rattle.batch_sign.specs.Trees.{inner_node}
use Rattle.batch_sign.specs.Filled.{AreLeavesBelow, AreNodesFrom}
use Rattle.batch_sign.proofs.TreeLaws.{from_leaves, get_or-same, goes_up, leaf_more}
use Rattle.batch_sign.proofs.tree.nodes_over.Goals as goal

pub loop-place-preserved : goal.loop-place-preserved
loop-place-preserved c =
    let leaves = c.args.leaves.now in
    let h = c.args.depth in
    let nodes = c.loop-place.nodes.items in
    let place = c.loop-place.place in
    record {
      width_is = c.loop-place.invariant.width_is;
      len = c.loop-place.invariant.len;
      filled = subst (λ (w : ℕ). AreLeavesBelow leaves h (place + 1) (set nodes (w + place) c.leaf_at.result))
          (sym c.loop-place.invariant.width_is)
          (leaf_more leaves h nodes place c.leaf_at.result (omega arith) c.leaf_at.ensures c.loop-place.invariant.filled);
    }

pub loop-done-init : goal.loop-done-init
loop-done-init c =
    let leaves = c.args.leaves.now in
    let h = c.args.depth in
    let nodes = c.loop-place.nodes.items in
    let all : c.loop-place.place ≡ 2 ^ h = omega arith in
    let filled : AreLeavesBelow leaves h (2 ^ h) nodes =
    subst (λ (x : ℕ). AreLeavesBelow leaves h x nodes) all c.loop-place.invariant.filled in
    record {
      width_is = c.loop-place.invariant.width_is;
      len = c.loop-place.invariant.len;
      filled = subst (λ (x : ℕ). AreNodesFrom leaves h x nodes) (omega arith) (from_leaves leaves h nodes filled);
    }

pub loop-done-preserved : goal.loop-done-preserved
loop-done-preserved c =
    let leaves = c.args.leaves.now in
    let h = c.args.depth in
    let nodes = c.loop-done.nodes.items in
    let r = c.from-width.result - c.loop-done.done in
    let so_far : AreNodesFrom leaves h (r + 1) nodes =
    subst (λ (x : ℕ). AreNodesFrom leaves h x nodes) (omega arith) c.loop-done.invariant.filled in
    let room : 2 * r + 1 < length nodes = omega arith in
    let left : c.index.result.now ≡ get_or nodes (2 * r) [] = c.index.ensures ∙ get_or-same nodes (2 * r) _ [] (omega arith) in
    let right : c.index-in-loop-done.result.now ≡ get_or nodes (2 * r + 1) [] =
    c.index-in-loop-done.ensures ∙ get_or-same nodes (2 * r + 1) _ [] room in
    let is : c.inner.result ≡ inner_node (get_or nodes (2 * r) []) (get_or nodes (2 * r + 1) []) =
    c.inner.ensures ∙ rw (← left, ← right) refl in
    let up = goes_up leaves h nodes r (omega arith) (omega arith) room so_far in
    record {
      width_is = c.loop-done.invariant.width_is;
      len = c.loop-done.invariant.len;
      filled = subst (λ (x : ℕ). AreNodesFrom leaves h x (set nodes r c.inner.result))
          (omega arith) (subst (λ (v : List ℕ). AreNodesFrom leaves h r (set nodes r v)) (sym is) up);
    }
