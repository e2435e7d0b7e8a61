use Rattle.std.proofs.Common.{◌≡◌, rules, ◌∙◌, sym, ap, List, ℕ, ◌/◌, ◌^◌}
use Rattle.std.proofs.Math.Nat.{div-one}
use Rattle.batch_sign.specs.Signatures.{leaf_number_in, path_in}
use Rattle.batch_sign.specs.Trees.{parent}
use Rattle.batch_sign.proofs.ClimbLaws.{climbed_more, climbed_none, halved_more}
use Rattle.batch_sign.proofs.climbing.climb.Goals as goal

pub loop-level-init : goal.loop-level-init
loop-level-init c =
    let signature = c.args.signature.now in
    record {
      depth = c.from-depth.ensures;
      number = c.leaf_number-number.ensures.number ∙ sym (div-one (leaf_number_in signature));
      node = sym (climbed_none (path_in signature) (leaf_number_in signature) c.args.leaf);
    }

pub loop-level-preserved : goal.loop-level-preserved
loop-level-preserved c =
    let signature = c.args.signature.now in
    let path = path_in signature in
    let x = leaf_number_in signature / 2 ^ c.loop-level.level in
    let sibling : c.path_node-sibling.result ≡ path c.loop-level.level = search rules in
    record {
      depth = c.loop-level.invariant.depth;
      number = ap (λ (k : ℕ). k / 2) c.loop-level.invariant.number ∙ sym (halved_more (leaf_number_in signature) c.loop-level.level);
      node = c.parent_of-next.ensures
          ∙ ap (λ (k : ℕ). parent k c.path_node-sibling.result c.loop-level.node) c.loop-level.invariant.number
          ∙ ap (λ (s : List ℕ). parent x s c.loop-level.node) sibling
          ∙ ap (parent x (path c.loop-level.level)) c.loop-level.invariant.node
          ∙ sym (climbed_more path (leaf_number_in signature) c.args.leaf c.loop-level.level);
    }
