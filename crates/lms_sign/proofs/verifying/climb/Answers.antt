use Rattle.std.proofs.Common.{◌≡◌, rules, ◌∙◌, sym, ap, List, ℕ, ◌/◌, ◌^◌}
use Rattle.lms_sign.specs.Verifying.{path_in, parent}
use Rattle.lms_sign.proofs.PathLaws.{halved_more, climbed_more}
use Rattle.lms_sign.proofs.verifying.climb.Goals as goal

pub loop-level-preserved : goal.loop-level-preserved
loop-level-preserved c =
    let ident = c.args.ident.now in
    let path = path_in c.args.set c.args.signature.now in
    let x = c.args.r / 2 ^ c.loop-level.level in
    let sibling : c.read_node-sibling.result ≡ path c.loop-level.level = search rules in
    record {
      number = ap (λ (k : ℕ). k / 2) c.loop-level.invariant.number ∙ sym (halved_more c.args.r c.loop-level.level);
      node = c.parent_of-next.ensures
          ∙ ap (λ (k : ℕ). parent ident k c.read_node-sibling.result c.loop-level.node) c.loop-level.invariant.number
          ∙ ap (λ (s : List ℕ). parent ident x s c.loop-level.node) sibling
          ∙ ap (parent ident x (path c.loop-level.level)) c.loop-level.invariant.node
          ∙ sym (climbed_more ident path c.args.r c.args.leaf c.loop-level.level);
    }
