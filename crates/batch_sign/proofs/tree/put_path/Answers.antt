use Rattle.std.proofs.Common.{◌≡◌, ◌<◌, ◌+◌, ◌*◌, ◌/◌, ◌^◌, ◌++◌, length, take, get_or}
use Rattle.std.proofs.Common.{[], sym, ap, ◌∙◌, subst, arith, List, ℕ, append_assoc}
use Rattle.std.proofs.lemmas.List.{append-nil}
use Rattle.std.proofs.Math.Nat.{div-one}
use Rattle.lms_ots.specs.Chains.{joined}
use Rattle.batch_sign.specs.Trees.{path_over, sibling}
use Rattle.batch_sign.proofs.ClimbLaws.{halved_more}
use Rattle.batch_sign.proofs.PathLaws.{path-stands, sibling_inside}
use Rattle.batch_sign.proofs.PieceLaws.{joined_more}
use Rattle.batch_sign.proofs.tree.put_path.Goals as goal

pub loop-level-init : goal.loop-level-init
unfolding joined
loop-level-init c =
    let none : c.args.at + 0 ≡ c.args.at = omega arith in
    record {
      number = sym (div-one c.args.r);
      written = ap (λ (k : ℕ). take k c.args.out.now) none ∙ sym (append-nil (take c.args.at c.args.out.now));
    }

pub loop-level-preserved : goal.loop-level-preserved
loop-level-preserved c =
    let k = c.loop-level.level in
    let path = path_over c.args.leaves.now c.args.depth c.args.r in
    let front = take c.args.at c.args.out.now in
    let stands = path-stands c.args.leaves.now c.args.depth c.args.nodes.now c.args.r k c.requires.filled (omega arith)
    c.requires.leaf c.requires.inside in
    let number : c.sibling_of.result ≡ sibling (c.args.r / 2 ^ k) = c.sibling_of.ensures ∙ ap sibling c.loop-level.invariant.number in
    let is : get_or c.args.nodes.now c.sibling_of.result [] ≡ path k = ap (λ (i : ℕ). get_or c.args.nodes.now i []) number ∙ stands in
    let low = sibling_inside c.args.depth k c.args.r (omega arith) c.requires.inside in
    let inside : c.sibling_of.result < length c.args.nodes.now = omega (arith, number, low) in
    let long : length (get_or c.args.nodes.now c.sibling_of.result []) ≡ 32 = c.told-nodes c.sibling_of.result inside in
    let end : c.args.at + 32 * k + length (get_or c.args.nodes.now c.sibling_of.result []) ≡ c.args.at + 32 * (k + 1) = omega arith in
    let put : take (c.args.at + 32 * (k + 1)) c.put.new.out
    ≡ take (c.args.at + 32 * k) c.loop-level.out ++ get_or c.args.nodes.now c.sibling_of.result [] =
    subst (λ (n : ℕ). take n c.put.new.out ≡ take (c.args.at + 32 * k) c.loop-level.out ++ get_or c.args.nodes.now c.sibling_of.result [])
    end c.put.ensures in
    record {
      number = ap (λ (n : ℕ). n / 2) c.loop-level.invariant.number ∙ sym (halved_more c.args.r k);
      written = put ∙ ap (λ (t : List ℕ). t ++ get_or c.args.nodes.now c.sibling_of.result []) c.loop-level.invariant.written
          ∙ ap (λ (t : List ℕ). (front ++ joined path k) ++ t) is
          ∙ append_assoc front (joined path k) (path k) ∙ ap (λ (t : List ℕ). front ++ t) (sym (joined_more path k));
    }
