use Rattle.std.proofs.Common.{rules, ◌≡◌, ℕ, suc, ◌*◌, ◌/◌, ◌^◌, ◌≤◌, ◌<◌, List, [], get_or, arith}
use Rattle.std.proofs.Common.{sym, ap, ◌∙◌, subst}
use Rattle.std.proofs.Math.Nat.{div-one}
use Rattle.sha2.specs.Sha256.{sha256}
use Rattle.batch_sign.specs.Parting.{later_of, nodes_at}
use Rattle.batch_sign.specs.Places.{parting, text_above}
use Rattle.batch_sign.specs.Signatures.{depth_in, leaf_number_in, path_in}
use Rattle.batch_sign.specs.Trees.{depth_over, leaf_of, parent, parent_text, path_over, sibling}
use Rattle.batch_sign.proofs.ClimbLaws.{climbed_more, climbed_none, halved_more}
use Rattle.batch_sign.proofs.CollideLaws.{formed-place, parent-digest, text_more}
use Rattle.batch_sign.proofs.PartLaws.{parting_more, parting_none}
use Rattle.batch_sign.proofs.PathLaws.{path-stands}
use Rattle.batch_sign.proofs.finding.ways_part.Goals as goal

pub loop-level-init : goal.loop-level-init
loop-level-init c =
    let r = leaf_number_in c.args.signature.now in
    let path = path_in c.args.signature.now in
    let tree = path_over c.args.leaves.now (depth_over c.args.leaves.now) r in
    record {
      depth = c.from-depth.ensures;
      number = c.leaf_number-number.ensures.number ∙ sym (div-one r);
      own = c.leaf_of-own.ensures ∙ sym (climbed_none path r (leaf_of c.args.message.now));
      other = c.leaf_of-other.ensures ∙ sym (climbed_none tree r (leaf_of c.args.held.now));
      last = sym (parting_none (text_above path r c.args.message.now) (text_above tree r c.args.held.now));
    }

pub loop-level-preserved : goal.loop-level-preserved
loop-level-preserved c =
    let k = c.loop-level.level in
    let signature = c.args.signature.now in
    let leaves = c.args.leaves.now in
    let h = depth_over leaves in
    let r = leaf_number_in signature in
    let x = r / 2 ^ k in
    let path = path_in signature in
    let tree = path_over leaves h r in
    let message = c.args.message.now in
    let held = c.args.held.now in
    let beside = get_or c.args.nodes.now c.sibling_of.result [] in
    let there = formed-place signature c.requires.formed in
    let low : 2 ^ h ≤ r = subst (λ (d : ℕ). 2 ^ d ≤ r) c.requires.depth (omega arith) in
    let high : r < 2 * 2 ^ h = subst (λ (d : ℕ). r < 2 * 2 ^ d) c.requires.depth (omega (arith, there)) in
    let below : suc k ≤ h = omega arith in
    let stands = path-stands leaves h c.args.nodes.now r k c.requires.filled below low high in
    let is : beside ≡ tree k =
    ap (λ (i : ℕ). get_or c.args.nodes.now i []) (c.sibling_of.ensures ∙ ap sibling c.loop-level.invariant.number) ∙ stands in
    let own : c.parent_text-first.result ≡ parent_text x (path k) c.loop-level.own = search rules in
    let other : c.parent_text-second.result ≡ parent_text x (tree k) c.loop-level.other =
    c.parent_text-second.ensures
    ∙ ap (λ (n : ℕ). parent_text n beside c.loop-level.other) c.loop-level.invariant.number
    ∙ ap (λ (s : List ℕ). parent_text x s c.loop-level.other) is in
    let first : c.parent_text-first.result ≡ text_above path r message (suc k) =
    own ∙ ap (parent_text x (path k)) c.loop-level.invariant.own ∙ sym (text_more path r message k) in
    let second : c.parent_text-second.result ≡ text_above tree r held (suc k) =
    other ∙ ap (parent_text x (tree k)) c.loop-level.invariant.other ∙ sym (text_more tree r held k) in
    record {
      depth = c.loop-level.invariant.depth;
      number = ap (λ (n : ℕ). n / 2) c.loop-level.invariant.number ∙ sym (halved_more r k);
      own = c.digest-own.ensures ∙ ap sha256 own ∙ parent-digest x (path k) c.loop-level.own
          ∙ ap (parent x (path k)) c.loop-level.invariant.own ∙ sym (climbed_more path r (leaf_of message) k);
      other = c.digest-other.ensures ∙ ap sha256 other ∙ parent-digest x (tree k) c.loop-level.other
          ∙ ap (parent x (tree k)) c.loop-level.invariant.other ∙ sym (climbed_more tree r (leaf_of held) k);
      last = c.later-last.ensures
          ∙ ap (λ (t : List ℕ). later_of t c.parent_text-second.result c.loop-level.last) first
          ∙ ap (λ (t : List ℕ). later_of (text_above path r message (suc k)) t c.loop-level.last) second
          ∙ parting_more (text_above path r message) (text_above tree r held) k c.loop-level.last c.loop-level.invariant.last;
    }

pub returns : goal.returns
returns c =
    let signature = c.args.signature.now in
    let r = leaf_number_in signature in
    let first = text_above (path_in signature) r c.args.message.now in
    let second = text_above (path_over c.args.leaves.now (depth_over c.args.leaves.now) r) r c.args.held.now in
    let top : c.loop-level.level ≡ depth_in signature = omega (arith, c.loop-level.invariant.depth) in
    c.loop-level.invariant.last ∙ ap (λ (n : ℕ). nodes_at first second (parting first second n)) top
