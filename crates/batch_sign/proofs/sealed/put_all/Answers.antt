use Rattle.std.proofs.Common.{◌≡◌, ℕ, ◌+◌, ◌*◌, List, ◌++◌, length, take, arith, sym, ap, ◌∙◌, subst}
use Rattle.batch_sign.specs.Signatures.{Sealing, signature_of}
use Rattle.batch_sign.specs.Trees.{depth_over}
use Rattle.batch_sign.proofs.PieceLaws.{joined_more, joined_none}
use Rattle.batch_sign.proofs.SealLaws.{length-signature}
use Rattle.batch_sign.proofs.sealed.put_all.Goals as goal

pub loop-place-init : goal.loop-place-init
loop-place-init c =
    let s : Sealing = record { leaves = c.args.leaves.now; inner = c.args.inner.now } in
    let none : 0 * c.args.size ≡ 0 = omega arith in
    ap (λ (k : ℕ). take k c.args.out.now) none ∙ sym (joined_none (signature_of s))

pub loop-place-preserved : goal.loop-place-preserved
loop-place-preserved c =
    let s : Sealing = record { leaves = c.args.leaves.now; inner = c.args.inner.now } in
    let place = c.loop-place.place in
    let size = 2 + 32 * depth_over c.args.leaves.now + length c.args.inner.now in
    let end : place * c.args.size + size ≡ (place + 1) * c.args.size = omega (arith, c.requires.size) in
    subst (λ (n : ℕ). take n c.put_signature.new.out ≡ take (place * c.args.size) c.loop-place.out ++ signature_of s place) end
    c.put_signature.ensures
    ∙ ap (λ (t : List ℕ). t ++ signature_of s place) c.loop-place.invariant ∙ sym (joined_more (signature_of s) place)

pub returns-clause-each : goal.returns-clause-each
returns-clause-each c = λ place.
    let s : Sealing = record { leaves = c.args.leaves.now; inner = c.args.inner.now } in
    length-signature s c.told-leaves c.requires.some place ∙ sym c.requires.size
