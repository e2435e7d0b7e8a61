use Rattle.std.proofs.Common.{◌≡◌, ◌+◌, ◌++◌, ◌∙◌, List, ℕ, take, ap, arith}
use Rattle.std.proofs.lemmas.Slice.{take-put_mid}
use Rattle.lms_sign.specs.Sets.{one_time_length, one_time_of}
use Rattle.lms_sign.specs.Tree.{tree_of}
use Rattle.lms_sign.specs.Signing.{one_time_part}
use Rattle.lms_ots.specs.Signatures.{signature_of}
use Rattle.lms_ots.specs.Chains.{leaf_of}
use Rattle.lms_sign.proofs.signing.put_one_time.Goals as goal

pub returns : goal.returns
returns c =
    let part = c.ots_sign.new.out in
    let signs : part ≡ signature_of c.one_time.result
    (leaf_of c.args.ident.now c.args.q) c.args.seed.now c.randomizer.result c.args.message.now = c.ots_sign.ensures.signature in
    let is : part ≡ one_time_part (tree_of c.args.set c.args.ident.now c.args.seed.now) c.args.q c.args.message.now =
    signs ∙ ap (λ s. signature_of s (leaf_of c.args.ident.now c.args.q) c.args.seed.now c.randomizer.result c.args.message.now)
    c.one_time.ensures
    ∙ ap (λ r. signature_of (one_time_of c.args.set) (leaf_of c.args.ident.now c.args.q) c.args.seed.now r c.args.message.now)
    c.randomizer.ensures in
    take-put_mid 4 _ c.args.out.now part (4 + one_time_length c.args.set) (omega arith) (omega arith)
    ∙ ap (λ (t : List ℕ). take 4 c.args.out.now ++ t) is
