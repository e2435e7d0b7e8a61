use Rattle.std.proofs.Common.{◌≡◌, ◌<◌, arith, subst, length}
use Rattle.lms_sign.specs.Sets.{leaves_of}
use Rattle.lms_sign.specs.Tree.{tree_of, public_of}
use Rattle.lms_sign.specs.Signing.{Key}
use Rattle.lms_sign.specs.Verifying.{Valid}
use Rattle.lms_sign.proofs.ValidLaws.{made-valid}
use Rattle.lms_sign.proofs.key.LmsKey.sign_into.Goals as goal

pub returns-clause-valid : goal.returns-clause-valid
returns-clause-valid c =
    let fields = c.self.inside in
    let ident : length fields.ident ≡ 16 = omega arith in
    let left : fields.next < leaves_of fields.set = omega arith in
    let made = made-valid (tree_of fields.set fields.ident fields.seed) fields.next c.args.message.now ident left in
    subst (λ (key : Key). Valid (public_of key.tree) c.args.message.now c.write_signature.new.out) c.self.view_is
    (rw c.write_signature.ensures made)
