use Rattle.std.proofs.Common.{◌≡◌, true, subst}
use Rattle.keyring_lms.specs.Pens.{Pen, tree_holds}
use Rattle.keyring_lms.proofs.PenLaws.{signed-holds}
use Rattle.keyring_lms.proofs.pen.LmsPenSigner.sign_into.Goals as goal

pub returns-in-Ok-clause-holds : goal.returns-in-Ok-clause-holds
returns-in-Ok-clause-holds c =
    let held = signed-holds c.self.inside.party c.self.inside.key.tree c.args.words.now c.sign_into.new.out c.in-Ok.ensures.valid in
    subst (λ (pen : Pen). tree_holds pen.party pen.key.tree pen.party c.args.words.now c.sign_into.new.out ≡ true) c.self.view_is held
