use Rattle.std.proofs.Common.{◌≡◌, ◌∙◌, ℕ, List, ap, sym, subst}
use Rattle.hss_sign.specs.declared.material.Material.{Material}
use Rattle.hss_sign.specs.Keys.{HssState, hss_signature_of, hss_public_of}
use Rattle.hss_sign.specs.declared.bottom.Bottom.{Bottom}
use Rattle.hss_sign.specs.Kept.{number_of}
use Rattle.hss_sign.specs.Verifying.{HssValid}
use Rattle.hss_sign.proofs.SigningLaws.{made-is, made-valid, after-is}
use Rattle.hss_sign.proofs.key.HssKey.sign_into.Goals as goal

pub returns-clause-signature : goal.returns-clause-signature
returns-clause-signature c =
    let levels = c.prepare.new.self in
    let message = c.args.message.now in
    let material : levels.material ≡ c.args.self.now.material =
    c.in_ok-prepare.ensures.material ∙ ap (λ (s : HssState). s.material) c.self.view_is in
    let number : number_of levels ≡ c.args.self.now.next = c.in_ok-prepare.ensures.number ∙ ap (λ (s : HssState). s.next) c.self.view_is in
    c.sign_into.ensures.signature ∙ made-is levels message c.in_ok-prepare.ensures.kept c.in_ok-prepare.ensures.more
    ∙ ap (λ (m : Material). hss_signature_of m (number_of levels) message) material
    ∙ ap (λ (n : ℕ). hss_signature_of c.args.self.now.material n message) number

pub returns-clause-valid : goal.returns-clause-valid
returns-clause-valid c =
    let levels = c.prepare.new.self in
    let message = c.args.message.now in
    let material : levels.material ≡ c.args.self.now.material =
    c.in_ok-prepare.ensures.material ∙ ap (λ (s : HssState). s.material) c.self.view_is in
    let valid = made-valid levels message c.in_ok-prepare.ensures.kept c.sign_into.ensures.valid in
    subst (λ (m : Material). HssValid (hss_public_of m) message c.sign_into.new.out) material
    (subst (λ (out : List ℕ). HssValid (hss_public_of levels.material) message out) (sym c.sign_into.ensures.signature) valid)

pub returns-clause-spends : goal.returns-clause-spends
returns-clause-spends c =
    let levels = c.prepare.new.self in
    let material : levels.material ≡ c.args.self.now.material =
    c.in_ok-prepare.ensures.material ∙ ap (λ (s : HssState). s.material) c.self.view_is in
    let number : number_of levels ≡ c.args.self.now.next = c.in_ok-prepare.ensures.number ∙ ap (λ (s : HssState). s.next) c.self.view_is in
    let leaf = ap (λ (bottom : Bottom). bottom.key.next) c.sign_into.ensures.spends in
    after-is levels c.args.self.now c.sign_into.new.self.key.next c.in_ok-prepare.ensures.more material number leaf
