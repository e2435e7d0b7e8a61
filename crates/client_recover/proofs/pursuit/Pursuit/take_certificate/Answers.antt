use Rattle.std.proofs.Common.{Some, refl, sym, ap, ◌∙◌}
use Rattle.frame_views.specs.Shown.{certificate_of}
use Rattle.client_recover.proofs.TakeLaws.{same_itself, skips_ended, takes_outcome}
use Rattle.client_recover.proofs.pursuit.Pursuit.take_certificate.Goals as goal

pub returns-then-is_decided-clause-taken : goal.returns-then-is_decided-clause-taken
returns-then-is_decided-clause-taken c =
    skips_ended c.args.self.now _ _ (record { transaction = refl; signature = refl; cluster = refl }) refl
    (same_itself c.args.self.now.logs) refl refl (sym c.is_decided.ensures ∙ c.if-is_decided.true)

pub returns-clause-taken : goal.returns-clause-taken
returns-clause-taken c =
    takes_outcome c.args.self.now _ (certificate_of c.args.m.now.certificate)
    (record { transaction = refl; signature = refl; cluster = refl }) refl refl refl
    (sym c.is_decided.ensures ∙ c.if-is_decided.false) (ap Some c.in_ok-certificate.ensures)
