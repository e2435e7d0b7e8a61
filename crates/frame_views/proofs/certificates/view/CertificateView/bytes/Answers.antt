use Rattle.std.proofs.Common.{◌∙◌}
use Rattle.frame_views.proofs.CertificateLaws.{whole-spelled}
use Rattle.frame_views.proofs.certificates.view.CertificateView.bytes.Goals as goal

pub returns-clause-spelled : goal.returns-clause-spelled
returns-clause-spelled c =
    c.in_range.ensures.same ∙ (whole-spelled c.args.self.now.bytes.now c.in_range.ensures.in_range c.args.self.now.whole).0

pub returns-clause-fits : goal.returns-clause-fits
returns-clause-fits c = (whole-spelled c.args.self.now.bytes.now c.in_range.ensures.in_range c.args.self.now.whole).1
