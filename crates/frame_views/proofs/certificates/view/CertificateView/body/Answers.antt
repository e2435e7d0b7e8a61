use Rattle.std.proofs.Common.{ap}
use Rattle.frame_views.specs.Values.{CertificateValue}
use Rattle.frame_views.specs.Shown.{parts_of}
use Rattle.frame_views.proofs.CertificateLaws.{whole-never, whole-shows}
use Rattle.frame_views.proofs.certificates.view.CertificateView.body.Goals as goal

pub unreachable-requires : goal.unreachable-requires
unreachable-requires c = whole-never c.args.self.now.bytes.now c.in-Err.field-0 c.args.self.now.whole c.in-Err.ensures.gives

pub returns-clause-shows : goal.returns-clause-shows
returns-clause-shows c =
    ap (λ (v : CertificateValue). v.body) (whole-shows c.args.self.now.bytes.now
    (parts_of c.in-Ok.parts, c.in-Ok._rest.now) c.args.self.now.whole c.in-Ok.ensures.gives)
