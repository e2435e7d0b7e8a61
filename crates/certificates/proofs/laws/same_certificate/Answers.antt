use Rattle.std.proofs.Common.{◌∙◌, ap, sym}
use Rattle.frame_views.specs.Stored.{certificate_in}
use Rattle.certificates.proofs.laws.same_certificate.Goals as goal

pub returns : goal.returns
returns c = sym c.bytes.ensures.same ∙ ap certificate_in (c.bytes.ensures.spelled ∙ c.requires ∙ sym c.bytes-2.ensures.spelled)
    ∙ c.bytes-2.ensures.same
