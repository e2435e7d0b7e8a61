use Rattle.std.proofs.Common.{Ok, arith, sym, ap, ◌∙◌}
use Rattle.frame_views.specs.Values.{CertificateValue}
use Rattle.frame_views.specs.Shown.{parts_of}
use Rattle.frame_views.proofs.CertificateLaws.{certificate_cut}
use Rattle.frame_views.proofs.certificates.parse.certificate.Goals as goal

pub slice_bounds-of-count : goal.slice_bounds-of-count
slice_bounds-of-count c =
    (certificate_cut c.args.bounds c.requires c.args.bytes.now (parts_of c.in-Ok._parts, c.in-Ok.rest.now)
    (λ i. omega (arith, c.type_inv.bytes i)) c.in-Ok.ensures.gives).shorter

pub of-requires : goal.of-requires
of-requires c =
    (certificate_cut c.args.bounds c.requires c.args.bytes.now (parts_of c.in-Ok._parts, c.in-Ok.rest.now)
    (λ i. omega (arith, c.type_inv.bytes i)) c.in-Ok.ensures.gives).spells

pub returns-in-Ok : goal.returns-in-Ok
returns-in-Ok c =
    let t = certificate_cut c.args.bounds c.requires c.args.bytes.now (parts_of c.in-Ok._parts, c.in-Ok.rest.now)
    (λ i. omega (arith, c.type_inv.bytes i)) c.in-Ok.ensures.gives in
    c.in-Ok.ensures.gives ∙ ap (λ (v : CertificateValue). Ok (v, c.in-Ok.rest.now)) (sym t.is ∙ sym c.of.ensures)
