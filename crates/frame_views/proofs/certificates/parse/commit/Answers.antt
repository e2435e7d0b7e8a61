use Rattle.std.proofs.Common.{◌≡◌, Ok, true, arith, sym, ap, subst, ◌∙◌}
use Rattle.frame_views.specs.Values.{CertificateValue}
use Rattle.frame_views.specs.Fitting.{is_commit}
use Rattle.frame_views.specs.Shown.{parts_of}
use Rattle.frame_views.proofs.CertificateLaws.{commit_cut}
use Rattle.frame_views.proofs.certificates.parse.commit.Goals as goal

pub slice_bounds-of-count : goal.slice_bounds-of-count
slice_bounds-of-count c =
    (commit_cut c.args.bounds c.requires c.args.bytes.now (parts_of c.in-Ok._parts, c.in-Ok.rest.now)
    (λ i. omega (arith, c.type_inv.bytes i)) c.in-Ok.ensures).0.shorter

pub of-requires : goal.of-requires
of-requires c =
    (commit_cut c.args.bounds c.requires c.args.bytes.now (parts_of c.in-Ok._parts, c.in-Ok.rest.now)
    (λ i. omega (arith, c.type_inv.bytes i)) c.in-Ok.ensures).0.spells

pub returns-in-Ok-clause-gives : goal.returns-in-Ok-clause-gives
returns-in-Ok-clause-gives c =
    let t = (commit_cut c.args.bounds c.requires c.args.bytes.now (parts_of c.in-Ok._parts, c.in-Ok.rest.now)
    (λ i. omega (arith, c.type_inv.bytes i)) c.in-Ok.ensures).0 in
    c.in-Ok.ensures ∙ ap (λ (v : CertificateValue). Ok (v, c.in-Ok.rest.now)) (sym t.is ∙ sym c.of.ensures)

pub returns-in-Ok-clause-commits : goal.returns-in-Ok-clause-commits
returns-in-Ok-clause-commits c =
    let t = commit_cut c.args.bounds c.requires c.args.bytes.now (parts_of c.in-Ok._parts, c.in-Ok.rest.now)
    (λ i. omega (arith, c.type_inv.bytes i)) c.in-Ok.ensures in
    subst (λ (v : CertificateValue). is_commit v.body ≡ true) (sym t.0.is ∙ sym c.of.ensures) t.1
