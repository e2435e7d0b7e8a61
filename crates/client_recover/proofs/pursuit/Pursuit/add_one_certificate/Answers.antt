use Rattle.std.proofs.Common.{rules, sym, ap, ◌∙◌}
use Rattle.basil_types.specs.Transaction.{id}
use Rattle.frame_views.specs.Shown.{writeback_of}
use Rattle.client_recover.specs.Faults.{writeback_fault}
use Rattle.client_recover.specs.Taken.{TakenCertificate}
use Rattle.client_recover.proofs.RefuseLaws.{refused_of, takes_of}
use Rattle.client_recover.proofs.pursuit.Pursuit.add_one_certificate.Goals as goal

pub returns-in-Err-clause-refused : goal.returns-in-Err-clause-refused
returns-in-Err-clause-refused g c ne =
    let v = writeback_of c.args.m.now in
    let u = c.args.self.now in
    let A = g.V.Verifier.accepted c.args.keys.now in
    refused_of (id v.transaction) u.transaction (writeback_fault A u.cluster u.transaction v) (TakenCertificate v.certificate) _
    (search rules)
    (ap (λ t. writeback_fault A u.cluster t v) (sym c.view.ensures.value) ∙ c.in-Err.ensures)

pub returns-in_ok-take_certificate-in-Ok-clause-taken : goal.returns-in_ok-take_certificate-in-Ok-clause-taken
returns-in_ok-take_certificate-in-Ok-clause-taken g c =
    let v = writeback_of c.args.m.now in
    let u = c.args.self.now in
    let A = g.V.Verifier.accepted c.args.keys.now in
    takes_of (id v.transaction) u.transaction (writeback_fault A u.cluster u.transaction v) (TakenCertificate v.certificate) u _
    (search rules)
    (ap (λ t. writeback_fault A u.cluster t v) (sym c.view.ensures.value) ∙ c.in-Ok.ensures) (search rules)
