use Rattle.std.proofs.Common.{◌≡◌, Err, sym, subst}
use Rattle.std.specs.Prelude.{◌≢◌, IfErr}
use Rattle.certificates.specs.declared.fault.FrameFault.TheVariants.{NoMemory}
use Rattle.frame_views.specs.Shown.{message_of}
use Rattle.frame_views.specs.declared.frames.views.MessageView.{MessageView}
use Rattle.client_recover.specs.Frames.{writeback_of, certificate_taken}
use Rattle.client_recover.proofs.pursuit.Pursuit.add_certificate.Goals as goal

pub returns-in-Writeback-clause-refused : goal.returns-in-Writeback-clause-refused
returns-in-Writeback-clause-refused g c =
    let u = c.args.self.now in
    let A = g.V.Verifier.accepted c.args.keys.now in
    subst (λ (m : MessageView). IfErr c.add_one_certificate.result
    (λ e. e ≢ NoMemory → certificate_taken A u.cluster u.transaction (writeback_of (message_of m)) ≡ Err e))
    (sym c.in-Writeback.is) c.add_one_certificate.ensures.refused
