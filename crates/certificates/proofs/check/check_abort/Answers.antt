use Rattle.basil_types.specs.Shown.{transaction_of}
use Rattle.frame_views.specs.Shown.{certificate_of}
use Rattle.certificates.proofs.DecideLaws.{ok_exactly, aborts_exactly}
use Rattle.certificates.proofs.check.check_abort.Goals as goal

pub returns-clause-accepted : goal.returns-clause-accepted
returns-clause-accepted g c =
    ok_exactly c.refuse_certificate.result _ _ c.refuse_certificate.ensures
    (aborts_exactly (g.V.Verifier.accepted c.args.keys.now) c.args.cluster.now
    (transaction_of c.args.t) (certificate_of c.args.c.now) c.n.ensures.in_range c.requires.fits c.requires.form)
