use Rattle.basil_types.specs.Shown.{transaction_of}
use Rattle.frame_views.specs.Items.{tallies_of}
use Rattle.certificates.proofs.DecideLaws.{ok_exactly, tallied_exactly}
use Rattle.certificates.proofs.tallies.check_tallies.Goals as goal

pub returns-clause-accepted : goal.returns-clause-accepted
returns-clause-accepted g c =
    ok_exactly c.refuse_tallies.result _ _ c.refuse_tallies.ensures
    (tallied_exactly (g.V.Verifier.accepted c.args.keys.now) c.args.cluster.now
    (transaction_of c.args.t) c.args.decision (tallies_of c.args.tallies.now) c.n.ensures.in_range c.requires.fits c.requires.form)
