use Rattle.basil_types.specs.Shown.{transaction_of}
use Rattle.frame_views.specs.Shown.{committed_of}
use Rattle.certificates.proofs.ConflictLaws.{conflicts_exactly}
use Rattle.certificates.proofs.DecideLaws.{ok_exactly}
use Rattle.certificates.proofs.proof.check_proof.Goals as goal

pub returns-clause-accepted : goal.returns-clause-accepted
returns-clause-accepted g c =
    ok_exactly c.refuse_proof.result _ _ c.refuse_proof.ensures
    (conflicts_exactly (g.V.Verifier.accepted c.args.keys.now) c.args.cluster.now
    (transaction_of c.args.t) (committed_of c.args.proof.now) c.n.ensures.in_range c.requires)
