use Rattle.std.proofs.Common.{subst, List}
use Rattle.basil_types.specs.Refusals.{Refuses}
use Rattle.basil_types.specs.Shown.{transaction_of}
use Rattle.frame_views.specs.Signed.{SignedBy}
use Rattle.certificates.specs.Refusals.{no_rival_signed}
use Rattle.certificates.specs.Pairs.{pair_of}
use Rattle.certificates.proofs.ConflictLaws.{passed_on}
use Rattle.certificates.proofs.proof.refuse_rival.Goals as goal

pub returns : goal.returns
returns g c =
    let r = c.conflicts_and_signed.result in
    passed_on r _ _ c.in_ok-own_id.ensures
    (passed_on r _ _ c.in_ok-decides.ensures
    (passed_on r _ _ c.in_ok-from_its_shards.ensures
    (passed_on r _ _ c.in_ok-enough_of.ensures
    (subst (λ (s : List SignedBy). Refuses r (no_rival_signed (g.V.Verifier.accepted c.args.keys.now)
    (transaction_of c.args.t) (pair_of c.args.rival.now) s)) c.requires.signed c.conflicts_and_signed.ensures))))
