use Rattle.std.proofs.Common.{◌<◌, ◌^◌, length, subst, sym, List}
use Rattle.basil_types.specs.Refusals.{Refuses}
use Rattle.frame_views.specs.Shown.{certificate_of}
use Rattle.frame_views.specs.Signed.{SignedBy}
use Rattle.certificates.specs.Refusals.{PairValue, refusal_of}
use Rattle.certificates.proofs.DecideLaws.{few_signatures}
use Rattle.certificates.proofs.check.refuse_certificate.Goals as goal

pub refuse-requires-clause-bounded : goal.refuse-requires-clause-bounded
refuse-requires-clause-bounded g c = subst (λ (s : List SignedBy). length s < 2 ^ 64)
    (sym c.signatures.ensures) (few_signatures c.args.cluster.now (certificate_of c.args.c.now) c.requires.fits)

pub returns : goal.returns
returns g c = subst (λ (p : PairValue). Refuses c.refuse.result
    (refusal_of (g.V.Verifier.accepted c.args.keys.now) c.args.cluster.now c.args.decision p)) c.of-outer.ensures.value c.refuse.ensures
