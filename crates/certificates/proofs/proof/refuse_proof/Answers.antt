use Rattle.std.proofs.Common.{◌<◌, ◌^◌, length, subst, sym, ap, List, Option}
use Rattle.basil_types.specs.Refusals.{Refuses}
use Rattle.basil_types.specs.Built.{or_else}
use Rattle.basil_types.specs.Shown.{transaction_of}
use Rattle.frame_views.specs.Shown.{committed_of}
use Rattle.frame_views.specs.Signed.{SignedBy}
use Rattle.frame_views.specs.Values.{PairValue}
use Rattle.certificates.specs.declared.refusal.CertRefusal.{CertRefusal}
use Rattle.certificates.specs.Refusals.{rival_refusal}
use Rattle.certificates.proofs.DecideLaws.{few_signatures}
use Rattle.certificates.proofs.proof.refuse_proof.Goals as goal

pub refuse_rival-requires-clause-bounded : goal.refuse_rival-requires-clause-bounded
refuse_rival-requires-clause-bounded g c =
    subst (λ (s : List SignedBy). length s < 2 ^ 64)
    (sym c.signatures.ensures) (few_signatures c.args.cluster.now (committed_of c.args.proof.now).certificate c.requires)

pub returns : goal.returns
returns g c =
    let p = committed_of c.args.proof.now in
    let ask = rival_refusal (g.V.Verifier.accepted c.args.keys.now) c.args.cluster.now (transaction_of c.args.t) in
    subst (λ (o : Option CertRefusal). Refuses c.refuse_rival.result o)
    (sym (ap (λ (o : Option CertRefusal). or_else o (ask p)) c.in_ok-ill_formed.ensures.exact))
    (subst (λ (q : PairValue). Refuses c.refuse_rival.result (ask q)) c.of-rival.ensures.value c.refuse_rival.ensures)
