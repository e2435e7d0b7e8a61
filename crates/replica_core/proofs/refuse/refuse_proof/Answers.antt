use Rattle.std.proofs.Common.{◌≡◌, Option, None, Some, ap, subst, ◌∙◌}
use Rattle.std.specs.Prelude.{Result, Ok, Err, option_map}
use Rattle.basil_types.specs.Refusals.{Refuses}
use Rattle.certificates.specs.declared.refusal.CertRefusal.{CertRefusal}
use Rattle.frame_views.specs.Shown.{message_of}
use Rattle.replica_core.specs.declared.refusal.Refusal.TheVariants.{BadCertificate}
use Rattle.replica_core.specs.Refusals.{bad_proof}
use Rattle.replica_core.specs.Seats.{self_at}
use Rattle.replica_core.proofs.refuse.refuse_proof.Goals as goal

cert_ok : (r : Result (Unit {0}) CertRefusal) (x : Option CertRefusal) (u : Unit {0}) → Refuses r x → r ≡ Ok u →
    option_map BadCertificate x ≡ None
cert_ok r x u h e = ap (option_map BadCertificate) (subst (λ (r : Result (Unit {0}) CertRefusal). Refuses r x) e h)

cert_err : (r : Result (Unit {0}) CertRefusal) (x : Option CertRefusal) (f : CertRefusal) → Refuses r x → r ≡ Err f →
    option_map BadCertificate x ≡ Some (BadCertificate f)
cert_err r x f h e = ap (option_map BadCertificate) (subst (λ (r : Result (Unit {0}) CertRefusal). Refuses r x) e h)

pub returns-in-Ok-refuse_certificate : goal.returns-in-Ok-refuse_certificate
returns-in-Ok-refuse_certificate g c signing =
    ap (λ v. bad_proof (self_at c.args.seat.now (g.V.Verifier.accepted c.args.keys.now) signing) (message_of v)) c.in-Writeback.is
    ∙ cert_ok c.refuse_certificate.result _ _ c.refuse_certificate.ensures c.in-Ok-refuse_certificate.is

pub returns-in-Err-refuse_certificate : goal.returns-in-Err-refuse_certificate
returns-in-Err-refuse_certificate g c signing =
    ap (λ v. bad_proof (self_at c.args.seat.now (g.V.Verifier.accepted c.args.keys.now) signing) (message_of v)) c.in-Writeback.is
    ∙ cert_err c.refuse_certificate.result _ _ c.refuse_certificate.ensures c.in-Err-refuse_certificate.is
