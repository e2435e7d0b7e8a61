use Rattle.std.proofs.Common.{◌≡◌, ℕ, List, sym, subst}
use Rattle.basil_codec.specs.Fitting.{widest, FitsCertificate}
use Rattle.basil_codec.specs.Shown.{certificate_of, body_of}
use Rattle.basil_codec.specs.Values.{BodyValue, CertificateValue}
use Rattle.frame_views.specs.declared.certificates.body.CertBody.TheVariants.{ConflictAbort}
use Rattle.frame_rows.proofs.writers.conflict_abort_again.Goals as goal

-- a certificate of the fields of one that fits
of_fields : (c : CertificateValue) (id : List ℕ) (body : BodyValue) →
    id ≡ c.id → body ≡ c.body → FitsCertificate widest c → FitsCertificate widest (record { id = id; body = body })
of_fields c id body i b fits =
    subst (λ (x : List ℕ). FitsCertificate widest (record { id = x; body = body }))
    (sym i) (subst (λ (y : BodyValue). FitsCertificate widest (record { id = c.id; body = y })) (sym b) fits)

pub put_certificate-requires : goal.put_certificate-requires
put_certificate-requires c = λ c'. of_fields (certificate_of c'.args.certificate.now) c'.id.result
    (body_of (ConflictAbort c'.in-ConflictAbort.shard c'.in-ConflictAbort.replica c'.in-ConflictAbort.signature
    c'.in-ConflictAbort.other c'.in-ConflictAbort.proof)) c'.id.ensures c'.in-ConflictAbort.ensures.shows c'.bytes-bytes.ensures.fits
