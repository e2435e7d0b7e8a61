-- What is found of a signature is real.
use Rattle.std.proofs.Common.{◌≡◌, ℕ, Bool, true, false, List, Option, Some, None, refl}
use Rattle.std.proofs.lemmas.Grind.{common_steps}
use Rattle.std.proofs.Common.{arith}
use Rattle.batch_sign.specs.Laws.{FindingsAreReal as PlacesAreReal}
use Rattle.batch_sign.specs.Places.{At, Elsewhere, Found, IsReal, Meets, found_in}
use Rattle.batch_sign.specs.Signatures.{form_refusal, is_formed}
use Rattle.batch_sign.specs.declared.form.BatchRefusal.{BatchRefusal}
use Rattle.batch_text.specs.Findings.{IsRealFinding, accepts_under, among, judged, placed, finding_of}
use Rattle.batch_text.specs.declared.reading.Kept.{Kept}

placed-real : (messages : List (List ℕ)) (kept : Kept) (found : Found) → kept.batch ≡ Some messages →
    IsReal messages kept.message found → IsRealFinding kept (placed found)
placed-real messages kept Elsewhere e h = tt
placed-real messages kept (At place) e h = rw e h
placed-real messages kept (Meets first second) e h = h

among-real : (kept : Kept) (signature : List ℕ) (batch : Option (List (List ℕ))) → PlacesAreReal → is_formed signature ≡ true →
    kept.batch ≡ batch → IsRealFinding kept (among batch kept.message signature)
among-real kept signature None law formed e = tt
among-real kept signature (Some messages) law formed e =
    placed-real messages kept (found_in messages kept.message signature) e (law messages kept.message signature formed)

-- what is accepted has the form
accepted-formed : (public message signature : List ℕ) → accepts_under public message signature ≡ true → is_formed signature ≡ true
accepted-formed public message signature h = grind (arith, common_steps)

pub finding-real : PlacesAreReal → (public : List ℕ) (kept : Kept) (signature : List ℕ) →
    IsRealFinding kept (finding_of public kept signature)
finding-real law public kept signature = by (form_refusal signature)
  where
    accepted : (a : Bool) → accepts_under public kept.message signature ≡ a → IsRealFinding kept (judged None public kept signature)
    accepted true e =
        rw e (among-real kept signature kept.batch law (accepted-formed public kept.message signature e) refl)
    accepted false e = rw e tt

    by : (refusal : Option BatchRefusal) → IsRealFinding kept (judged refusal public kept signature)
    by (Some refusal) = tt
    by None = accepted (accepts_under public kept.message signature) refl
