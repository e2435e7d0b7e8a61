-- What is found of a message's signature.
use Rattle.std.specs.Prelude.{ℕ, Bool, ◌&&◌, List, Option, Some, None, ⊤, if◌then◌else◌}
use Rattle.batch_sign.specs.Places.{Collides, Elsewhere, At, Found, Meets, StandsAt, found_in}
use Rattle.batch_sign.specs.Signatures.{form_refusal, inner_in, is_formed, named, refusal_number}
use Rattle.batch_sign.specs.declared.form.BatchRefusal.{BatchRefusal}
use Rattle.lms_sign.specs.Verifying.{is_valid}
use Rattle.batch_text.specs.declared.finding.PlaceFinding.{PlaceFinding}
use Rattle.batch_text.specs.declared.finding.PlaceFinding.TheVariants.{Accepted, In, Refused, Collision}
use Rattle.batch_text.specs.declared.reading.Kept.{Kept}

-- whether a signature in a batch is accepted of a message under an LMS public key
abbrev pub accepts_under : (public message signature : List ℕ) → Bool
accepts_under public message signature =
    is_formed signature && is_valid public (named message signature) (inner_in signature)

abbrev pub placed : Found → PlaceFinding
placed Elsewhere = Refused 4
placed (At place) = In place
placed (Meets first second) = Collision first second

-- of an accepted signature: the place where a batch was kept
abbrev pub among : Option (List (List ℕ)) → (message signature : List ℕ) → PlaceFinding
among None message signature = Accepted
among (Some messages) message signature = placed (found_in messages message signature)

abbrev pub judged : Option BatchRefusal → (public : List ℕ) → Kept → (signature : List ℕ) → PlaceFinding
judged (Some refusal) public kept signature = Refused (refusal_number refusal)
judged None public kept signature =
    if accepts_under public kept.message signature then among kept.batch kept.message signature else Refused 3

-- first the form of the signature is tested, then whether it is accepted, then of which batch it is
abbrev pub finding_of : (public : List ℕ) → Kept → (signature : List ℕ) → PlaceFinding
finding_of public kept signature = judged (form_refusal signature) public kept signature

-- ---- what it means

abbrev pub StandsIn : Option (List (List ℕ)) → (message : List ℕ) (place : ℕ) → Type 0
StandsIn None message place = ⊥
StandsIn (Some messages) message place = StandsAt messages message place

-- the message stands at the place in the kept batch, and two texts that collide differ and have one digest
abbrev pub IsRealFinding : Kept → PlaceFinding → Type 0
IsRealFinding kept Accepted = ⊤
IsRealFinding kept (In place) = StandsIn kept.batch kept.message place
IsRealFinding kept (Refused reason) = ⊤
IsRealFinding kept (Collision first second) = Collides first second

abbrev pub FindingsAreReal : Type 0
FindingsAreReal =
    (public : List ℕ) (kept : Kept) (signature : List ℕ) → IsRealFinding kept (finding_of public kept signature)
