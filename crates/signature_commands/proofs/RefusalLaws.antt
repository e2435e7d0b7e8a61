-- A signature that is refused is told with the number of its refusal.
use Rattle.std.proofs.Common.{◌≡◌, Option, Some, None, Err, ap}
use Rattle.lms_sign.specs.Numbers.{refusal_number}
use Rattle.lms_sign.specs.Verifying.{answer_of}
use Rattle.lms_sign.specs.declared.verifying.LmsRefusal.{LmsRefusal}
use Rattle.command_ends.specs.Outcome.{Refused}
use Rattle.signature_commands.specs.Signatures.{verified_with}

pub refused : (o : Option LmsRefusal) (r : LmsRefusal) → Err r ≡ answer_of o → Refused (refusal_number r) ≡ verified_with o
refused None r e = absurd cc
refused (Some q) r e = let same : r ≡ q = cc in ap (λ x. Refused (refusal_number x)) same
