-- The numbers of the refusals, in the order of the tests.
use Rattle.std.specs.Prelude.{ℕ}
use Rattle.lms_sign.specs.declared.verifying.LmsRefusal.{LmsRefusal}
use Rattle.lms_sign.specs.declared.verifying.LmsRefusal.TheVariants.{KeyLength, SetType, SignatureLength}
use Rattle.lms_sign.specs.declared.verifying.LmsRefusal.TheVariants.{TypeDiffers, LeafRange, Root}

abbrev pub refusal_number : LmsRefusal → ℕ
refusal_number KeyLength = 1
refusal_number SetType = 2
refusal_number SignatureLength = 3
refusal_number TypeDiffers = 4
refusal_number LeafRange = 5
refusal_number Root = 6
