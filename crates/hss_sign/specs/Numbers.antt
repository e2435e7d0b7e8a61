-- The numbers of the refusals, in the order of the tests.
use Rattle.std.specs.Prelude.{ℕ}
use Rattle.hss_sign.specs.declared.verifying.HssRefusal.{HssRefusal}
use Rattle.hss_sign.specs.declared.verifying.HssRefusal.TheVariants.{KeyLength, Levels, Count, SetType, Short, Lms}

abbrev pub refusal_number : HssRefusal → ℕ
refusal_number KeyLength = 1
refusal_number Levels = 2
refusal_number Count = 3
refusal_number (SetType level) = 4
refusal_number (Short level) = 5
refusal_number (Lms level refusal) = 6
