-- The numbers of the two parameter sets (RFC 8554, section 4.1), where n is 32.
use Rattle.std.specs.Prelude.{ℕ, ◌+◌, ◌*◌}
use Rattle.lms_ots.specs.declared.sets.OtsSet.{OtsSet}
use Rattle.lms_ots.specs.declared.sets.OtsSet.TheVariants.{W4, W8}

-- w, the bits of a digit
abbrev pub width_of : OtsSet → ℕ
width_of W4 = 4
width_of W8 = 8

-- p, the number of chains
abbrev pub chains_of : OtsSet → ℕ
chains_of W4 = 67
chains_of W8 = 34

-- the last place of a chain, 2 ^ w - 1
abbrev pub last_of : OtsSet → ℕ
last_of W4 = 15
last_of W8 = 255

-- ls, by which the checksum is shifted to the left
abbrev pub shift_of : OtsSet → ℕ
shift_of W4 = 4
shift_of W8 = 0

-- the number of the type
abbrev pub type_of : OtsSet → ℕ
type_of W4 = 3
type_of W8 = 4

-- the bytes of a signature: the type, C and an end for each chain
abbrev pub signature_length : OtsSet → ℕ
signature_length set = 4 + 32 * (chains_of set + 1)
