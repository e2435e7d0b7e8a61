-- A string as digits of w bits, and the checksum (RFC 8554, sections 3.1.3 and 4.4).
use Rattle.std.specs.Prelude.{ℕ, zero, suc, ◌+◌, ◌-◌, ◌*◌, ◌/◌, ◌%◌, ◌^◌, List, ◌++◌, slice_index, bit_and}
use Rattle.std.specs.Int.{w16, to_be_bytes}
use Rattle.lms_ots.specs.declared.sets.OtsSet.{OtsSet}
use Rattle.lms_ots.specs.Sets.{width_of, last_of, shift_of}

-- coef(S, i, w): the digit i of a string
abbrev pub coef : List ℕ → ℕ → ℕ → ℕ
coef s i w = bit_and (2 ^ w - 1) (slice_index s (i * w / 8) / 2 ^ (8 - (w * (i % (8 / w)) + w)))

-- what the first n digits lack to the last place, in sum
unfoldable pub missing : OtsSet → List ℕ → ℕ → ℕ
missing set s zero = 0
missing set s (suc n) = missing set s n + (last_of set - coef s n (width_of set))

-- Cksm(S) of a string of 32 bytes, which is below 2 ^ 16
abbrev pub checksum : OtsSet → List ℕ → ℕ
checksum set s = missing set s (256 / width_of set) * 2 ^ shift_of set

-- what is signed of a digest: Q ‖ Cksm(Q)
abbrev pub signed_string : OtsSet → List ℕ → List ℕ
signed_string set digest = digest ++ to_be_bytes w16 (checksum set digest)

-- the place up to which a signature brings chain i
abbrev pub digit : OtsSet → List ℕ → ℕ → ℕ
digit set string i = coef string i (width_of set)
