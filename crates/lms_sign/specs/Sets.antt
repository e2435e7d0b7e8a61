-- The numbers of the four parameter sets (RFC 8554, sections 4.1 and 5.1), where n and m are 32.
use Rattle.std.specs.Prelude.{ℕ, ◌+◌, ◌*◌, ◌^◌, ◌==◌, Option, Some, None, if◌then◌else◌}
use Rattle.lms_ots.specs.declared.sets.OtsSet.{OtsSet}
use Rattle.lms_ots.specs.declared.sets.OtsSet.TheVariants.{W4, W8}
use Rattle.lms_ots.specs.Sets as OneTime
use Rattle.lms_sign.specs.declared.sets.LmsSet.{LmsSet}
use Rattle.lms_sign.specs.declared.sets.LmsSet.TheVariants.{W4H5, W4H10, W8H5, W8H10}

-- the set of the one-time signatures
abbrev pub one_time_of : LmsSet → OtsSet
one_time_of W4H5 = W4
one_time_of W4H10 = W4
one_time_of W8H5 = W8
one_time_of W8H10 = W8

-- the number of the one-time type
abbrev pub one_time_type_of : LmsSet → ℕ
one_time_type_of set = OneTime.type_of (one_time_of set)

-- the bytes of a one-time signature
abbrev pub one_time_length : LmsSet → ℕ
one_time_length set = OneTime.signature_length (one_time_of set)

-- h, the height of the tree
abbrev pub height_of : LmsSet → ℕ
height_of W4H5 = 5
height_of W4H10 = 10
height_of W8H5 = 5
height_of W8H10 = 10

-- the leaves of the tree
abbrev pub leaves_of : LmsSet → ℕ
leaves_of set = 2 ^ height_of set

-- the number of the tree's type
abbrev pub type_of : LmsSet → ℕ
type_of W4H5 = 5
type_of W4H10 = 6
type_of W8H5 = 5
type_of W8H10 = 6

-- the bytes of a signature: u32 q, a one-time signature, u32 type and a node for each level
abbrev pub size_of : LmsSet → ℕ
size_of set = 4 + one_time_length set + 4 + 32 * height_of set

-- the set with these types of the tree and of the one-time signatures
abbrev pub set_of_types : ℕ → ℕ → Option LmsSet
set_of_types tree one_time =
    if tree == 5 then (if one_time == 3 then Some W4H5 else if one_time == 4 then Some W8H5 else None)
    else if tree == 6 then (if one_time == 3 then Some W4H10 else if one_time == 4 then Some W8H10 else None)
    else None
