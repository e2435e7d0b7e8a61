-- The two leaves of a number.
use Rattle.std.proofs.Common.{◌≡◌, ℕ, ◌+◌, ◌*◌, ◌/◌, ◌%◌, ◌<◌, arith}
use Rattle.lms_sign.specs.declared.sets.LmsSet.{LmsSet}
use Rattle.lms_sign.specs.declared.sets.LmsSet.TheVariants.{W4H5, W4H10, W8H5, W8H10}
use Rattle.lms_sign.specs.Sets.{leaves_of}

pub top-of_number : (set : LmsSet) (q leaf : ℕ) → leaf < leaves_of set → (q * leaves_of set + leaf) / leaves_of set ≡ q
top-of_number W4H5 q leaf lt = omega arith
top-of_number W4H10 q leaf lt = omega arith
top-of_number W8H5 q leaf lt = omega arith
top-of_number W8H10 q leaf lt = omega arith

pub bottom-of_number : (set : LmsSet) (q leaf : ℕ) → leaf < leaves_of set → (q * leaves_of set + leaf) % leaves_of set ≡ leaf
bottom-of_number W4H5 q leaf lt = omega arith
bottom-of_number W4H10 q leaf lt = omega arith
bottom-of_number W8H5 q leaf lt = omega arith
bottom-of_number W8H10 q leaf lt = omega arith

-- a number is known by its two leaves
pub same-number : (set : LmsSet) (a b : ℕ) → a / leaves_of set ≡ b / leaves_of set → a % leaves_of set ≡ b % leaves_of set → a ≡ b
same-number W4H5 a b top low = omega arith
same-number W4H10 a b top low = omega arith
same-number W8H5 a b top low = omega arith
same-number W8H10 a b top low = omega arith

pub top-below : (top bottom : LmsSet) (n : ℕ) → n < leaves_of top * leaves_of bottom → n / leaves_of bottom < leaves_of top
top-below top W4H5 n lt = omega arith
top-below top W4H10 n lt = omega arith
top-below top W8H5 n lt = omega arith
top-below top W8H10 n lt = omega arith

pub bottom-below : (set : LmsSet) (n : ℕ) → n % leaves_of set < leaves_of set
bottom-below W4H5 n = omega arith
bottom-below W4H10 n = omega arith
bottom-below W8H5 n = omega arith
bottom-below W8H10 n = omega arith

-- behind the last bottom leaf comes the next top leaf
pub top-behind : (set : LmsSet) (q leaf : ℕ) → leaf ≡ leaves_of set → (q * leaves_of set + leaf) / leaves_of set ≡ q + 1
top-behind W4H5 q leaf e = omega arith
top-behind W4H10 q leaf e = omega arith
top-behind W8H5 q leaf e = omega arith
top-behind W8H10 q leaf e = omega arith
