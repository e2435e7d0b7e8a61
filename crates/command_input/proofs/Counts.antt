-- Arguments that are small numbers.
use Rattle.std.proofs.Common.{◌≡◌, ℕ, ◌≤◌, Bool, true, false, Fits, w8, w32, Result, Ok, Err, refl, arith}
use Rattle.std.specs.Prelude.{◌&&◌, nat_le, if◌then◌else◌}
use Rattle.std.proofs.lemmas.Grind.{common_steps}
use Rattle.line_fields.specs.Fields.{in_range, number, number_in}
use Rattle.line_fields.specs.Tokens.{Token}
use Rattle.line_fields.specs.declared.complaint.Complaint.{Complaint}
use Rattle.line_fields.specs.declared.complaint.Complaint.TheVariants.{OutOfRange}

le-of : (m n : ℕ) → nat_le m n ≡ true → m ≤ n
le-of m n e = grind (arith, common_steps)

most : (least bound : ℕ) (r : Result ℕ Complaint) (n : ℕ) → in_range least bound r ≡ Ok n → n ≤ bound
most least bound (Err c) n e = absurd cc
most least bound (Ok m) n e = by (nat_le least m) (nat_le m bound) refl e
  where
    by : (a b : Bool) → nat_le m bound ≡ b → (if a && b then Ok m else Err OutOfRange) ≡ Ok n → n ≤ bound
    by true true f e = let same : m ≤ bound = le-of m bound f in let is : m ≡ n = cc in omega (arith, same, is)
    by true false f e = absurd cc
    by false b f e = absurd cc

least_of : (least bound : ℕ) (r : Result ℕ Complaint) (n : ℕ) → in_range least bound r ≡ Ok n → least ≤ n
least_of least bound (Err c) n e = absurd cc
least_of least bound (Ok m) n e = by (nat_le least m) (nat_le m bound) refl e
  where
    by : (a b : Bool) → nat_le least m ≡ a → (if a && b then Ok m else Err OutOfRange) ≡ Ok n → least ≤ n
    by true true f e = let low : least ≤ m = le-of least m f in let is : m ≡ n = cc in omega (arith, low, is)
    by true false f e = absurd cc
    by false b f e = absurd cc

-- and at least its beginning
pub in_least : (least bound : ℕ) (argument : Token) (n : ℕ) → number_in least bound argument ≡ Ok n → least ≤ n
unfolding number_in
in_least least bound argument n e = least_of least bound (number argument) n e

-- a number in a range is at most its end
pub in_bound : (least bound : ℕ) (argument : Token) (n : ℕ) → number_in least bound argument ≡ Ok n → n ≤ bound
unfolding number_in
in_bound least bound argument n e = most least bound (number argument) n e

pub byte_fits : (argument : Token) (n : ℕ) → number_in 0 255 argument ≡ Ok n → Fits w8 n
byte_fits argument n e = let small : n ≤ 255 = in_bound 0 255 argument n e in omega (arith, small)

pub leaf_fits : (argument : Token) (n : ℕ) → number_in 0 1024 argument ≡ Ok n → Fits w32 n
leaf_fits argument n e = let small : n ≤ 1024 = in_bound 0 1024 argument n e in omega (arith, small)

pub client_fits : (argument : Token) (n : ℕ) → number_in 1 16 argument ≡ Ok n → Fits w8 n
client_fits argument n e = let small : n ≤ 16 = in_bound 1 16 argument n e in omega (arith, small)
