-- What decimal digits parse to.
use Rattle.std.proofs.Common.{◌≡◌, ℕ, ◌^◌, ◌<◌, ◌≤◌, List, length, true, nat_lt, if◌then◌else◌, Option, Some, None}
use Rattle.std.proofs.Common.{Result, Ok, Err, rules, arith, tests}
use Rattle.std.proofs.lemmas.Grind.{common_steps}
use Rattle.std.specs.List.{list_all}
use Rattle.std.specs.Result.{OkIff, result_ok}
use Rattle.std.specs.Str.Parse.{digits_value, ParsesUnsigned}
use Rattle.std.proofs.lemmas.Str.Parse.{IsDigitsTest, IsNumeralModel, numerals_by_value, parse_digits}
use Rattle.cluster_file.specs.Members.{is_digit, is_whole}

abbrev AreDigits : List ℕ → Type 0
AreDigits ds = list_all is_digit ds ≡ true

tells-digits : IsDigitsTest AreDigits
tells-digits = search (rules, tests)

own : IsNumeralModel AreDigits (digits_value 10)
own = numerals_by_value AreDigits tells-digits

abbrev below_limit : ℕ → Option ℕ
below_limit v = if nat_lt v (2 ^ 64) then Some v else None

limited : {E : Type 0} (P : Type 0) (v : ℕ) (r : Result ℕ E) → P → OkIff r (P × (v < 2 ^ 64)) v → result_ok r ≡ below_limit v
limited P v (Ok x) p h = let b : v < 2 ^ 64 = h.0.1 in let e : x ≡ v = h.1 in grind (arith, common_steps)
limited P v (Err e) p h = let b : 2 ^ 64 ≤ v = not-below v (λ l. h (p, l)) in grind (arith, common_steps)
  where
    not-below : (v : ℕ) → (v < 2 ^ 64 → ⊥) → 2 ^ 64 ≤ v
    not-below v h = omega arith

some-digits : (ds : List ℕ) → is_whole ds ≡ true → 0 < length ds
some-digits ds h = grind (arith, common_steps)

all-digits : (ds : List ℕ) → is_whole ds ≡ true → AreDigits ds
all-digits ds h = grind (arith, common_steps)

-- a whole number parses to itself where it is below the limit
pub parsed : {E : Type 0} (ds : List ℕ) (r : Result ℕ E) → is_whole ds ≡ true → ParsesUnsigned 64 10 ds r
    → result_ok r ≡ (if nat_lt (digits_value 10 ds) (2 ^ 64) then Some (digits_value 10 ds) else None)
parsed ds r whole p =
    limited (0 < length ds) (digits_value 10 ds) r (some-digits ds whole) (parse_digits own 64 ds r p (all-digits ds whole))
