-- Digits are a text, and what it parses to.
use Rattle.std.proofs.Common.{◌≡◌, ℕ, ◌^◌, ◌<◌, ◌≤◌, List, [], ◌∷◌, length, true, nat_lt}
use Rattle.std.proofs.Common.{if◌then◌else◌, Option, Some, None, Result, Ok, Err, rules, arith, tests}
use Rattle.std.proofs.lemmas.Grind.{common_steps}
use Rattle.std.specs.List.{list_all}
use Rattle.std.specs.Result.{OkIff, result_ok}
use Rattle.std.specs.Str.{IsAscii, IsUtf8}
use Rattle.std.specs.Str.Parse.{digits_value, ParsesUnsigned}
use Rattle.std.proofs.lemmas.Str.{IsUtf8-from_ascii}
use Rattle.std.proofs.lemmas.Str.Ascii.{IsAscii-nil, IsAscii-cons}
use Rattle.std.proofs.lemmas.Str.Parse.{IsDigitsTest, IsNumeralModel, numerals_by_value, parse_digits}
use Rattle.line_fields.specs.Fields.{is_digit}

abbrev pub AreDigits : List ℕ → Type 0
AreDigits ds = list_all is_digit ds ≡ true

pub tells-digits : IsDigitsTest AreDigits
tells-digits = search (rules, tests)

pub own : IsNumeralModel AreDigits (digits_value 10)
own = numerals_by_value AreDigits tells-digits

digit-ascii : (c : ℕ) → is_digit c ≡ true → c < 128
digit-ascii c e = grind (arith, common_steps)

digits-first : (c : ℕ) (cs : List ℕ) → AreDigits (c ∷ cs) → is_digit c ≡ true
digits-first c cs h = grind (arith, common_steps)

digits-rest : (c : ℕ) (cs : List ℕ) → AreDigits (c ∷ cs) → AreDigits cs
digits-rest c cs h = grind (arith, common_steps)

digits-ascii : (ds : List ℕ) → AreDigits ds → IsAscii ds
digits-ascii [] h = IsAscii-nil
digits-ascii (c ∷ cs) h = IsAscii-cons c cs (digit-ascii c (digits-first c cs h)) (digits-ascii cs (digits-rest c cs h))

pub digits-utf8 : (ds : List ℕ) → AreDigits ds → IsUtf8 ds
digits-utf8 ds h = IsUtf8-from_ascii ds (digits-ascii ds h)

abbrev below_limit : ℕ → Option ℕ
below_limit v = if nat_lt v (2 ^ 64) then Some v else None

limited : {E : Type 0} (P : Type 0) (v : ℕ) (r : Result ℕ E) → P → OkIff r (P × (v < 2 ^ 64)) v → result_ok r ≡ below_limit v
limited P v (Ok x) p h = let b : v < 2 ^ 64 = h.0.1 in let e : x ≡ v = h.1 in grind (arith, common_steps)
limited P v (Err e) p h = let b : 2 ^ 64 ≤ v = not-below v (λ l. h (p, l)) in grind (arith, common_steps)
  where
    not-below : (v : ℕ) → (v < 2 ^ 64 → ⊥) → 2 ^ 64 ≤ v
    not-below v h = omega arith

-- digits parse to their number, where it is below the limit
pub parsed : {E : Type 0} (ds : List ℕ) (r : Result ℕ E) → AreDigits ds → 0 < length ds →
    ParsesUnsigned 64 10 ds r → result_ok r ≡ (if nat_lt (digits_value 10 ds) (2 ^ 64) then Some (digits_value 10 ds) else None)
parsed ds r h some p = limited (0 < length ds) (digits_value 10 ds) r some (parse_digits own 64 ds r p h)
