-- The tokens of a load: short, and with no newline.
use Rattle.std.proofs.Common.{◌≡◌, ℕ, zero, suc, ◌+◌, ◌*◌, ◌^◌, ◌<◌, ◌≤◌, ◌==◌, List, [], ◌∷◌, ◌++◌, Bool, true, false}
use Rattle.std.proofs.Common.{not, codes, length, get_or, refl, ap, ◌∙◌, subst, sym, rules, arith, tests, length-append}
use Rattle.std.proofs.lemmas.Fmt.{IsAscii-decimal, digits_decimal, length-decimal-le}
use Rattle.std.proofs.lemmas.Grind.{common_steps}
use Rattle.std.proofs.lemmas.List.Folds.{list_all-append}
use Rattle.std.proofs.lemmas.List.Sums.{AllPass-from_list_all, list_all-from_AllPass}
use Rattle.std.proofs.lemmas.Str.Parse.{IsDigitsTest, IsNumeralModel, numerals_by_value}
use Rattle.std.specs.Fmt.{decimal}
use Rattle.std.specs.List.{flat_map, join_with_byte, list_all}
use Rattle.std.specs.Prelude.{nat_le}
use Rattle.std.specs.Str.Parse.{digits_value}
use Rattle.line_fields.specs.Fields.{is_digit, is_name_byte}
use Rattle.schedule_text.specs.Fitting.{HasBytes, IsName}
use Rattle.schedule_text.specs.Spelling.{key_token, spelled_byte, value_token}
use Rattle.load_maker.specs.Loads as Loads

-- ---- digits

abbrev AreDigits : List ℕ → Type 0
AreDigits ds = list_all is_digit ds ≡ true

tells-digits : IsDigitsTest AreDigits
tells-digits = search (rules, tests)

own : IsNumeralModel AreDigits (digits_value 10)
own = numerals_by_value AreDigits tells-digits

are-digits : (n : ℕ) → n < 2 ^ 32 → AreDigits (decimal n)
are-digits n h = digits_decimal own n (omega arith)

ten-digits : (n : ℕ) → n < 2 ^ 32 → length (decimal n) ≤ 10
ten-digits n h = length-decimal-le 10 n (omega arith) (omega arith) (omega arith)

-- a test that each digit passes
all-passed : (test : ℕ → Bool) → ((b : ℕ) → is_digit b ≡ true → test b ≡ true) → (ds : List ℕ) → AreDigits ds → list_all test ds ≡ true
all-passed test passes ds h =
    list_all-from_AllPass test ds (λ k d l. passes (get_or ds k d) (AllPass-from_list_all is_digit ds h k d l))

digit-named : (b : ℕ) → is_digit b ≡ true → is_name_byte b ≡ true
digit-named b h = grind (arith, common_steps)

-- ---- names, keys and values

le-yes : (a b : ℕ) → a ≤ b → nat_le a b ≡ true
le-yes a b h = grind (arith, common_steps)

pub named : (i : ℕ) → i < 2 ^ 32 → IsName (Loads.name_of i)
named i h =
    let bytes : list_all is_name_byte (decimal i) ≡ true = all-passed is_name_byte digit-named (decimal i) (are-digits i h) in
    rw (bytes, le-yes (length (decimal i)) 15 (omega (arith, ten-digits i h))) refl

bytes-of : (letter n : ℕ) → letter < 128 → n < 2 ^ 64 → (i : ℕ) → get_or (letter ∷ decimal n) i 0 < 256
bytes-of letter n h l zero = omega arith
bytes-of letter n h l (suc i) = omega (arith, IsAscii-decimal n l i)

pub key-fits : (n : ℕ) → n < 16 → HasBytes 1 64 (Loads.key_of n)
key-fits n h = (omega arith, omega (arith, ten-digits n (omega arith)), bytes-of 107 n (omega arith) (omega arith))

pub value-fits : (i : ℕ) → i < 2 ^ 32 → HasBytes 0 256 (Loads.value_of i)
value-fits i h = (omega arith, omega (arith, ten-digits i h), bytes-of 118 i (omega arith) (omega arith))

-- ---- tokens that are short and have no newline

abbrev pub is_inside : ℕ → Bool
is_inside b = not (b == 10)

pub record IsTidy (token : List ℕ) : Type 0 where
  pub short : length token ≤ 33
  pub inside : list_all is_inside token ≡ true

abbrev pub AllTidy : List (List ℕ) → Type 0
AllTidy [] = Unit {0}
AllTidy (w ∷ ws) = IsTidy w × AllTidy ws

pub joined-short : (first : List ℕ) (rest : List (List ℕ)) → IsTidy first → AllTidy rest →
    length (join_with_byte 32 (first ∷ rest)) ≤ 34 + 34 * length rest
joined-short first [] t h = omega (arith, t.short)
joined-short first (w ∷ rest) t h =
    omega (arith, t.short, joined-short w rest h.0 h.1, length-append first (32 ∷ join_with_byte 32 (w ∷ rest)))

pub joined-inside : (first : List ℕ) (rest : List (List ℕ)) → IsTidy first → AllTidy rest →
    list_all is_inside (join_with_byte 32 (first ∷ rest)) ≡ true
joined-inside first [] t h = t.inside
joined-inside first (w ∷ rest) t h =
    list_all-append is_inside first (32 ∷ join_with_byte 32 (w ∷ rest)) ∙ rw (t.inside, joined-inside w rest h.0 h.1) refl

digit-inside : (b : ℕ) → is_digit b ≡ true → is_inside b ≡ true
digit-inside b h = grind (arith, common_steps)

pub decimal-tidy : (n : ℕ) → n < 2 ^ 32 → IsTidy (decimal n)
decimal-tidy n h = record {
  short = omega (arith, ten-digits n h);
  inside = all-passed is_inside digit-inside (decimal n) (are-digits n h);
}

-- a text, and digits behind it
pub labelled-tidy : (label : List ℕ) (n : ℕ) → length label ≤ 23 → list_all is_inside label ≡ true → n < 2 ^ 32 →
    IsTidy (label ++ decimal n)
labelled-tidy label n s t h = record {
  short = omega (arith, ten-digits n h, length-append label (decimal n));
  inside = list_all-append is_inside label (decimal n) ∙ rw (t, (decimal-tidy n h).inside) refl;
}

pub name-tidy : (i : ℕ) → i < 2 ^ 32 → IsTidy (Loads.name_of i)
name-tidy i h = labelled-tidy (codes "t") i (omega arith) refl h

-- digits stand for themselves
digit-spelled : (b : ℕ) → is_digit b ≡ true → spelled_byte b ≡ b ∷ []
digit-spelled b h = grind (arith, common_steps)

digits-spelled : (ds : List ℕ) → AreDigits ds → flat_map spelled_byte ds ≡ ds
digits-spelled [] h = refl
digits-spelled (b ∷ ds) h =
    let first : is_digit b ≡ true = grind (arith, common_steps) in
    let rest : AreDigits ds = grind (arith, common_steps) in
    ap (λ t. t ++ flat_map spelled_byte ds) (digit-spelled b first) ∙ ap (λ t. b ∷ t) (digits-spelled ds rest)

no-zero : (n : ℕ) → (suc n == 0) ≡ false
no-zero n = grind (arith, common_steps)

key-spelled : (n : ℕ) → n < 16 → key_token (Loads.key_of n) ≡ Loads.key_of n
key-spelled n h = ap (λ t. 107 ∷ t) (digits-spelled (decimal n) (are-digits n (omega arith)))

value-spelled : (i : ℕ) → i < 2 ^ 32 → value_token (Loads.value_of i) ≡ Loads.value_of i
value-spelled i h = rw (no-zero (length (decimal i))) (ap (λ t. 118 ∷ t) (digits-spelled (decimal i) (are-digits i h)))

pub key-tidy : (n : ℕ) → n < 16 → IsTidy (key_token (Loads.key_of n))
key-tidy n h = subst IsTidy (sym (key-spelled n h)) (labelled-tidy (codes "k") n (omega arith) refl (omega arith))

pub value-tidy : (i : ℕ) → i < 2 ^ 32 → IsTidy (value_token (Loads.value_of i))
value-tidy i h = subst IsTidy (sym (value-spelled i h)) (labelled-tidy (codes "v") i (omega arith) refl h)
