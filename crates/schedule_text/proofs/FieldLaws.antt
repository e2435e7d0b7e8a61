-- What a field's spelling is read as.
use Rattle.std.proofs.Common.{◌≡◌, ℕ, zero, suc, ◌-◌, ◌<◌, ◌≤◌, ◌^◌, ◌==◌, List, [], ◌∷◌, length, Bool, true, false}
use Rattle.std.proofs.Common.{◌&&◌, eqb, refl, ap, arith, Ok, Option, Some, None, get_or, codes, slice_index, inl, inr}
use Rattle.std.specs.Prelude.{nat_le, nat_lt, bytes_eq, unwrap_or}
use Rattle.std.proofs.lemmas.Grind.{common_steps}
use Rattle.std.proofs.lemmas.Bool.{cases_lt, eqb-true, lt-ltb}
use Rattle.std.proofs.lemmas.Fmt.{digits_decimal, digits_value-decimal, decimal_nonempty, first_decimal, length-decimal-le}
use Rattle.std.specs.List.{list_all}
use Rattle.std.specs.Fmt.{decimal}
use Rattle.std.specs.Str.Parse.{digits_value}
use Rattle.hex.specs.Hex.{lower_digits}
use Rattle.basil_types.specs.Limits.{IsU64}
use Rattle.basil_types.specs.declared.party.Decision.{Decision}
use Rattle.basil_types.specs.declared.party.Decision.TheVariants.{Commit, Abort}
use Rattle.line_fields.specs.declared.keys_kind.KeysKind.{KeysKind}
use Rattle.line_fields.specs.declared.keys_kind.KeysKind.TheVariants.{Plain, W4H5, W4H10, W8H5, W8H10, Batch}
use Rattle.line_fields.specs.Tokens.{Token}
use Rattle.line_fields.specs.Fields.{number, number_in, is_digit, is_canonical, views, is_lower}
use Rattle.line_fields.specs.Fields.{is_name_byte, name, writer, decision, is_lower_hex, hex_digit, keys_kind}
use Rattle.line_fields.specs.Parties.{place}
use Rattle.schedule_text.specs.Spelling.{keys_token, decision_token, writer_token}
use Rattle.schedule_text.specs.Fitting.{IsName, IsWriter, IsPlace, IsClient}
use Rattle.line_fields.proofs.Digits.{own}
use Rattle.schedule_text.proofs.TokenLaws.{and-left, and-right, all-weaker, clean, is_other}

-- ---- tests

pub le-yes : (a b : ℕ) → a ≤ b → nat_le a b ≡ true
le-yes a b h = grind (arith, common_steps)

pub lt-yes : (a b : ℕ) → a < b → nat_lt a b ≡ true
lt-yes a b h = lt-ltb a b h

-- ---- numbers

number-of : (w : Token) (n : ℕ) → nat_lt 0 (length w) ≡ true →
    list_all is_digit w ≡ true → is_canonical w ≡ true → digits_value 10 w ≡ n → nat_lt n (2 ^ 64) ≡ true → number w ≡ Ok n
unfolding number
number-of w n a b c d e = rw (a, b, c, d, e) refl

canonical-decimal : (n : ℕ) → n < 2 ^ 64 → is_canonical (decimal n) ≡ true
canonical-decimal zero h =
    let least : 0 < length (decimal 0) = decimal_nonempty 0 h in
    let most : length (decimal 0) ≤ 1 = length-decimal-le 1 0 (omega arith) (omega arith) h in
    let e : length (decimal 0) ≡ 1 = omega arith in
    rw e refl
canonical-decimal (suc n) h =
    let first : 48 < get_or (decimal (suc n)) 0 0 = first_decimal (suc n) (omega arith) h in
    grind (arith, common_steps)

pub number-again : (n : ℕ) → IsU64 n → number (decimal n) ≡ Ok n
number-again n h =
    number-of (decimal n) n (lt-yes 0 (length (decimal n)) (decimal_nonempty n h))
    (digits_decimal own n h) (canonical-decimal n h) (digits_value-decimal own n h) (lt-yes n (2 ^ 64) h)

pub number_in-again : (least most n : ℕ) → least ≤ n → n ≤ most → IsU64 n → number_in least most (decimal n) ≡ Ok n
unfolding number_in
number_in-again least most n l m h = rw (number-again n h, le-yes least n l, le-yes n most m) refl

pub client-again : (n : ℕ) → IsClient n → number_in 1 16 (decimal n) ≡ Ok n
client-again n h = number_in-again 1 16 n h.0 h.1 (omega arith)

pub replica-again : (n : ℕ) → n ≤ 30 → number_in 0 30 (decimal n) ≡ Ok n
replica-again n h = number_in-again 0 30 n (omega arith) h (omega arith)

pub shard-again : (n : ℕ) → n ≤ 7 → number_in 0 7 (decimal n) ≡ Ok n
shard-again n h = number_in-again 0 7 n (omega arith) h (omega arith)

pub place-again : (s r : ℕ) → IsPlace s r → place (decimal s) (decimal r) ≡ Ok (s, r)
place-again s r h = rw (shard-again s h.0, replica-again r h.1) refl

pub view-again : (n : ℕ) → 1 ≤ n → IsU64 n → number_in 1 (2 ^ 64 - 1) (decimal n) ≡ Ok n
view-again n l h = number_in-again 1 (2 ^ 64 - 1) n l (omega arith) h

pub views-again : (d c : ℕ) → d ≤ c → IsU64 c → views (decimal d) (decimal c) ≡ Ok (d, c)
unfolding views
views-again d c l h = rw (number-again d (omega arith), number-again c h, le-yes d c l) refl

-- ---- names and spelled tokens

pub name-again : (w : Token) → IsName w → name w ≡ Ok w
unfolding name
name-again w h = rw h refl

name-is-no-dash : (w : Token) → IsName w → bytes_eq w (codes "-") ≡ false
name-is-no-dash [] h = cc
name-is-no-dash (f ∷ r) h =
    let lower : is_lower f ≡ true =
    and-left (is_lower f) (list_all is_name_byte r) (and-left (is_lower f && list_all is_name_byte r) (nat_le (length r) 15) h) in
    let other : eqb f 45 ≡ false = grind (arith, common_steps) in
    rw other refl

pub writer-again : (w : Option (List ℕ)) → IsWriter w → writer (writer_token w) ≡ Ok w
unfolding writer
writer-again None h = refl
writer-again (Some w) h = rw (name-is-no-dash w h, name-again w h) refl

pub decision-again : (d : Decision) → decision (decision_token d) ≡ Ok d
unfolding decision
decision-again Commit = refl
decision-again Abort = refl

pub keys-again : (k : KeysKind) → keys_kind (keys_token k) ≡ Ok k
unfolding keys_kind
keys-again Plain = refl
keys-again W4H5 = refl
keys-again W4H10 = refl
keys-again W8H5 = refl
keys-again W8H10 = refl
keys-again Batch = refl

pub name-clean : (w : Token) → IsName w → clean w ≡ true
name-clean [] h = refl
name-clean (f ∷ r) h =
    let tested : (is_lower f && list_all is_name_byte r) ≡ true =
    and-left (is_lower f && list_all is_name_byte r) (nat_le (length r) 15) h in
    let first : is_other f ≡ true = name-other f (lower-name f (and-left (is_lower f) (list_all is_name_byte r) tested)) in
    let rest : clean r ≡ true = all-weaker is_name_byte is_other name-other r (and-right (is_lower f) (list_all is_name_byte r) tested) in
    rw (first, rest) refl
  where
    name-other : (b : ℕ) → is_name_byte b ≡ true → is_other b ≡ true
    name-other b h = grind (arith, common_steps)

    lower-name : (b : ℕ) → is_lower b ≡ true → is_name_byte b ≡ true
    lower-name b h = rw h refl

-- ---- hex digits

digit-back : ℕ → Bool
digit-back d = unwrap_or (hex_digit (slice_index lower_digits d)) 99 == d
    && is_lower_hex (slice_index lower_digits d) && is_other (slice_index lower_digits d)

digits-back : ℕ → Bool
digits-back zero = true
digits-back (suc n) = digit-back n && digits-back n

digits-back-at : (n d : ℕ) → digits-back n ≡ true → d < n → digit-back d ≡ true
unfolding digits-back
digits-back-at zero d h l = absurd (omega arith)
digits-back-at (suc n) d h l =
    elim (cases_lt d n) [
      | inl below ↦ digits-back-at n d (and-right (digit-back n) (digits-back n) h) below
      | inr top ↦ let e : d ≡ n = omega arith in rw e (and-left (digit-back n) (digits-back n) h)
    ]

digit-at : (d : ℕ) → d < 16 → digit-back d ≡ true
unfolding digits-back digit-back
digit-at d l = digits-back-at 16 d refl l

some-of : (o : Option ℕ) (d : ℕ) → d < 16 → unwrap_or o 99 ≡ d → o ≡ Some d
some-of (Some v) d l e = ap Some e
some-of None d l e = absurd (omega arith)

pub hex_digit-again : (d : ℕ) → d < 16 → hex_digit (slice_index lower_digits d) ≡ Some d
unfolding digit-back
hex_digit-again d l =
    some-of (hex_digit (slice_index lower_digits d)) d l
    (eqb-true (unwrap_or (hex_digit (slice_index lower_digits d)) 99) d
    (and-left _ (is_lower_hex (slice_index lower_digits d)) (and-left _ (is_other (slice_index lower_digits d)) (digit-at d l))))

pub digit-is-lower : (d : ℕ) → d < 16 → is_lower_hex (slice_index lower_digits d) ≡ true
unfolding digit-back
digit-is-lower d l = and-right (unwrap_or (hex_digit (slice_index lower_digits d)) 99 == d) _
    (and-left _ (is_other (slice_index lower_digits d)) (digit-at d l))

pub digit-is-clean : (d : ℕ) → d < 16 → is_other (slice_index lower_digits d) ≡ true
unfolding digit-back
digit-is-clean d l =
    and-right (unwrap_or (hex_digit (slice_index lower_digits d)) 99 == d && is_lower_hex (slice_index lower_digits d)) _ (digit-at d l)
