-- What the spelling of a key, a value or a frame is read as.
use Rattle.std.proofs.Common.{◌≡◌, ℕ, suc, ◌+◌, ◌*◌, ◌/◌, ◌%◌, ◌<◌, ◌≤◌, List, [], ◌∷◌, ◌++◌, length}
use Rattle.std.proofs.Common.{Bool, true, false, eqb, refl, ap, ◌∙◌, arith, Ok, Some, codes, slice_index}
use Rattle.std.specs.Prelude.{bytes_eq}
use Rattle.std.proofs.lemmas.Grind.{common_steps}
use Rattle.std.proofs.lemmas.List.Folds.{list_all-append}
use Rattle.std.specs.List.{list_all}
use Rattle.hex.specs.Hex.{IsBytes, lower_digits, encode_lower, encode_with}
use Rattle.hex.proofs.HexLemmas.{decode_of-encode_lower, length-encode_with}
use Rattle.basil_types.specs.Limits.{frame_limit}
use Rattle.line_fields.specs.Tokens.{Token}
use Rattle.line_fields.specs.Fields.{is_plain, is_lower_hex, escape, onto, unescaped, text, value, hex, frame}
use Rattle.schedule_text.specs.Spelling.{spelled_byte, key_token, value_token}
use Rattle.schedule_text.specs.Fitting.{HasBytes}
use Rattle.schedule_text.proofs.TokenLaws.{clean, is_other}
use Rattle.schedule_text.proofs.FieldLaws.{hex_digit-again, digit-is-lower, digit-is-clean, le-yes, lt-yes}

plain-step : (b : ℕ) (w : Token) → is_plain b ≡ true → unescaped (b ∷ w) ≡ onto (Some b) (unescaped w)
unfolding unescaped
plain-step b [] h = rw h refl
plain-step b (c ∷ []) h = rw h refl
plain-step b (c ∷ d ∷ rest) h = rw h refl

escape-again : (b : ℕ) → b < 256 → is_plain b ≡ false →
    escape 37 (slice_index lower_digits (b / 16)) (slice_index lower_digits (b % 16)) ≡ Some b
escape-again b l h =
    let whole : 16 * (b / 16) + b % 16 ≡ b = omega arith in
    rw (hex_digit-again (b / 16) (omega arith), hex_digit-again (b % 16) (omega arith), whole, h) refl

escape-step : (b : ℕ) (w : Token) → b < 256 → is_plain b ≡ false →
    unescaped (37 ∷ slice_index lower_digits (b / 16) ∷ slice_index lower_digits (b % 16) ∷ w) ≡ onto (Some b) (unescaped w)
unfolding unescaped
escape-step b w l h = rw (escape-again b l h) refl

byte-step : (b : ℕ) (w : Token) (plain : Bool) →
    is_plain b ≡ plain → b < 256 → unescaped (spelled_byte b ++ w) ≡ onto (Some b) (unescaped w)
byte-step b w true h l = rw h (plain-step b w h)
byte-step b w false h l = rw h (escape-step b w l h)

pub unescaped-again : (bytes : List ℕ) → IsBytes bytes → unescaped (key_token bytes) ≡ Some bytes
unfolding unescaped
unescaped-again [] h = refl
unescaped-again (b ∷ bytes) h =
    byte-step b (key_token bytes) (is_plain b) refl (h 0) ∙ ap (λ o. onto (Some b) o) (unescaped-again bytes (λ k. h (suc k)))

text-of : (most : ℕ) (w : Token) (bytes : List ℕ) → 1 ≤ length w → unescaped w ≡ Some bytes → length bytes ≤ most → text most w ≡ Ok bytes
unfolding text
text-of most [] bytes s e l = absurd (omega arith)
text-of most (b ∷ w) bytes s e l = rw (e, le-yes (length bytes) most l) refl

byte-length : (b : ℕ) (plain : Bool) → is_plain b ≡ plain → 1 ≤ length (spelled_byte b)
byte-length b true h = rw h (omega arith)
byte-length b false h = rw h (omega arith)

key-length : (bytes : List ℕ) → 1 ≤ length bytes → 1 ≤ length (key_token bytes)
key-length [] h = absurd (omega arith)
key-length (b ∷ bytes) h = let l = byte-length b (is_plain b) refl in grind (arith, common_steps, l)

pub text-again : (most : ℕ) (bytes : List ℕ) → HasBytes 1 most bytes → text most (key_token bytes) ≡ Ok bytes
text-again most bytes h = text-of most (key_token bytes) bytes (key-length bytes h.0) (unescaped-again bytes h.2) h.1

byte-is-no-percent : (b : ℕ) (w : Token) (plain : Bool) → is_plain b ≡ plain → bytes_eq (spelled_byte b ++ w) (codes "%") ≡ false
byte-is-no-percent b w true h = rw h (let other : eqb b 37 ≡ false = grind (arith, common_steps) in rw other refl)
byte-is-no-percent b w false h = rw h refl

some-length : (n : ℕ) → eqb (suc n) 0 ≡ false
some-length n = grind (arith, common_steps)

pub value-again : (bytes : List ℕ) → HasBytes 0 256 bytes → value (value_token bytes) ≡ Ok bytes
unfolding value
value-again [] h = refl
value-again (b ∷ bytes) h = rw (some-length (length bytes), byte-is-no-percent b (key_token bytes) (is_plain b) refl)
    (text-again 256 (b ∷ bytes) (omega arith, h.1, h.2))

byte-clean : (b : ℕ) (plain : Bool) → is_plain b ≡ plain → b < 256 → clean (spelled_byte b) ≡ true
byte-clean b true h l = rw h (let other : is_other b ≡ true = grind (arith, common_steps) in rw other refl)
byte-clean b false h l = rw (h, digit-is-clean (b / 16) (omega arith), digit-is-clean (b % 16) (omega arith)) refl

pub key-clean : (bytes : List ℕ) → IsBytes bytes → clean (key_token bytes) ≡ true
key-clean [] h = refl
key-clean (b ∷ bytes) h =
    rw (
      list_all-append is_other (spelled_byte b) (key_token bytes),
      byte-clean b (is_plain b) refl (h 0),
      key-clean bytes (λ k. h (suc k)),
    ) refl

pub value-clean : (bytes : List ℕ) → IsBytes bytes → clean (value_token bytes) ≡ true
value-clean [] h = refl
value-clean (b ∷ bytes) h = rw (some-length (length bytes)) (key-clean (b ∷ bytes) h)

-- ---- hex

hex-tests : (p : ℕ → Bool) → ((d : ℕ) → d < 16 → p (slice_index lower_digits d) ≡ true) →
    (bytes : List ℕ) → IsBytes bytes → list_all p (encode_lower bytes) ≡ true
unfolding encode_with
hex-tests p t [] h = refl
hex-tests p t (b ∷ bytes) h =
    let fits : b < 256 = h 0 in
    rw (t (b / 16) (omega arith), t (b % 16) (omega arith), hex-tests p t bytes (λ k. h (suc k))) refl

pub hex-clean : (bytes : List ℕ) → IsBytes bytes → clean (encode_lower bytes) ≡ true
hex-clean bytes h = hex-tests is_other digit-is-clean bytes h

pub hex-again : (bytes : List ℕ) → 1 ≤ length bytes → IsBytes bytes → hex (encode_lower bytes) ≡ Ok bytes
unfolding hex
hex-again bytes l h =
    let twice = length-encode_with lower_digits bytes in
    rw (
      lt-yes 0 (length (encode_lower bytes)) (omega (arith, twice)),
      hex-tests is_lower_hex digit-is-lower bytes h,
      decode_of-encode_lower bytes h,
    ) refl

pub frame-again : (bytes : List ℕ) → HasBytes 1 frame_limit bytes → frame (encode_lower bytes) ≡ Ok bytes
unfolding frame
frame-again bytes h = rw (hex-again bytes h.0 h.2, le-yes (length bytes) frame_limit h.1) refl
