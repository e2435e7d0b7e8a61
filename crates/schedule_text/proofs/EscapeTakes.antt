-- What is read as a key, a value or a frame is its spelling.
use Rattle.std.proofs.Common.{◌≡◌, ℕ, zero, suc, ◌+◌, ◌-◌, ◌*◌, ◌/◌, ◌%◌, ◌<◌, ◌≤◌, ◌==◌, List, [], ◌∷◌, ◌++◌}
use Rattle.std.proofs.Common.{length, Bool, true, false, not, ◌&&◌, eqb, refl, sym, ap, ◌∙◌, arith, Result}
use Rattle.std.proofs.Common.{Ok, Err, Option, Some, None, codes, slice_index, inl, inr, if◌then◌else◌, subst}
use Rattle.std.specs.Prelude.{nat_le, nat_lt, bytes_eq}
use Rattle.std.proofs.lemmas.Grind.{common_steps}
use Rattle.std.proofs.lemmas.Bool.{cases_lt, eqb-true, ltb-true}
use Rattle.std.specs.List.{list_all}
use Rattle.hex.specs.Hex.{IsBytes, lower_digits, encode_lower, encode_with, decode_of, decode_pairs}
use Rattle.hex.specs.Hex.{pair_value, value_at, hex_digit_value, digit_or_error, ◌>>=◌}
use Rattle.hex.specs.declared.error.FromHexError.{FromHexError}
use Rattle.hex.proofs.HexLemmas.{decode_of-ok, decode_of-even}
use Rattle.basil_types.specs.Limits.{frame_limit}
use Rattle.line_fields.specs.declared.complaint.Complaint.{Complaint}
use Rattle.line_fields.specs.declared.complaint.Complaint.TheVariants.{Misspelt, OutOfSize}
use Rattle.line_fields.specs.Tokens.{Token}
use Rattle.line_fields.specs.Fields.{is_plain, is_digit, is_lower_hex, hex_digit, pair_of_digits, unless_plain}
use Rattle.line_fields.specs.Fields.{escape, onto, unescaped, sized, text, value, spelt, hex, sized_frame, frame}
use Rattle.schedule_text.specs.Spelling.{spelled_byte, key_token, value_token}
use Rattle.schedule_text.specs.Fitting.{HasBytes}
use Rattle.schedule_text.proofs.TokenLaws.{and-left, and-right}
use Rattle.schedule_text.proofs.ResultTakes.{ok-is, some-is, if-ok}
use Rattle.schedule_text.proofs.FieldTakes.{le-of, text-is}

-- ---- hex digits

glyph : ℕ → ℕ
glyph d = if nat_lt d 10 then 48 + d else 87 + d

glyphs-stand : ℕ → Bool
glyphs-stand zero = true
glyphs-stand (suc n) = (slice_index lower_digits n == glyph n) && glyphs-stand n

glyph-at : (n d : ℕ) → glyphs-stand n ≡ true → d < n → slice_index lower_digits d ≡ glyph d
unfolding glyphs-stand
glyph-at zero d h l = absurd (omega arith)
glyph-at (suc n) d h l =
    elim (cases_lt d n) [
      | inl below ↦ glyph-at n d (and-right (slice_index lower_digits n == glyph n) (glyphs-stand n) h) below
      | inr top ↦
          let e : d ≡ n = omega arith in
          rw e (eqb-true (slice_index lower_digits n) (glyph n) (and-left (slice_index lower_digits n == glyph n) (glyphs-stand n) h))
    ]

digit-glyph : (d : ℕ) → d < 16 → slice_index lower_digits d ≡ glyph d
unfolding glyphs-stand glyph
digit-glyph d l = glyph-at 16 d refl l

-- the digit of a value is the character that has it
pub hex_digit-takes : (c d : ℕ) → hex_digit c ≡ Some d → (d < 16) × (slice_index lower_digits d ≡ c)
unfolding glyph
hex_digit-takes c d h = tested (is_digit c) refl (nat_le 97 c && nat_le c 102) refl h
  where
    tested : (a : Bool) → is_digit c ≡ a → (b : Bool) → (nat_le 97 c && nat_le c 102) ≡ b
        → (if a then Some (c - 48) else (if b then Some (c - 87) else None)) ≡ Some d → (d < 16) × (slice_index lower_digits d ≡ c)
    tested true i b j h =
        let e : c - 48 ≡ d = some-is (c - 48) d h in
        let l : 48 ≤ c = le-of 48 c (and-left (nat_le 48 c) (nat_le c 57) i) in
        let m : c ≤ 57 = le-of c 57 (and-right (nat_le 48 c) (nat_le c 57) i) in
        let s : d < 16 = omega arith in
        let t : nat_lt d 10 ≡ true = grind (arith, common_steps) in
        let g : glyph d ≡ 48 + d = rw t refl in
        (s, digit-glyph d s ∙ g ∙ omega arith)
    tested false i true j h =
        let e : c - 87 ≡ d = some-is (c - 87) d h in
        let l : 97 ≤ c = le-of 97 c (and-left (nat_le 97 c) (nat_le c 102) j) in
        let m : c ≤ 102 = le-of c 102 (and-right (nat_le 97 c) (nat_le c 102) j) in
        let s : d < 16 = omega arith in
        let t : nat_lt d 10 ≡ false = grind (arith, common_steps) in
        let g : glyph d ≡ 87 + d = rw t refl in
        (s, digit-glyph d s ∙ g ∙ omega arith)
    tested false i false j h = cc h

-- ---- escapes

Spelled : Token → List ℕ → Type 0
Spelled w bytes = (key_token bytes ≡ w) × IsBytes bytes

bytes-cons : (b : ℕ) (bytes : List ℕ) → b < 256 → IsBytes bytes → IsBytes (b ∷ bytes)
bytes-cons b bytes l h zero = l
bytes-cons b bytes l h (suc i) = h i

onto-takes : (b : ℕ) (o : Option (List ℕ)) (bytes : List ℕ) →
    onto (Some b) o ≡ Some bytes → (rest : List ℕ) × (o ≡ Some rest) × (b ∷ rest ≡ bytes)
onto-takes b None bytes h = cc h
onto-takes b (Some rest) bytes h = (rest, refl, some-is (b ∷ rest) bytes h)

plain-spelled : (b : ℕ) → is_plain b ≡ true → (spelled_byte b ≡ b ∷ []) × (b < 256)
plain-spelled b h = (rw h refl, plain-small b h)
  where
    plain-small : (b : ℕ) → is_plain b ≡ true → b < 256
    plain-small b h =
        let m : b ≤ 126 = le-of b 126 (and-right (nat_le 33 b) (nat_le b 126) (and-left (nat_le 33 b && nat_le b 126)
        (not (b == 37)) (and-left (nat_le 33 b && nat_le b 126 && not (b == 37)) (not (b == 58)) h))) in
        omega arith

-- one byte, and the bytes of the rest
one-more : (b : ℕ) (w : Token) (bytes : List ℕ) (o : Option (List ℕ)) → is_plain b ≡ true → onto (Some b) o ≡ Some bytes →
    ((rest : List ℕ) → o ≡ Some rest → (key_token rest ≡ w) × IsBytes rest) → (key_token bytes ≡ b ∷ w) × IsBytes bytes
one-more b w bytes o p h again =
    let t = onto-takes b o bytes h in
    let r = again t.0 t.1 in
    let s = plain-spelled b p in
    subst (λ (z : List ℕ). (key_token z ≡ b ∷ w) × IsBytes z) t.2
    (ap (λ (u : List ℕ). u ++ key_token t.0) s.0 ∙ ap (λ (u : List ℕ). b ∷ u) r.0, bytes-cons b t.0 s.1 r.1)

escape-takes : (p c d x : ℕ) → escape p c d ≡ Some x → (p ∷ c ∷ d ∷ [] ≡ spelled_byte x) × (x < 256)
escape-takes p c d x h = tested (p == 37) refl h
  where
    digits : (a b : Option ℕ) → hex_digit c ≡ a →
        hex_digit d ≡ b → unless_plain (pair_of_digits a b) ≡ Some x → p ≡ 37 → (p ∷ c ∷ d ∷ [] ≡ spelled_byte x) × (x < 256)
    digits None b i j h e = cc h
    digits (Some u) None i j h e = cc h
    digits (Some u) (Some v) i j h e = unplain (is_plain (16 * u + v)) refl h
      where
        unplain : (q : Bool) → is_plain (16 * u + v) ≡ q →
            (if q then None else Some (16 * u + v)) ≡ Some x → (p ∷ c ∷ d ∷ [] ≡ spelled_byte x) × (x < 256)
        unplain true k h = cc h
        unplain false k h =
            let s : 16 * u + v ≡ x = some-is (16 * u + v) x h in
            let a = hex_digit-takes c u i in
            let b = hex_digit-takes d v j in
            let l : u < 16 = a.0 in
            let m : v < 16 = b.0 in
            let high : x / 16 ≡ u = omega arith in
            let low : x % 16 ≡ v = omega arith in
            let n : is_plain x ≡ false = ap is_plain (sym s) ∙ k in
            (rw (n, high, low, a.1, b.1, e) refl, omega arith)

    tested : (q : Bool) → (p == 37) ≡ q → (if q then unless_plain (pair_of_digits (hex_digit c) (hex_digit d)) else None) ≡ Some x →
        (p ∷ c ∷ d ∷ [] ≡ spelled_byte x) × (x < 256)
    tested true i h = digits (hex_digit c) (hex_digit d) refl refl h (eqb-true p 37 i)
    tested false i h = cc h

one-escaped : (p c d : ℕ) (w : Token) (bytes : List ℕ) (e : Option ℕ) (o : Option (List ℕ)) → escape p c d ≡ e → onto e o ≡ Some bytes →
    ((rest : List ℕ) → o ≡ Some rest → (key_token rest ≡ w) × IsBytes rest) → (key_token bytes ≡ p ∷ c ∷ d ∷ w) × IsBytes bytes
one-escaped p c d w bytes None o i h again = cc h
one-escaped p c d w bytes (Some x) o i h again =
    let t = onto-takes x o bytes h in
    let r = again t.0 t.1 in
    let s = escape-takes p c d x i in
    subst (λ (z : List ℕ). (key_token z ≡ p ∷ c ∷ d ∷ w) × IsBytes z) t.2
    (ap (λ (u : List ℕ). u ++ key_token t.0) (sym s.0) ∙ ap (λ (u : List ℕ). p ∷ c ∷ d ∷ u) r.0, bytes-cons x t.0 s.1 r.1)

pub unescaped-takes : (w : Token) (bytes : List ℕ) → unescaped w ≡ Some bytes → (key_token bytes ≡ w) × IsBytes bytes
unfolding unescaped
unescaped-takes [] bytes h = subst (λ (z : List ℕ). (key_token z ≡ []) × IsBytes z) (some-is [] bytes h) (refl, λ i. omega arith)
unescaped-takes (b ∷ []) bytes h = tested (is_plain b) refl h (λ rest e. unescaped-takes [] rest e)
  where
    tested : (q : Bool) → is_plain b ≡ q → (if q then Some (b ∷ []) else None) ≡ Some bytes →
        ((rest : List ℕ) → Some [] ≡ Some rest → (key_token rest ≡ []) × IsBytes rest) → (key_token bytes ≡ b ∷ []) × IsBytes bytes
    tested false i h again = cc h
    tested true i h again = one-more b [] bytes (Some []) i h again
unescaped-takes (b ∷ c ∷ []) bytes h = tested (is_plain b) refl h (λ rest e. unescaped-takes (c ∷ []) rest e)
  where
    tested : (q : Bool) → is_plain b ≡ q → (if q then onto (Some b) (unescaped (c ∷ [])) else None) ≡ Some bytes → ((rest : List ℕ) →
        unescaped (c ∷ []) ≡ Some rest → (key_token rest ≡ c ∷ []) × IsBytes rest) → (key_token bytes ≡ b ∷ c ∷ []) × IsBytes bytes
    tested false i h again = cc h
    tested true i h again = one-more b (c ∷ []) bytes (unescaped (c ∷ [])) i h again
unescaped-takes (b ∷ c ∷ d ∷ w) bytes h =
    tested (is_plain b) refl h (λ rest e. unescaped-takes (c ∷ d ∷ w) rest e) (λ rest e. unescaped-takes w rest e)
  where
    tested : (q : Bool) → is_plain b ≡ q →
        (if q then onto (Some b) (unescaped (c ∷ d ∷ w)) else onto (escape b c d) (unescaped w)) ≡ Some bytes
        → ((rest : List ℕ) → unescaped (c ∷ d ∷ w) ≡ Some rest → (key_token rest ≡ c ∷ d ∷ w) × IsBytes rest) → ((rest : List ℕ) →
        unescaped w ≡ Some rest → (key_token rest ≡ w) × IsBytes rest) → (key_token bytes ≡ b ∷ c ∷ d ∷ w) × IsBytes bytes
    tested true i h next behind = one-more b (c ∷ d ∷ w) bytes (unescaped (c ∷ d ∷ w)) i h next
    tested false i h next behind = one-escaped b c d w bytes (escape b c d) (unescaped w) refl h behind

sized-takes : (most : ℕ) (o : Option (List ℕ)) (bytes : List ℕ) → sized most o ≡ Ok bytes → (o ≡ Some bytes) × (length bytes ≤ most)
sized-takes most None bytes h = cc h
sized-takes most (Some bs) bytes h =
    let p = if-ok (nat_le (length bs) most) (Ok bs) OutOfSize bytes h in
    let e : bs ≡ bytes = ok-is bs bytes p.1 in
    (ap (λ (z : List ℕ). Some z) e, subst (λ (z : List ℕ). length z ≤ most) e (le-of (length bs) most p.0))

some-bytes : (bytes : List ℕ) (b : ℕ) (w : Token) → key_token bytes ≡ b ∷ w → 1 ≤ length bytes
some-bytes [] b w h = cc h
some-bytes (x ∷ bytes) b w h = omega arith

pub text-takes : (most : ℕ) (w : Token) (bytes : List ℕ) → text most w ≡ Ok bytes → (key_token bytes ≡ w) × HasBytes 1 most bytes
unfolding text
text-takes most [] bytes h = cc h
text-takes most (b ∷ w) bytes h =
    let s = sized-takes most (unescaped (b ∷ w)) bytes h in
    let u = unescaped-takes (b ∷ w) bytes s.0 in
    (u.0, (some-bytes bytes b w u.0, s.1, u.1))

value-of : (bytes : List ℕ) → 1 ≤ length bytes → value_token bytes ≡ key_token bytes
value-of [] h = absurd (omega arith)
value-of (b ∷ bytes) h = let e : eqb (suc (length bytes)) 0 ≡ false = grind (arith, common_steps) in rw e refl

pub value-takes : (w : Token) (bytes : List ℕ) → value w ≡ Ok bytes → (value_token bytes ≡ w) × HasBytes 0 256 bytes
unfolding value
value-takes w bytes h = tested (bytes_eq w (codes "%")) refl h
  where
    tested : (q : Bool) → bytes_eq w (codes "%") ≡ q →
        (if q then Ok [] else text 256 w) ≡ Ok bytes → (value_token bytes ≡ w) × HasBytes 0 256 bytes
    tested true i h = subst (λ (z : List ℕ). (value_token z ≡ w) × HasBytes 0 256 z)
        (ok-is [] bytes h) (sym (text-is w (codes "%") i), (omega arith, omega arith, λ k. omega arith))
    tested false i h =
        let t = text-takes 256 w bytes h in
        (value-of bytes t.1.0 ∙ t.0, (omega arith, t.1.1, t.1.2))

-- ---- hex

bind-ok : {A B : Type 0} (r : Result A FromHexError) (f : A → Result B FromHexError) (y : B) →
    (r >>= f) ≡ Ok y → (x : A) × (r ≡ Ok x) × (f x ≡ Ok y)
bind-ok (Ok x) f y h = (x, refl, h)
bind-ok (Err e) f y h = cc h

hex-ok-is : {A : Type 0} (a b : A) → ◌≡◌ {A = Result A FromHexError} (Ok a) (Ok b) → a ≡ b
hex-ok-is a b h = cc

-- a lower-case digit that hex reads
lower-value : (c i d : ℕ) → is_lower_hex c ≡ true → value_at c i ≡ Ok d → (slice_index lower_digits d ≡ c) × (d < 16)
lower-value c i d l h = read (hex_digit_value c) refl h
  where
    same : (d : ℕ) → hex_digit_value c ≡ Some d → hex_digit c ≡ Some d
    same d e = grind (arith, common_steps)

    read : (o : Option ℕ) → hex_digit_value c ≡ o → digit_or_error c i o ≡ Ok d → (slice_index lower_digits d ≡ c) × (d < 16)
    read None e h = cc h
    read (Some x) e h =
        let t = hex_digit-takes c x (same x e) in
        subst (λ (z : ℕ). (slice_index lower_digits z ≡ c) × (z < 16)) (hex-ok-is x d h) (t.1, t.0)

pairs-take : (i : ℕ) (w : Token) (bytes : List ℕ) → list_all is_lower_hex w ≡ true → decode_pairs i w ≡ Ok bytes → encode_lower bytes ≡ w
unfolding decode_pairs encode_with
pairs-take i [] bytes l h = subst (λ (z : List ℕ). encode_lower z ≡ []) (hex-ok-is [] bytes h) refl
pairs-take i (a ∷ []) bytes l h = cc h
pairs-take i (a ∷ b ∷ w) bytes l h =
    let p0 = bind-ok (pair_value a b i) _ bytes h in
    let p1 = bind-ok (value_at a i) _ p0.0 p0.1 in
    let p2 = bind-ok (value_at b (i + 1)) _ p0.0 p1.2 in
    let p3 = bind-ok (decode_pairs (i + 2) w) _ bytes p0.2 in
    let la : is_lower_hex a ≡ true = and-left (is_lower_hex a) (is_lower_hex b && list_all is_lower_hex w) l in
    let lr : (is_lower_hex b && list_all is_lower_hex w) ≡ true =
    and-right (is_lower_hex a) (is_lower_hex b && list_all is_lower_hex w) l in
    let va = lower-value a i p1.0 la p1.1 in
    let vb = lower-value b (i + 1) p2.0 (and-left (is_lower_hex b) (list_all is_lower_hex w) lr) p2.1 in
    let again = pairs-take (i + 2) w p3.0 (and-right (is_lower_hex b) (list_all is_lower_hex w) lr) p3.1 in
    let e : p0.0 ∷ p3.0 ≡ bytes = hex-ok-is (p0.0 ∷ p3.0) bytes p3.2 in
    let byte : p1.0 * 16 + p2.0 ≡ p0.0 = hex-ok-is (p1.0 * 16 + p2.0) p0.0 p2.2 in
    let sa : p1.0 < 16 = va.1 in
    let sb : p2.0 < 16 = vb.1 in
    let high : p0.0 / 16 ≡ p1.0 = omega arith in
    let low : p0.0 % 16 ≡ p2.0 = omega arith in
    rw (← e, high, low, va.0, vb.0, again) refl

pub hex-takes : (w : Token) (bytes : List ℕ) → hex w ≡ Ok bytes → (encode_lower bytes ≡ w) × (1 ≤ length bytes) × IsBytes bytes
unfolding hex
hex-takes w bytes h =
    let p = if-ok (nat_lt 0 (length w) && list_all is_lower_hex w) (spelt (decode_of w)) Misspelt bytes h in
    let some : 0 < length w = ltb-true 0 (length w) (and-left (nat_lt 0 (length w)) (list_all is_lower_hex w) p.0) in
    let d = decoded (decode_of w) refl p.1 in
    let k = decode_of-ok w bytes d in
    let n : length w ≡ 2 * length bytes = k.2 in (
      pairs-take 0 w bytes (and-right (nat_lt 0 (length w)) (list_all is_lower_hex w) p.0)
          (sym (decode_of-even w k.0) ∙ d),
      omega arith,
      k.3,
    )
  where
    decoded : (r : Result (List ℕ) FromHexError) → decode_of w ≡ r → spelt r ≡ Ok bytes → decode_of w ≡ Ok bytes
    decoded (Ok bs) e h = e ∙ ap (λ (z : List ℕ). Ok z) (ok-is bs bytes h)
    decoded (Err f) e h = cc h

pub frame-takes : (w : Token) (bytes : List ℕ) → frame w ≡ Ok bytes → (encode_lower bytes ≡ w) × HasBytes 1 frame_limit bytes
unfolding frame
frame-takes w bytes h = read (hex w) refl h
  where
    read : (r : Result (List ℕ) Complaint) → hex w ≡ r → sized_frame r ≡ Ok bytes → (encode_lower bytes ≡ w) × HasBytes 1 frame_limit bytes
    read (Err c) e h = cc h
    read (Ok bs) e h =
        let p = if-ok (nat_le (length bs) frame_limit) (Ok bs) OutOfSize bytes h in
        let t = hex-takes w bytes (e ∙ p.1) in
        let s : bs ≡ bytes = ok-is bs bytes p.1 in
        (t.0, (t.1, subst (λ (z : List ℕ). length z ≤ frame_limit) s (le-of (length bs) frame_limit p.0), t.2))
