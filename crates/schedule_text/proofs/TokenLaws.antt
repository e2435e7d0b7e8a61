-- Tokens without spaces, joined by spaces, are cut into the same tokens.
use Rattle.std.proofs.Common.{◌≡◌, ℕ, List, [], ◌∷◌, Bool, true, false, not, ◌&&◌, eqb, refl, ap, ◌∙◌, arith, ◌<◌, ◌^◌, get_or}
use Rattle.std.proofs.lemmas.Grind.{common_steps}
use Rattle.std.proofs.lemmas.List.Splits.{slice_split_at, slice_split_none}
use Rattle.std.proofs.lemmas.List.Sums.{AllPass-from_list_all}
use Rattle.std.specs.List.{All, list_all, join_with_byte}
use Rattle.std.specs.Fmt.{decimal}
use Rattle.std.proofs.lemmas.Fmt.{digits_decimal}
use Rattle.line_fields.specs.Tokens.{tokens}
use Rattle.line_fields.specs.Fields.{is_digit}
use Rattle.line_fields.proofs.Digits.{own}

abbrev pub is_other : ℕ → Bool
is_other b = not (eqb b 32)

-- no space stands in the token
abbrev pub clean : List ℕ → Bool
clean w = list_all is_other w

abbrev pub all_clean : List (List ℕ) → Bool
all_clean ws = list_all clean ws

pub and-left : (a b : Bool) → (a && b) ≡ true → a ≡ true
and-left true b h = refl
and-left false b h = h

pub and-right : (a b : Bool) → (a && b) ≡ true → b ≡ true
and-right true b h = h
and-right false b h = cc

pub not-true : (b : Bool) → not b ≡ true → b ≡ false
not-true true h = cc
not-true false h = refl

no-space : (w : List ℕ) → clean w ≡ true → All (λ b. eqb b 32 ≡ false) w
no-space w h = λ k d l. not-true (eqb (get_or w k d) 32) (AllPass-from_list_all is_other w h k d l)

pub tokens-again : (first : List ℕ) (rest : List (List ℕ)) →
    all_clean (first ∷ rest) ≡ true → tokens (join_with_byte 32 (first ∷ rest)) ≡ first ∷ rest
tokens-again first [] h = slice_split_none (λ b. eqb b 32) first (no-space first (and-left (clean first) true h))
tokens-again first (w ∷ rest) h =
    slice_split_at (λ b. eqb b 32) first 32
    (join_with_byte 32 (w ∷ rest)) (no-space first (and-left (clean first) (all_clean (w ∷ rest)) h)) refl
    ∙ ap (λ t. first ∷ t) (tokens-again w rest (and-right (clean first) (all_clean (w ∷ rest)) h))

-- a test that follows from another
pub all-weaker : (p q : ℕ → Bool) → ((b : ℕ) → p b ≡ true → q b ≡ true) → (w : List ℕ) → list_all p w ≡ true → list_all q w ≡ true
all-weaker p q h [] e = refl
all-weaker p q h (b ∷ w) e =
    let first : q b ≡ true = h b (and-left (p b) (list_all p w) e) in
    let rest : list_all q w ≡ true = all-weaker p q h w (and-right (p b) (list_all p w) e) in
    rw (first, rest) refl

digit-other : (b : ℕ) → is_digit b ≡ true → is_other b ≡ true
digit-other b h = grind (arith, common_steps)

pub clean-decimal : (n : ℕ) → n < 2 ^ 64 → clean (decimal n) ≡ true
clean-decimal n h = all-weaker is_digit is_other digit-other (decimal n) (digits_decimal own n h)
