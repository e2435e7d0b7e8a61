-- Sums modulo a number.
use Rattle.std.proofs.Common.{◌≡◌, ℕ, ◌+◌, ◌*◌, ◌/◌, ◌%◌, ◌<◌, List, [], ◌∷◌, ◌++◌, length, take, get_or, sum, refl, sym, ap, ◌∙◌, arith}
use Rattle.std.specs.List.{fold}
use Rattle.std.proofs.Math.Nat.{mod-add-div, add-mul-mod_self_left}
use Rattle.std.proofs.lemmas.List.{take_more}

mod_again : (a n b : ℕ) → (a % n + b) % n ≡ (a + b) % n
mod_again a n b =
    let whole : (a % n + b) + n * (a / n) ≡ a + b = omega (arith, mod-add-div a n) in
    sym (add-mul-mod_self_left (a % n + b) n (a / n)) ∙ ap (λ m. m % n) whole

-- a sum is that of its terms, each modulo the number
pub sum_by_rests : (a b n : ℕ) → (a % n + b % n) % n ≡ (a + b) % n
sum_by_rests a b n =
    let turned : a % n + b % n ≡ b % n + a % n = omega arith in
    let back : b + a % n ≡ a % n + b = omega arith in
    ap (λ m. m % n) turned ∙ mod_again b n (a % n) ∙ ap (λ m. m % n) back ∙ mod_again a n b

fold_push : (a : ℕ) (xs : List ℕ) (y : ℕ) → fold ◌+◌ a (xs ++ y ∷ []) ≡ fold ◌+◌ a xs + y
fold_push a [] y = refl
fold_push a (x ∷ xs) y = fold_push (a + x) xs y

sum_push : (xs : List ℕ) (y : ℕ) → sum (xs ++ y ∷ []) ≡ sum xs + y
sum_push xs y = fold_push 0 xs y

-- a running sum modulo a number is the sum modulo that number
pub sum_more : (s n i : ℕ) (key : List ℕ) → i < length key → s ≡ sum (take i key) % n → (s + get_or key i 0) % n ≡ sum
    (take (i + 1) key) % n
sum_more s n i key h e =
    ap (λ m. (m + get_or key i 0) % n) e ∙ mod_again (sum (take i key)) n (get_or key i 0)
    ∙ ap (λ m. m % n) (sym (ap sum (take_more key i 0 h) ∙ sum_push (take i key) (get_or key i 0)))
