-- The first stray, one read after the other.
use Rattle.std.proofs.Common.{◌≡◌, ℕ, suc, ◌+◌, ◌<◌, Bool, true, false, cond, List, [], ◌∷◌, ◌++◌}
use Rattle.std.proofs.Common.{length, drop, get_or, Option, Some, None, refl, ap, sym, ◌∙◌, add-one}
use Rattle.std.proofs.Math.Seq.{drop-cons}
use Rattle.std.specs.Prelude.{filter, flat_map, fold, map, not, option_to_list}
use Rattle.std.specs.List.{enumerate_from}
use Rattle.basil_types.specs.declared.transaction.parts.ReadPart.{ReadPart}
use Rattle.basil_types.specs.declared.version.Version.{Version}
use Rattle.basil_types.specs.Transaction.{TransactionValue}
use Rattle.serial_audit.specs.Parts.{first_with}
use Rattle.serial_audit.specs.Strays.{Stray, earlier, is_right, stray_of, strays_among, strays_at}

fold_more : (s : Stray) (xs ys : List Stray) → fold earlier s (xs ++ ys) ≡ fold earlier (fold earlier s xs) ys
fold_more s [] ys = refl
fold_more s (x ∷ xs) ys = fold_more (earlier s x) xs ys

-- the first of two lists
pub first_more : (o : Option Stray) (xs ys : List Stray) → first_with o (xs ++ ys) ≡ first_with (first_with o xs) ys
first_more (Some s) xs ys = ap Some (fold_more s xs ys)
first_more None [] ys = refl
first_more None (x ∷ xs) ys = ap Some (fold_more x xs ys)

-- those of the first read, and of the others
pub strays_of_first : (ts : List TransactionValue) (reader : Version) (place : ℕ) (r : ReadPart) (rs : List ReadPart)
    → strays_among ts reader place (r ∷ rs) ≡ strays_among ts reader place (r ∷ []) ++ strays_among ts reader place rs
strays_of_first ts reader place r rs = by (not (is_right ts reader r))
  where
    by : (c : Bool) → map (stray_of ts reader place)
        (cond c (r ∷ filter (λ x. not (is_right ts reader x)) rs) (filter (λ x. not (is_right ts reader x)) rs))
        ≡ map (stray_of ts reader place) (cond c (r ∷ []) []) ++ strays_among ts reader place rs
    by true = refl
    by false = refl

-- one read more
pub one_read : (ts : List TransactionValue) (reader : Version) (place : ℕ) (all o new : Option Stray) (next : Option Stray)
    (old : List ReadPart) (r : ReadPart) (rs : List ReadPart) → all ≡ first_with o (strays_among ts reader place old) → old ≡ r ∷ rs
    → option_to_list next ≡ strays_among ts reader place (r ∷ []) → new ≡ first_with o (option_to_list next)
    → all ≡ first_with new (strays_among ts reader place rs)
one_read ts reader place all o new next old r rs so_far is found put =
    so_far
    ∙ ap (λ z. first_with o (strays_among ts reader place z)) is
    ∙ ap (first_with o) (strays_of_first ts reader place r rs)
    ∙ first_more o (strays_among ts reader place (r ∷ [])) (strays_among ts reader place rs)
    ∙ ap (λ z. first_with z (strays_among ts reader place rs)) (ap (first_with o) (sym found) ∙ sym put)

-- one reader more
pub one_reader : (ts : List TransactionValue) (all o new : Option Stray) (k : ℕ) (t : TransactionValue) → k < length ts → t ≡ get_or ts k t
    → all ≡ first_with o (flat_map (strays_at ts) (enumerate_from k (drop k ts))) → new ≡ first_with o (strays_at ts (k, t))
    → all ≡ first_with new (flat_map (strays_at ts) (enumerate_from (k + 1) (drop (k + 1) ts)))
one_reader ts all o new k t lt is so_far put =
    let here : drop k ts ≡ t ∷ drop (suc k) ts = drop-cons ts k t lt ∙ ap (λ z. z ∷ drop (suc k) ts) (sym is) in
    so_far
    ∙ ap (λ z. first_with o (flat_map (strays_at ts) (enumerate_from k z))) here
    ∙ first_more o (strays_at ts (k, t)) (flat_map (strays_at ts) (enumerate_from (k + 1) (drop (suc k) ts)))
    ∙ ap (λ z. first_with z (flat_map (strays_at ts) (enumerate_from (k + 1) (drop (suc k) ts)))) (sym put)
    ∙ ap (λ j. first_with new (flat_map (strays_at ts) (enumerate_from (k + 1) (drop j ts)))) (sym (add-one k))
