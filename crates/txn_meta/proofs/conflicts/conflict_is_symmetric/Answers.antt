use Rattle.std.proofs.Common.{◌≡◌, ℕ, Bool, true, false, List, refl, sym, ap, ◌∙◌}
use Rattle.std.specs.Prelude.{not, ◌&&◌, ◌||◌}
use Rattle.std.specs.Str.{bytes_eq}
use Rattle.std.specs.Cmp.Lexicographic.{bytes_decides}
use Rattle.std.proofs.lemmas.Bool.Decides.{same_from_decides}
use Rattle.basil_types.specs.Transaction.{canonical}
use Rattle.txn_meta.specs.Conflicts.{differ, is_crossed}
use Rattle.txn_meta.proofs.conflicts.conflict_is_symmetric.Goals as goal

turned : (a b : List ℕ) → bytes_eq a b ≡ bytes_eq b a
turned a b =
    let back = bytes_decides b a in
    same_from_decides {P = a ≡ b} (bytes_eq a b) (bytes_eq b a) (bytes_decides a b) (λ e. sym (back.0 e), λ e. back.1 (sym e))

or_turned : (a b : Bool) → (a || b) ≡ (b || a)
or_turned true true = refl
or_turned true false = refl
or_turned false true = refl
or_turned false false = refl

pub returns : goal.returns
returns c t u =
    ap (λ b. not b && (is_crossed t u || is_crossed u t)) (turned (canonical t) (canonical u))
    ∙ ap (λ b. differ u t && b) (or_turned (is_crossed t u) (is_crossed u t))
