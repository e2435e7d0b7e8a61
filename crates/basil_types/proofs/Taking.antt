-- What was taken whole was taken from its front.
use Rattle.std.proofs.Common.{◌≡◌, ℕ, [], ◌++◌, List, length, take, Option, Some, None, refl, ap, arith, sym, ◌∙◌}
use Rattle.std.specs.Prelude.{option_map}
use Rattle.std.proofs.Math.Seq.{take-append_seam}
use Rattle.std.proofs.lemmas.List.{append-nil}
use Rattle.basil_types.specs.Causes.{TookPrefix, TookAll}

take_whole : (xs : List ℕ) → take (length xs) xs ≡ xs
take_whole xs = ap (take (length xs)) (sym (append-nil xs)) ∙ take-append_seam xs []

pub took_all : (old new : Option (List ℕ)) (piece : List ℕ) → TookAll old new piece → TookPrefix old new piece
took_all old new piece e =
    record {
      count = length piece;
      within = omega arith;
      is = e ∙ ap (λ (t : List ℕ). option_map (λ (taken : List ℕ). taken ++ t) old)
          (sym (take_whole piece));
    }

pub took_none : (old : Option (List ℕ)) (piece : List ℕ) → TookPrefix old old piece
took_none None piece = record { count = 0; within = omega arith; is = refl }
took_none (Some taken) piece = record { count = 0; within = omega arith; is = ap Some (sym (append-nil taken)) }
