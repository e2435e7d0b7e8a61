-- The eight marks of shards.
use Rattle.std.proofs.Common.{◌≡◌, ℕ, zero, suc, ◌<◌, Bool, true, false, List, [], ◌∷◌, length, refl, arith}
use Rattle.std.specs.Prelude.{◌||◌}
use Rattle.txn_meta.specs.Places.{is_marked}

-- a mark at each place
pub marks_are : (m : List Bool) (f : ℕ → Bool) → length m ≡ 8 → ((s : ℕ) → s < 8 → is_marked m s ≡ f s) → m ≡ f 0 ∷ f 1 ∷ f 2 ∷ f 3 ∷ f 4
    ∷ f 5 ∷ f 6 ∷ f 7 ∷ []
marks_are (a ∷ b ∷ c ∷ d ∷ e ∷ g ∷ h ∷ k ∷ []) f len same =
    λ i.
    same 0 (omega arith) i ∷ same 1 (omega arith) i ∷ same 2 (omega arith) i ∷ same 3 (omega arith) i ∷
    same 4 (omega arith) i ∷ same 5 (omega arith) i ∷ same 6 (omega arith) i ∷ same 7 (omega arith) i ∷ []
marks_are _ f len same = absurd (omega (arith, len))

-- both kinds of keys
pub both : (r w : Bool) → (w || (r || false)) ≡ (r || w)
both true true = refl
both true false = refl
both false true = refl
both false false = refl

pub moved : (p rest marked : Bool) → ((p || rest) || marked) ≡ (rest || (p || marked))
moved true true marked = refl
moved true false marked = refl
moved false true marked = refl
moved false false marked = refl

-- none at first
pub unmarked : (s : ℕ) → is_marked (false ∷ false ∷ false ∷ false ∷ false ∷ false ∷ false ∷ false ∷ []) s ≡ false
unmarked zero = refl
unmarked (suc zero) = refl
unmarked (suc (suc zero)) = refl
unmarked (suc (suc (suc zero))) = refl
unmarked (suc (suc (suc (suc zero)))) = refl
unmarked (suc (suc (suc (suc (suc zero))))) = refl
unmarked (suc (suc (suc (suc (suc (suc zero)))))) = refl
unmarked (suc (suc (suc (suc (suc (suc (suc zero))))))) = refl
unmarked (suc (suc (suc (suc (suc (suc (suc (suc s)))))))) = refl
