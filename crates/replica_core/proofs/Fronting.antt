-- Frames and releases that are made one by one.
use Rattle.std.proofs.Common.{◌≡◌, ℕ, zero, suc, ◌+◌, ◌<◌, List, [], ◌∷◌, ◌++◌, length, map, refl, sym, ap, ◌∙◌, arith}
use Rattle.std.specs.Prelude.{take, slice_index_or}
use Rattle.std.specs.List.{AllByRecursion}
use Rattle.basil_types.specs.declared.party.Party.{Party}
use Rattle.node_steps.specs.declared.pending.Unsigned.{Unsigned}
use Rattle.replica_core.specs.declared.work.Release.{Release}
use Rattle.node_steps.specs.Pendings.{Front, front_of}

take_next : (F : Party → Front) (ps : List Party) (k : ℕ) (d : Party) → k < length ps →
    take (suc k) (map F ps) ≡ take k (map F ps) ++ F (slice_index_or ps k d) ∷ []
take_next F [] k d h = absurd (omega (arith, h))
take_next F (p ∷ ps) zero d h = refl
take_next F (p ∷ ps) (suc k) d h = ap (λ l. F p ∷ l) (take_next F ps k d (omega (arith, h)))

map_push : (fs : List Unsigned) (u : Unsigned) → map front_of (fs ++ u ∷ []) ≡ map front_of fs ++ front_of u ∷ []
map_push [] u = refl
map_push (f ∷ fs) u = ap (λ l. front_of f ∷ l) (map_push fs u)

pub next_front : (F : Party → Front) (ps : List Party) (k : ℕ) (d : Party) (fs ns : List Unsigned) (u : Unsigned) → ns ≡ fs ++ u ∷ [] →
    front_of u ≡ F (slice_index_or ps k d) → k < length ps → map front_of fs ≡ take k (map F ps) →
    map front_of ns ≡ take (k + 1) (map F ps)
next_front F ps k d fs ns u n f h e =
    let i : k + 1 ≡ suc k = omega arith in
    ap (map front_of) n ∙ map_push fs u ∙ ap (λ l. l ++ front_of u ∷ []) e ∙ ap (λ x. take k (map F ps) ++ x ∷ []) f
    ∙ sym (ap (λ n. take n (map F ps)) i ∙ take_next F ps k d h)

pub nil_behind : (vs : List Release) → vs ++ [] ≡ vs
nil_behind [] = refl
nil_behind (v ∷ vs) = ap (λ l. v ∷ l) (nil_behind vs)

pub all_push : {A : Type 0} (P : A → Type 0) (xs : List A) (x : A) → AllByRecursion P xs → P x → AllByRecursion P (xs ++ x ∷ [])
all_push P [] x a p = (p, tt)
all_push P (y ∷ xs) x a p = (a.0, all_push P xs x a.1 p)

pub nil_of : {A : Type 0} (xs : List A) → length xs ≡ 0 → xs ≡ []
nil_of [] e = refl
nil_of (x ∷ xs) e = absurd (omega (arith, e))
