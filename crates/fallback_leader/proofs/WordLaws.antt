-- The words for one view of one transaction, among all that are kept.
use Rattle.std.proofs.Common.{◌≡◌, ℕ, ◌⊎◌, inl, inr, Bool, true, false, cond, List, []}
use Rattle.std.proofs.Common.{◌∷◌, ◌++◌, map, refl, sym, ap, subst, ◌∙◌, append-nil}
use Rattle.std.specs.Prelude.{filter, ◌&&◌, ◌||◌, ◌==◌}
use Rattle.std.specs.List.{list_any, IsDistinct, AllByRecursion}
use Rattle.std.specs.Cmp.{on_equiv, nat_eq_equiv}
use Rattle.std.specs.Cmp.Lexicographic.{same_text, nat_list_eq_equiv}
use Rattle.std.specs.Str.{bytes_eq}
use Rattle.std.proofs.lemmas.Bool.{cases_Bool, and_parts, eqb-true, eq-eqb}
use Rattle.std.proofs.lemmas.List.{map-append}
use Rattle.std.proofs.lemmas.List.Elements.{filter-append}
use Rattle.std.proofs.lemmas.Map.Keys.{IsDistinct-push}
use Rattle.frame_values.specs.declared.owned.parts.ElectPart.{ElectPart}
use Rattle.fallback_leader.specs.declared.words.KeptWord.{KeptWord}
use Rattle.fallback_leader.specs.Elections.{is_of, words_of, has_word, is_heard, AreApart}

-- ---- searched

pub is_heard-words_of : (kept : List KeptWord) (id : List ℕ) (view replica : ℕ) →
    is_heard (words_of kept id view) replica ≡ has_word kept id view replica
is_heard-words_of [] id view replica = refl
is_heard-words_of (k ∷ kept) id view replica = by (is_of id view k) (is_heard-words_of kept id view replica)
  where
    by : (b : Bool) → is_heard (words_of kept id view) replica ≡ has_word kept id view replica →
        is_heard (map (λ k. k.word) (cond b (k ∷ filter (is_of id view) kept) (filter (is_of id view) kept))) replica
        ≡ ((b && (k.word.replica == replica)) || has_word kept id view replica)
    by true rest = ap (λ b. (k.word.replica == replica) || b) rest
    by false rest = rest

-- ---- one more

pub words_of-append : (kept more : List KeptWord) (id : List ℕ) (view : ℕ) →
    words_of (kept ++ more) id view ≡ words_of kept id view ++ words_of more id view
words_of-append kept more id view =
    ap (map (λ k. k.word)) (filter-append (is_of id view) kept more)
    ∙ map-append (λ k. k.word) (filter (is_of id view) kept) (filter (is_of id view) more)

pub words_of-one : (k : KeptWord) (id : List ℕ) (view : ℕ) → is_of id view k ≡ true → words_of (k ∷ []) id view ≡ k.word ∷ []
words_of-one k id view e = ap (λ b. map (λ k. k.word) (cond b (k ∷ []) [])) e

pub words_of-none : (k : KeptWord) (id : List ℕ) (view : ℕ) → is_of id view k ≡ false → words_of (k ∷ []) id view ≡ []
words_of-none k id view e = ap (λ b. map (λ k. k.word) (cond b (k ∷ []) [])) e

pub is_of-itself : (k : KeptWord) → is_of k.id k.view k ≡ true
is_of-itself k =
    let ids : bytes_eq k.id k.id ≡ true = nat_list_eq_equiv.refl k.id in
    ap (λ b. b && (k.view == k.view)) ids ∙ eq-eqb k.view k.view refl

-- ---- no replica twice

all_front : {X : Type 0} (P : X → Type 0) (xs ys : List X) → AllByRecursion P (xs ++ ys) → AllByRecursion P xs
all_front P [] ys h = tt
all_front P (x ∷ xs) ys h = (h.0, all_front P xs ys h.1)

distinct_front : (eq : ElectPart → ElectPart → Bool) (xs ys : List ElectPart) → IsDistinct eq (xs ++ ys) → IsDistinct eq xs
unfolding IsDistinct
distinct_front eq [] ys h = tt
distinct_front eq (x ∷ xs) ys h = (all_front (λ y. eq x y ≡ false) xs ys h.0, distinct_front eq xs ys h.1)

pub apart_none : AreApart []
unfolding IsDistinct
apart_none id view = tt

pub apart_front : (kept more : List KeptWord) → AreApart (kept ++ more) → AreApart kept
apart_front kept more h id view =
    distinct_front (λ v w. v.replica == w.replica) (words_of kept id view) (words_of more id view)
    (subst (IsDistinct (λ v w. v.replica == w.replica)) (words_of-append kept more id view) (h id view))

turned : (words : List ElectPart) (w : ElectPart) → list_any (λ v. w.replica == v.replica) words ≡ is_heard words w.replica
turned [] w = refl
turned (v ∷ words) w =
    let back : (w.replica == v.replica) ≡ (v.replica == w.replica) = nat_eq_equiv.symm w.replica v.replica in
    ap (λ b. b || list_any (λ v. w.replica == v.replica) words) back ∙ ap (λ b. (v.replica == w.replica) || b) (turned words w)

pub distinct_push : (words : List ElectPart) (w : ElectPart) → IsDistinct (λ v w. v.replica == w.replica) words →
    is_heard words w.replica ≡ false → IsDistinct (λ v w. v.replica == w.replica) (words ++ w ∷ [])
distinct_push words w h free = IsDistinct-push (on_equiv (λ (w : ElectPart). w.replica) nat_eq_equiv) words w h (turned words w ∙ free)

pub apart_push : (kept : List KeptWord) (k : KeptWord) → AreApart kept → has_word kept k.id k.view k.word.replica ≡ false →
    AreApart (kept ++ k ∷ [])
apart_push kept k h free id view = subst (IsDistinct same) (sym (words_of-append kept (k ∷ []) id view)) (by (cases_Bool (is_of id view k)))
  where
    same : ElectPart → ElectPart → Bool
    same v w = v.replica == w.replica

    by : (is_of id view k ≡ true) ⊎ (is_of id view k ≡ false) → IsDistinct same (words_of kept id view ++ words_of (k ∷ []) id view)
    by (inl e) =
        let parts = and_parts (bytes_eq k.id id) (k.view == view) e in
        let ids : k.id ≡ id = same_text k.id id (sym parts.0) in
        let views : k.view ≡ view = eqb-true k.view view parts.1 in
        let here : is_heard (words_of kept id view) k.word.replica ≡ false = is_heard-words_of kept id view k.word.replica
        ∙ sym (ap (λ i. has_word kept i k.view k.word.replica) ids ∙ ap (λ v. has_word kept id v k.word.replica) views) ∙ free in
        subst (λ more. IsDistinct same (words_of kept id view ++ more))
        (sym (words_of-one k id view e)) (distinct_push (words_of kept id view) k.word (h id view) here)
    by (inr e) = subst (λ more. IsDistinct same (words_of kept id view ++ more))
        (sym (words_of-none k id view e)) (subst (IsDistinct same) (sym (append-nil (words_of kept id view))) (h id view))
