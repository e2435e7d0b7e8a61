-- The index of the words that are kept, and its changes.
use Rattle.std.proofs.Common.{◌≡◌, ℕ, subst, ◌-◌, Bool, true, false, cond, List, [], ◌∷◌, ◌++◌, length, take}
use Rattle.std.proofs.Common.{Option, Some, None, Vec, Global, refl, sym, ap, ◌∙◌, append-nil, length-append, arith}
use Rattle.std.specs.Prelude.{◌==◌}
use Rattle.std.specs.Option.{option_map_or}
use Rattle.std.specs.Str.{bytes_eq}
use Rattle.std.specs.Cmp.Lexicographic.{same_text}
use Rattle.std.proofs.lemmas.Bool.{and_parts, eqb-true}
use Rattle.fallback_leader.specs.declared.words.KeptWord.{KeptWord}
use Rattle.fallback_leader.specs.declared.index.Index.{Index}
use Rattle.fallback_leader.specs.Elections.{is_of, words_of, has_word, is_heard}
use Rattle.fallback_leader.specs.Index.{places_of, words_at, same_key, group_at, places_at}
use Rattle.fallback_leader.specs.Index.{IsIndexOf, IsSame, Adds, TakesBack, without_last}
use Rattle.fallback_leader.specs.Collectors.{IsKept}
use Rattle.fallback_leader.proofs.WordLaws.{is_heard-words_of}
use Rattle.fallback_leader.proofs.PlaceLaws.{words_at-places_of, length-places_of, places_of-push}

-- ---- what an index tells

pub words_are : (kept : List KeptWord) (index : Index) (id : List ℕ) (view : ℕ) → IsIndexOf kept index →
    words_at kept (places_at index id view) ≡ words_of kept id view
words_are kept index id view h = ap (words_at kept) (h id view) ∙ words_at-places_of kept id view

pub count_is : (kept : List KeptWord) (index : Index) (id : List ℕ) (view : ℕ) → IsIndexOf kept index →
    length (places_at index id view) ≡ length (words_of kept id view)
count_is kept index id view h = ap (λ (ps : List ℕ). length ps) (h id view) ∙ length-places_of kept id view

pub heard_is : (kept : List KeptWord) (index : Index) (id : List ℕ) (view replica : ℕ) → IsIndexOf kept index →
    is_heard (words_at kept (places_at index id view)) replica ≡ has_word kept id view replica
heard_is kept index id view replica h =
    ap (λ ws. is_heard ws replica) (words_are kept index id view h) ∙ is_heard-words_of kept id view replica

-- ---- one list changes

-- the list of a view of a transaction is w, and the others are as before
abbrev pub Puts : Index → Index → List ℕ → ℕ → Vec ℕ Global → Type 0
Puts old new id view w = (i : List ℕ) (v : ℕ) → group_at new i v ≡ cond (same_key id view i v) (Some w) (group_at old i v)

listed : Option (Vec ℕ Global) → List ℕ
listed group = option_map_or (λ places. places.items) group []

same_group : (index : Index) (id : List ℕ) (view : ℕ) (i : List ℕ) (v : ℕ) →
    same_key id view i v ≡ true → group_at index i v ≡ group_at index id view
same_group index id view i v e =
    let parts = and_parts (bytes_eq id i) (view == v) e in
    sym (ap (λ i. group_at index i view) (same_text id i (sym parts.0)) ∙ ap (λ v. group_at index i v) (eqb-true view v parts.1))

pub adds : (old new : Index) (id : List ℕ) (view place : ℕ) (u w : Vec ℕ Global) →
    group_at old id view ≡ Some u → w.items ≡ u.items ++ place ∷ [] →
    Puts old new id view w → Adds old new id view place
unfolding listed
adds old new id view place u w there more puts i v = ap listed (puts i v) ∙ by (same_key id view i v) refl
  where
    by : (b : Bool) → same_key id view i v ≡ b →
        listed (cond b (Some w) (group_at old i v)) ≡ listed (group_at old i v) ++ cond b (place ∷ []) []
    by true e = more ∙ ap (λ g. listed g ++ place ∷ []) (sym (same_group old id view i v e ∙ there))
    by false e = sym (append-nil (listed (group_at old i v)))

pub takes_back : (old new : Index) (id : List ℕ) (view : ℕ) (u w : Vec ℕ Global) →
    group_at old id view ≡ Some u → w.items ≡ without_last u.items →
    Puts old new id view w → TakesBack old new id view
unfolding listed
takes_back old new id view u w there fewer puts i v = ap listed (puts i v) ∙ by (same_key id view i v) refl
  where
    by : (b : Bool) → same_key id view i v ≡ b →
        listed (cond b (Some w) (group_at old i v)) ≡ cond b (without_last (listed (group_at old i v))) (listed (group_at old i v))
    by true e = fewer ∙ ap (λ g. without_last (listed g)) (sym (same_group old id view i v e ∙ there))
    by false e = refl

-- a view of a transaction that has no list has no place to take back
pub takes_none : (index : Index) (id : List ℕ) (view : ℕ) → group_at index id view ≡ None → TakesBack index index id view
unfolding listed
takes_none index id view none i v = by (same_key id view i v) refl
  where
    by : (b : Bool) → same_key id view i v ≡ b →
        listed (group_at index i v) ≡ cond b (without_last (listed (group_at index i v))) (listed (group_at index i v))
    by true e =
        let empty = same_group index id view i v e ∙ none in
        ap listed empty ∙ ap (λ g. without_last (listed g)) (sym empty)
    by false e = refl

pub same_items : (old new : Index) (id : List ℕ) (view : ℕ) (u w : Vec ℕ Global) → group_at old id view ≡ Some u → w.items ≡ u.items →
    Puts old new id view w → IsSame old new
unfolding listed
same_items old new id view u w there same puts i v = ap listed (puts i v) ∙ by (same_key id view i v) refl
  where
    by : (b : Bool) → same_key id view i v ≡ b → listed (cond b (Some w) (group_at old i v)) ≡ listed (group_at old i v)
    by true e = same ∙ ap listed (sym (same_group old id view i v e ∙ there))
    by false e = refl

pub new_group : (old new : Index) (id : List ℕ) (view : ℕ) (w : Vec ℕ Global) → group_at old id view ≡ None → w.items ≡ [] →
    Puts old new id view w → IsSame old new
unfolding listed
new_group old new id view w none empty puts i v = ap listed (puts i v) ∙ by (same_key id view i v) refl
  where
    by : (b : Bool) → same_key id view i v ≡ b → listed (cond b (Some w) (group_at old i v)) ≡ listed (group_at old i v)
    by true e = empty ∙ ap listed (sym (same_group old id view i v e ∙ none))
    by false e = refl

-- ---- a word more, and a word fewer

pub index_none : (index : Index) → ((id : List ℕ) (view : ℕ) → places_at index id view ≡ []) → IsIndexOf [] index
index_none index h id view = h id view

pub index_same : (kept : List KeptWord) (old new : Index) → IsIndexOf kept old → IsSame old new → IsIndexOf kept new
index_same kept old new h same id view = same id view ∙ h id view

pub index_push : (kept : List KeptWord) (k : KeptWord) (old new : Index) (place : ℕ) → IsIndexOf kept old → place ≡ length kept →
    Adds old new k.id k.view place → IsIndexOf (kept ++ k ∷ []) new
index_push kept k old new place h is added id view =
    added id view ∙ ap (λ ps. ps ++ cond (is_of id view k) (place ∷ []) []) (h id view)
    ∙ ap (λ n. places_of kept id view ++ cond (is_of id view k) (n ∷ []) []) is ∙ sym (places_of-push kept k id view)

take_front : (xs ys : List ℕ) → take (length xs) (xs ++ ys) ≡ xs
take_front [] ys = refl
take_front (x ∷ xs) ys = ap (λ zs. x ∷ zs) (take_front xs ys)

without_last-push : (xs : List ℕ) (x : ℕ) → without_last (xs ++ x ∷ []) ≡ xs
without_last-push xs x =
    let n : length (xs ++ x ∷ []) - 1 ≡ length xs = omega (arith, length-append xs (x ∷ [])) in
    ap (λ n. take n (xs ++ x ∷ [])) n ∙ take_front xs (x ∷ [])

pub index_pop : (kept : List KeptWord) (k : KeptWord) (old new : Index) → IsIndexOf (kept ++ k ∷ []) old → TakesBack old new k.id k.view →
    IsIndexOf kept new
index_pop kept k old new h back id view =
    back id view ∙ by (is_of id view k) (h id view ∙ places_of-push kept k id view)
  where
    by : (b : Bool) → places_at old id view ≡ places_of kept id view ++ cond b (length kept ∷ []) [] →
        cond b (without_last (places_at old id view)) (places_at old id view) ≡ places_of kept id view
    by true e = ap without_last e ∙ without_last-push (places_of kept id view) (length kept)
    by false e = e ∙ append-nil (places_of kept id view)

pub kept_is : (kept new : List KeptWord) (index after : Index) → new ≡ kept → after ≡ index → IsKept kept index → IsKept new after
kept_is kept new index after k i h = subst (λ ks. IsKept ks after) (sym k) (subst (λ x. IsKept kept x) (sym i) h)
