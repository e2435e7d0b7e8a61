-- The places of the words for one view of one transaction, among all that are kept.
use Rattle.std.proofs.Common.{◌≡◌, ℕ, suc, ◌+◌, ◌<◌, Bool, true, false, cond, List, [], ◌∷◌, ◌++◌, length, get_or, take, map, Option, Some}
use Rattle.std.proofs.Common.{None, slice_get, Bor, ◌≤◌, inl, inr, refl, sym, ap, subst, ◌∙◌, append-nil, append_assoc, filter, arith}
use Rattle.std.specs.Prelude.{◌||◌, ◌==◌}
use Rattle.std.specs.List.{list_any}
use Rattle.std.specs.Option.{IfSome, MatchOption}
use Rattle.std.proofs.lemmas.Option.{slice_get_read, slice_get_cases}
use Rattle.std.proofs.lemmas.List.{map-append, take_more}
use Rattle.std.proofs.Math.ListN.{length-map}
use Rattle.frame_values.specs.declared.owned.parts.ElectPart.{ElectPart}
use Rattle.fallback_leader.specs.declared.words.KeptWord.{KeptWord}
use Rattle.fallback_leader.specs.Elections.{is_of, words_of, is_heard}
use Rattle.fallback_leader.specs.Index.{places_of, word_at, words_at}

-- ---- the words at the places of a view's words are its words

words_at-later : (k : KeptWord) (kept : List KeptWord) (places : List ℕ) → words_at (k ∷ kept) (map suc places) ≡ words_at kept places
words_at-later k kept [] = refl
words_at-later k kept (p ∷ places) = ap (λ ws. word_at kept p ++ ws) (words_at-later k kept places)

pub words_at-places_of : (kept : List KeptWord) (id : List ℕ) (view : ℕ) → words_at kept (places_of kept id view) ≡ words_of kept id view
words_at-places_of [] id view = refl
words_at-places_of (k ∷ kept) id view =
    by (is_of id view k) (words_at-later k kept (places_of kept id view) ∙ words_at-places_of kept id view)
  where
    by : (b : Bool) → words_at (k ∷ kept) (map suc (places_of kept id view)) ≡ words_of kept id view →
        words_at (k ∷ kept) (cond b (0 ∷ map suc (places_of kept id view)) (map suc (places_of kept id view))) ≡
        map (λ k. k.word) (cond b (k ∷ filter (is_of id view) kept) (filter (is_of id view) kept))
    by true rest = ap (λ ws. k.word ∷ ws) rest
    by false rest = rest

pub length-places_of : (kept : List KeptWord) (id : List ℕ) (view : ℕ) → length (places_of kept id view) ≡ length (words_of kept id view)
length-places_of [] id view = refl
length-places_of (k ∷ kept) id view = by (is_of id view k) (length-map (places_of kept id view) suc ∙ length-places_of kept id view)
  where
    by : (b : Bool) → length (map suc (places_of kept id view)) ≡ length (words_of kept id view) →
        length (cond b (0 ∷ map suc (places_of kept id view)) (map suc (places_of kept id view))) ≡
        length (map (λ k. k.word) (cond b (k ∷ filter (is_of id view) kept) (filter (is_of id view) kept)))
    by true rest = ap suc rest
    by false rest = rest

-- ---- one more

pub places_of-push : (kept : List KeptWord) (k : KeptWord) (id : List ℕ) (view : ℕ) →
    places_of (kept ++ k ∷ []) id view ≡ places_of kept id view ++ cond (is_of id view k) (length kept ∷ []) []
places_of-push [] k id view = refl
places_of-push (n ∷ kept) k id view = by (is_of id view n) (is_of id view k) (places_of-push kept k id view)
  where
    later : (b : Bool) → map suc (cond b (length kept ∷ []) []) ≡ cond b (suc (length kept) ∷ []) []
    later true = refl
    later false = refl

    all : (b : Bool) → places_of (kept ++ k ∷ []) id view ≡ places_of kept id view ++ cond b (length kept ∷ []) [] →
        map suc (places_of (kept ++ k ∷ []) id view) ≡ map suc (places_of kept id view) ++ cond b (suc (length kept) ∷ []) []
    all b rest =
        ap (map suc) rest ∙ map-append suc (places_of kept id view) (cond b (length kept ∷ []) [])
        ∙ ap (λ more. map suc (places_of kept id view) ++ more) (later b)

    by : (a b : Bool) → places_of (kept ++ k ∷ []) id view ≡ places_of kept id view ++ cond b (length kept ∷ []) [] →
        cond a (0 ∷ map suc (places_of (kept ++ k ∷ []) id view)) (map suc (places_of (kept ++ k ∷ []) id view)) ≡
        cond a (0 ∷ map suc (places_of kept id view)) (map suc (places_of kept id view)) ++ cond b (suc (length kept) ∷ []) []
    by true b rest = ap (λ ps. 0 ∷ ps) (all b rest)
    by false b rest = all b rest

-- ---- walks over places

pub words_at-append : (kept : List KeptWord) (places more : List ℕ) →
    words_at kept (places ++ more) ≡ words_at kept places ++ words_at kept more
words_at-append kept [] more = refl
words_at-append kept (p ∷ places) more =
    ap (λ ws. word_at kept p ++ ws) (words_at-append kept places more)
    ∙ sym (append_assoc (word_at kept p) (words_at kept places) (words_at kept more))

is_heard-append : (words more : List ElectPart) (replica : ℕ) →
    is_heard (words ++ more) replica ≡ (is_heard words replica || is_heard more replica)
is_heard-append [] more replica = refl
is_heard-append (w ∷ words) more replica = by (w.replica == replica) (is_heard-append words more replica)
  where
    by : (b : Bool) → is_heard (words ++ more) replica ≡ (is_heard words replica || is_heard more replica) →
        (b || is_heard (words ++ more) replica) ≡ ((b || is_heard words replica) || is_heard more replica)
    by true rest = refl
    by false rest = rest

pub is_heard-words_at : (kept : List KeptWord) (places : List ℕ) (replica : ℕ) →
    is_heard (words_at kept places) replica ≡ list_any (λ p. is_heard (word_at kept p) replica) places
is_heard-words_at kept [] replica = refl
is_heard-words_at kept (p ∷ places) replica =
    is_heard-append (word_at kept p) (words_at kept places) replica
    ∙ ap (λ b. is_heard (word_at kept p) replica || b) (is_heard-words_at kept places replica)

-- the first places of a list, and the next one
pub words_at-more : (kept : List KeptWord) (places : List ℕ) (i p : ℕ) → i < length places → p ≡ get_or places i p →
    words_at kept (take (i + 1) places) ≡ words_at kept (take i places) ++ word_at kept p
words_at-more kept places i p h is =
    ap (words_at kept) (take_more places i p h ∙ ap (λ n. take i places ++ n ∷ []) (sym is)) ∙ words_at-append kept (take i places) (p ∷ [])
    ∙ ap (λ ws. words_at kept (take i places) ++ ws) (append-nil (word_at kept p))

-- what `get` lends is what stands at the place
pub found_some : (kept : List KeptWord) (p : ℕ) (r : Option (Bor KeptWord)) (b : Bor KeptWord) (Q : Bor KeptWord → Type 0) → r ≡ Some b →
    IfSome r (λ x. x.now ≡ get_or kept p x.now) →
    MatchOption r (length kept ≤ p) (λ x. (p < length kept) × Q x) → slice_get kept p ≡ Some b.now
found_some kept p r b Q is here within =
    let at : b.now ≡ get_or kept p b.now = subst (λ (o : Option (Bor KeptWord)). IfSome o (λ x. x.now ≡ get_or kept p x.now)) is here in
    let both : (p < length kept) × Q b =
    subst (λ (o : Option (Bor KeptWord)). MatchOption o (length kept ≤ p) (λ x. (p < length kept) × Q x)) is within in
    slice_get_read kept (length kept) p b.now refl both.0 at

pub found_none : (kept : List KeptWord) (p : ℕ) (r : Option (Bor KeptWord)) (Q : Bor KeptWord → Type 0) → r ≡ None →
    MatchOption r (length kept ≤ p) Q → slice_get kept p ≡ None
found_none kept p r Q is within =
    let past : length kept ≤ p = subst (λ (o : Option (Bor KeptWord)). MatchOption o (length kept ≤ p) Q) is within in
    elim (slice_get_cases kept p).1 [
      | inl h ↦ absurd (omega (arith, past, h.1))
      | inr h ↦ h.1
    ]
