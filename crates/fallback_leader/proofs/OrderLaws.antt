-- Words by their replicas: the same words, ascending.
use Rattle.std.proofs.Common.{◌≡◌, ℕ, ◌+◌, ◌<◌, ◌≤◌, Bool, false, cond, List, [], ◌∷◌, ◌++◌, length, get_or, take}
use Rattle.std.proofs.Common.{map, slice_get, Some, None, refl, sym, ap, subst, ◌∙◌, append-nil, length-append, arith}
use Rattle.std.specs.Prelude.{fold, nat_le, ◌==◌, option_map, option_to_list}
use Rattle.std.specs.List.{IsDistinct, AllByRecursion}
use Rattle.std.specs.List.Sorted.{IsPermutation, IsStrictlySortedBy, IsStrictlyIncreasing}
use Rattle.std.specs.Map.{keys_of, values_of}
use Rattle.std.specs.BTreeMap.{insert_entry}
use Rattle.std.specs.declared.cmp.Ordering.{Ordering}
use Rattle.std.specs.declared.cmp.Ordering.TheVariants.{Less, Equal, Greater}
use Rattle.std.specs.Ordering.{nat_cmp, match_ordering}
use Rattle.std.specs.FinMap.{nat_cmp-IsAntisymmetric}
use Rattle.std.specs.Cmp.{nat_eq_equiv}
use Rattle.std.proofs.lemmas.Bool.{cond_both, eqb-false, leb-true, leb-false}
use Rattle.std.proofs.lemmas.List.Sums.{fold_push, sum_by-cons}
use Rattle.std.proofs.lemmas.List.Sorted.{IsPermutation-refl, IsPermutation-cons, IsPermutation-middle, IsPermutation-map}
use Rattle.std.proofs.lemmas.List.Sorted.{IsPermutation-trans, IsPermutation-append_left, length_permutation}
use Rattle.std.proofs.lemmas.Map.Keys.{IsDistinct-IsPermutation, IsStrictlyIncreasing-from_sorted}
use Rattle.basil_types.specs.declared.party.Decision.{Decision}
use Rattle.basil_types.specs.declared.party.Decision.TheVariants.{Commit, Abort}
use Rattle.basil_types.specs.Decision.{same_decision}
use Rattle.quorum_laws.specs.Numbers.{log_quorum, majority}
use Rattle.frame_values.specs.declared.owned.parts.ElectPart.{ElectPart}
use Rattle.fallback_leader.specs.declared.words.KeptWord.{KeptWord}
use Rattle.fallback_leader.specs.Elections.{words_of, has_word, by_replica, ascending, naming, elected, AreApart, Elects}
use Rattle.fallback_leader.specs.Index.{words_at}
use Rattle.fallback_leader.proofs.PlaceLaws.{words_at-more}
use Rattle.fallback_leader.proofs.WordLaws.{words_of-append, words_of-one, is_of-itself, is_heard-words_of, distinct_push}

abbrev pub same_replica : ElectPart → ElectPart → Bool
same_replica v w = v.replica == w.replica

-- ---- each word stands at its replica

abbrev pub AreKeyed : List (ℕ × ElectPart) → Type 0
AreKeyed es = AllByRecursion (λ e. e.0 ≡ e.1.replica) es

insert-keyed : (w : ElectPart) (es : List (ℕ × ElectPart)) → AreKeyed es → AreKeyed (insert_entry nat_cmp es w.replica w)
insert-keyed w [] h = (refl, tt)
insert-keyed w (e ∷ es) h = by (nat_cmp w.replica e.0) refl (insert-keyed w es h.1)
  where
    by : (o : Ordering) → nat_cmp w.replica e.0 ≡ o → AreKeyed (insert_entry nat_cmp es w.replica w) →
        AreKeyed (match_ordering o ((w.replica, w) ∷ e ∷ es) ((e.0, w) ∷ es) (e ∷ insert_entry nat_cmp es w.replica w))
    by Less q rest = (refl, h)
    by Equal q rest = (sym (nat_cmp-IsAntisymmetric w.replica e.0 q), h.1)
    by Greater q rest = (h.0, rest)

pub fold-keyed : (es : List (ℕ × ElectPart)) (words : List ElectPart) → AreKeyed es →
    AreKeyed (fold (λ known w. insert_entry nat_cmp known w.replica w) es words)
fold-keyed es [] h = h
fold-keyed es (w ∷ words) h = fold-keyed (insert_entry nat_cmp es w.replica w) words (insert-keyed w es h)

pub replicas_are : (es : List (ℕ × ElectPart)) → AreKeyed es → keys_of es ≡ map (λ w. w.replica) (values_of es)
replicas_are [] h = refl
replicas_are (e ∷ es) h = ap (λ r. r ∷ keys_of es) h.0 ∙ ap (λ rs. e.1.replica ∷ rs) (replicas_are es h.1)

-- the keys of a map ascend, so the replicas do
pub replicas_ascend : (es : List (ℕ × ElectPart)) (words : List ElectPart) → es ≡ by_replica words →
    IsStrictlySortedBy nat_cmp (keys_of es) → IsStrictlyIncreasing (map (λ w. w.replica) (values_of es))
replicas_ascend es words is h =
    subst IsStrictlyIncreasing (replicas_are es (subst AreKeyed (sym is) (fold-keyed [] words tt)))
    (IsStrictlyIncreasing-from_sorted (keys_of es) h)

pub by_replica_push : (words : List ElectPart) (w : ElectPart) →
    by_replica (words ++ w ∷ []) ≡ insert_entry nat_cmp (by_replica words) w.replica w
by_replica_push words w = fold_push (λ known w. insert_entry nat_cmp known w.replica w) [] words w

-- ---- no word is lost

abbrev pub IsFree : ElectPart → List (ℕ × ElectPart) → Type 0
IsFree w es = AllByRecursion (λ e. e.0 ≡ w.replica → ⊥) es

insert-permutation : (w : ElectPart) (es : List (ℕ × ElectPart)) → IsFree w es →
    IsPermutation ((w.replica, w) ∷ es) (insert_entry nat_cmp es w.replica w)
insert-permutation w [] h = IsPermutation-refl _
insert-permutation w (e ∷ es) h = by (nat_cmp w.replica e.0) refl (insert-permutation w es h.1)
  where
    by : (o : Ordering) → nat_cmp w.replica e.0 ≡ o →
        IsPermutation ((w.replica, w) ∷ es) (insert_entry nat_cmp es w.replica w) → IsPermutation
        ((w.replica, w) ∷ e ∷ es) (match_ordering o ((w.replica, w) ∷ e ∷ es) ((e.0, w) ∷ es) (e ∷ insert_entry nat_cmp es w.replica w))
    by Less q rest = IsPermutation-refl _
    by Equal q rest = absurd (h.0 (sym (nat_cmp-IsAntisymmetric w.replica e.0 q)))
    by Greater q rest =
        IsPermutation-trans ((w.replica, w) ∷ e ∷ es) (e ∷ (w.replica, w) ∷ es) (e ∷ insert_entry nat_cmp es w.replica w)
        (IsPermutation-middle ((w.replica, w) ∷ []) e es)
        (IsPermutation-cons e ((w.replica, w) ∷ es) (insert_entry nat_cmp es w.replica w) rest)

apart_before : (xs : List ElectPart) (w : ElectPart) (ys : List ElectPart) → IsDistinct same_replica (xs ++ w ∷ ys) →
    AllByRecursion (λ v. same_replica v w ≡ false) xs
unfolding IsDistinct
apart_before [] w ys h = tt
apart_before (x ∷ xs) w ys h = (at xs h.0, apart_before xs w ys h.1)
  where
    at : (zs : List ElectPart) → AllByRecursion (λ y. same_replica x y ≡ false) (zs ++ w ∷ ys) → same_replica x w ≡ false
    at [] k = k.0
    at (z ∷ zs) k = at zs k.1

free : (w : ElectPart) (es : List (ℕ × ElectPart)) → AreKeyed es → AllByRecursion (λ v. same_replica v w ≡ false) (values_of es) →
    IsFree w es
free w [] keyed h = tt
free w (e ∷ es) keyed h = (λ q. eqb-false e.1.replica w.replica h.0 (sym keyed.0 ∙ q), free w es keyed.1 h.1)

moved : (w : ElectPart) (es : List (ℕ × ElectPart)) (words : List ElectPart) → IsFree w es →
    IsPermutation (values_of es ++ w ∷ words) (values_of (insert_entry nat_cmp es w.replica w) ++ words)
moved w es words h =
    IsPermutation-trans (values_of es ++ w ∷ words) (w ∷ (values_of es ++ words)) (values_of (insert_entry nat_cmp es w.replica w) ++ words)
    (IsPermutation-middle (values_of es) w words)
    (IsPermutation-append_left words (w ∷ values_of es) (values_of (insert_entry nat_cmp es w.replica w)) (IsPermutation-map
    (λ (e : ℕ × ElectPart). e.1) ((w.replica, w) ∷ es) (insert_entry nat_cmp es w.replica w) (insert-permutation w es h)))

fold-permutation : (es : List (ℕ × ElectPart)) (words : List ElectPart) → AreKeyed es → IsDistinct same_replica (values_of es ++ words) →
    IsPermutation (values_of es ++ words) (values_of (fold (λ known w. insert_entry nat_cmp known w.replica w) es words))
fold-permutation es [] keyed h =
    subst (λ ws. IsPermutation ws (values_of es)) (sym (append-nil (values_of es))) (IsPermutation-refl (values_of es))
fold-permutation es (w ∷ words) keyed h =
    let more = insert_entry nat_cmp es w.replica w in
    let step = moved w es words (free w es keyed (apart_before (values_of es) w words h)) in
    let flips = λ (v u : ElectPart). nat_eq_equiv.symm v.replica u.replica in
    IsPermutation-trans (values_of es ++ w ∷ words) (values_of more ++ words) _ step
    (fold-permutation more words (insert-keyed w es keyed) (IsDistinct-IsPermutation same_replica flips _ _ step h))

pub ascending-permutation : (words : List ElectPart) → IsDistinct same_replica words → IsPermutation words (ascending words)
ascending-permutation words h = fold-permutation [] words tt h

-- ---- a majority

one_of_two : (d : Decision) (commits aborts n : ℕ) → commits + aborts ≡ n →
    (cond (same_decision d Commit) 1 0 + commits) + (cond (same_decision d Abort) 1 0 + aborts) ≡ n + 1
one_of_two Commit commits aborts n e = omega arith
one_of_two Abort commits aborts n e = omega arith

each_names_one : (words : List ElectPart) → naming Commit words + naming Abort words ≡ length words
each_names_one [] = refl
each_names_one (w ∷ words) =
    let more = one_of_two w.decision (naming Commit words) (naming Abort words) (length words) (each_names_one words) in
    omega (
      arith,
      more,
      sum_by-cons (λ (w : ElectPart). cond (same_decision w.decision Commit) 1 0) w words,
      sum_by-cons (λ (w : ElectPart). cond (same_decision w.decision Abort) 1 0) w words,
    )

pub elected-majority : (f : ℕ) (words : List ElectPart) → length words ≡ log_quorum f → majority f ≤ naming (elected f words) words
elected-majority f words e =
    cond_both (nat_le (majority f) (naming Commit words)) Commit Abort (λ d. majority f ≤ naming d words)
    (λ h. leb-true (majority f) (naming Commit words) h)
    (λ h. omega (arith, leb-false (majority f) (naming Commit words) h, each_names_one words))

-- ---- a walk over the words at places

pub walk_takes : (kept : List KeptWord) (places : List ℕ) (i p : ℕ) (k : KeptWord) (old new : List (ℕ × ElectPart)) → i < length places →
    p ≡ get_or places i p → slice_get kept p ≡ Some k → old ≡ by_replica (words_at kept (take i places)) →
    new ≡ insert_entry nat_cmp old k.word.replica k.word → new ≡ by_replica (words_at kept (take (i + 1) places))
walk_takes kept places i p k old new h is found so_far put =
    put ∙ ap (λ es. insert_entry nat_cmp es k.word.replica k.word) so_far
    ∙ sym (by_replica_push (words_at kept (take i places)) k.word)
    ∙ sym (ap by_replica (words_at-more kept places i p h is
    ∙ ap (λ o. words_at kept (take i places) ++ option_to_list (option_map (λ k. k.word) o)) found))

pub walk_skips : (kept : List KeptWord) (places : List ℕ) (i p : ℕ) (old new : List (ℕ × ElectPart)) → i < length places →
    p ≡ get_or places i p → slice_get kept p ≡ None → old ≡ by_replica (words_at kept (take i places)) →
    new ≡ old → new ≡ by_replica (words_at kept (take (i + 1) places))
walk_skips kept places i p old new h is found so_far same =
    same ∙ so_far
    ∙ sym (ap by_replica (words_at-more kept places i p h is
    ∙ ap (λ o. words_at kept (take i places) ++ option_to_list (option_map (λ k. k.word) o)) found
    ∙ append-nil (words_at kept (take i places))))

-- ---- a proposal

words_of-push : (kept : List KeptWord) (k : KeptWord) → words_of (kept ++ k ∷ []) k.id k.view ≡ words_of kept k.id k.view ++ k.word ∷ []
words_of-push kept k =
    words_of-append kept (k ∷ []) k.id k.view ∙ ap (λ more. words_of kept k.id k.view ++ more) (words_of-one k k.id k.view (is_of-itself k))

-- the words of a proposal are those that are kept
pub proposed-permutation : (kept new : List KeptWord) (k : KeptWord) (words : List ElectPart) → AreApart kept →
    has_word kept k.id k.view k.word.replica ≡ false → new ≡ kept ++ k ∷ [] → words ≡ ascending (words_of kept k.id k.view ++ k.word ∷ []) →
    IsPermutation (words_of new k.id k.view) words
proposed-permutation kept new k words apart unheard pushed made =
    let old = words_of kept k.id k.view in
    let all : words_of new k.id k.view ≡ old ++ k.word ∷ [] = ap (λ kept. words_of kept k.id k.view) pushed ∙ words_of-push kept k in
    subst (λ (ws : List ElectPart). IsPermutation ws words) (sym all)
    (subst (λ (ws : List ElectPart). IsPermutation (old ++ k.word ∷ []) ws) (sym made) (ascending-permutation (old ++ k.word ∷ [])
    (distinct_push old k.word (apart k.id k.view) (is_heard-words_of kept k.id k.view k.word.replica ∙ unheard))))

-- they elect its decision
pub proposed-elects : (f : ℕ) (kept : List KeptWord) (k : KeptWord) (words : List ElectPart) (decision : Decision) → AreApart kept →
    has_word kept k.id k.view k.word.replica ≡ false → words ≡ ascending (words_of kept k.id k.view ++ k.word ∷ []) →
    length (words_of kept k.id k.view) + 1 ≡ log_quorum f → IsStrictlyIncreasing (map (λ w. w.replica) words) → decision ≡ elected f words →
    Elects f words decision
proposed-elects f kept k words decision apart unheard made full up is =
    let old = words_of kept k.id k.view in
    let same = ascending-permutation (old ++ k.word ∷ [])
    (distinct_push old k.word (apart k.id k.view) (is_heard-words_of kept k.id k.view k.word.replica ∙ unheard)) in
    let exact : length words ≡ log_quorum f =
    omega (arith, ap (λ (ws : List ElectPart). length ws) made, length_permutation _ _ same, length-append old (k.word ∷ []), full) in
    record {
      exact = exact;
      ascending = up;
      most = subst (λ (d : Decision). majority f ≤ naming d words) (sym is) (elected-majority f words exact);
    }
