-- What a proposal is made of, on the definitions alone.
use Rattle.std.proofs.Common.{◌≡◌, ℕ, zero, suc, ◌+◌, ◌<◌, ◌≤◌, Bool, true, false, cond, not, ◌&&◌, List, []}
use Rattle.std.proofs.Common.{◌∷◌, ◌++◌, length, map, Some, None, refl, sym, ap, subst, ◌∙◌, inl, inr, arith}
use Rattle.std.specs.Prelude.{fold, ◌==◌, nat_lt, slice_index}
use Rattle.std.specs.List.Sorted.{IsPermutation, IsStrictlyIncreasing}
use Rattle.std.specs.BTreeMap.{insert_entry}
use Rattle.std.specs.Map.{keys_of}
use Rattle.std.specs.declared.cmp.Ordering.{Ordering}
use Rattle.std.specs.declared.cmp.Ordering.TheVariants.{Less, Equal, Greater}
use Rattle.std.specs.Ordering.{nat_cmp, match_ordering}
use Rattle.std.specs.Cmp.{nat_cmp_is}
use Rattle.std.proofs.lemmas.Bool.{cases_lt, cases_eq, and_parts, eqb-true, not-true}
use Rattle.quorum_laws.specs.Numbers.{log_quorum}
use Rattle.frame_values.specs.declared.owned.parts.ElectPart.{ElectPart}
use Rattle.fallback_leader.specs.declared.words.KeptWord.{KeptWord}
use Rattle.fallback_leader.specs.Elections.{words_of, has_word, counts, collected, AreApart, by_replica}
use Rattle.fallback_leader.specs.Elections.{ascending, elected, proposed, ProposalValue, proposal_of, Elects}
use Rattle.fallback_leader.proofs.OrderLaws.{replicas_are, fold-keyed, proposed-permutation, proposed-elects}
use Rattle.fallback_leader.proofs.WordLaws.{apart_push}

-- ---- the order of numbers

less : (x y : ℕ) → nat_cmp x y ≡ Less → x < y
less x y h = elim (cases_lt x y) [
  | inl i ↦ i
  | inr n ↦ elim (cases_eq x y) [
    | inl e ↦ let q : Equal ≡ Less = nat_cmp_is x y Equal e ∙ h in absurd cc
    | inr d ↦ let q : Greater ≡ Less = nat_cmp_is x y Greater (omega (arith, n, d)) ∙ h in absurd cc
  ]
]

equal : (x y : ℕ) → nat_cmp x y ≡ Equal → x ≡ y
equal x y h = elim (cases_eq x y) [
  | inl e ↦ e
  | inr d ↦ elim (cases_lt x y) [
    | inl i ↦ let q : Less ≡ Equal = nat_cmp_is x y Less i ∙ h in absurd cc
    | inr n ↦ let q : Greater ≡ Equal = nat_cmp_is x y Greater (omega (arith, n, d)) ∙ h in absurd cc
  ]
]

greater : (x y : ℕ) → nat_cmp x y ≡ Greater → y < x
greater x y h = elim (cases_lt y x) [
  | inl i ↦ i
  | inr n ↦ elim (cases_eq x y) [
    | inl e ↦ let q : Equal ≡ Greater = nat_cmp_is x y Equal e ∙ h in absurd cc
    | inr d ↦ let q : Less ≡ Greater = nat_cmp_is x y Less (omega (arith, n, d)) ∙ h in absurd cc
  ]
]

-- ---- keys that rise

abbrev Rise : ℕ → List (ℕ × ElectPart) → Type 0
Rise floor [] = Unit {0}
Rise floor (e ∷ es) = (floor ≤ e.0) × Rise (suc e.0) es

insert-rises : (k floor : ℕ) (w : ElectPart) (es : List (ℕ × ElectPart)) → floor ≤ k → Rise floor es →
    Rise floor (insert_entry nat_cmp es k w)
insert-rises k floor w [] l h = (l, tt)
insert-rises k floor w (e ∷ es) l h = by (nat_cmp k e.0) refl (λ i. insert-rises k (suc e.0) w es i h.1)
  where
    by : (o : Ordering) → nat_cmp k e.0 ≡ o → (suc e.0 ≤ k → Rise (suc e.0) (insert_entry nat_cmp es k w)) →
        Rise floor (match_ordering o ((k, w) ∷ e ∷ es) ((e.0, w) ∷ es) (e ∷ insert_entry nat_cmp es k w))
    by Less q r = (l, (less k e.0 q, h.1))
    by Equal q r = (h.0, h.1)
    by Greater q r = (h.0, r (greater k e.0 q))

fold-rises : (es : List (ℕ × ElectPart)) (words : List ElectPart) → Rise 0 es →
    Rise 0 (fold (λ known w. insert_entry nat_cmp known w.replica w) es words)
fold-rises es [] h = h
fold-rises es (w ∷ words) h = fold-rises (insert_entry nat_cmp es w.replica w) words (insert-rises w.replica 0 w es (omega arith) h)

up : (floor : ℕ) (es : List (ℕ × ElectPart)) → Rise floor es → IsStrictlyIncreasing (keys_of es)
up floor [] h k l = absurd (omega (arith, l))
up floor (e ∷ []) h k l = absurd (omega (arith, l))
up floor (e ∷ d ∷ es) h zero l = h.1.0
up floor (e ∷ d ∷ es) h (suc k) l =
    let i : suc k + 1 ≡ suc (k + 1) = omega arith in
    subst (λ (n : ℕ). slice_index (keys_of (e ∷ d ∷ es)) (suc k) < slice_index (keys_of (e ∷ d ∷ es)) n) (sym i)
    (up (suc e.0) (d ∷ es) h.1 k (omega (arith, l)))

ascends : (words : List ElectPart) → IsStrictlyIncreasing (map (λ w. w.replica) (ascending words))
ascends words =
    subst IsStrictlyIncreasing (replicas_are (by_replica words) (fold-keyed [] words tt)) (up 0 (by_replica words) (fold-rises [] words tt))

-- ---- the laws

abbrev kept_word : List ℕ → ℕ → ElectPart → KeptWord
kept_word id view word = record { id = id; view = view; word = word }

counting : (f : ℕ) (kept : List KeptWord) (id : List ℕ) (view : ℕ) (word : ElectPart) → counts f kept id view word ≡ true →
    has_word kept id view word.replica ≡ false
counting f kept id view word h =
    not-true (has_word kept id view word.replica)
    (and_parts (nat_lt (length (words_of kept id view)) (log_quorum f)) (not (has_word kept id view word.replica)) h).1

pub stay_apart : (f : ℕ) (kept : List KeptWord) (id : List ℕ) (view : ℕ) (word : ElectPart) → AreApart kept →
    AreApart (collected f kept id view word)
stay_apart f kept id view word a = by (counts f kept id view word) refl
  where
    by : (b : Bool) → counts f kept id view word ≡ b → AreApart (cond b (kept ++ record { id = id; view = view; word = word } ∷ []) kept)
    by true e = apart_push kept (kept_word id view word) a (counting f kept id view word e)
    by false e = a

record Made (f : ℕ) (kept : List KeptWord) (id : List ℕ) (view : ℕ) (word : ElectPart) (p : ProposalValue) : Type 0 where
  counted : counts f kept id view word ≡ true
  full : length (words_of kept id view) + 1 ≡ log_quorum f
  is : p ≡ proposed f (ascending (words_of kept id view ++ word ∷ []))

made : (f : ℕ) (kept : List KeptWord) (id : List ℕ) (view : ℕ) (word : ElectPart) (p : ProposalValue) →
    proposal_of f kept id view word ≡ Some p → Made f kept id view word p
made f kept id view word p h = by (counts f kept id view word && (length (words_of kept id view) + 1 == log_quorum f)) refl h
  where
    by : (b : Bool) → (counts f kept id view word && (length (words_of kept id view) + 1 == log_quorum f)) ≡ b →
        cond b (Some (proposed f (ascending (words_of kept id view ++ word ∷ [])))) None ≡ Some p → Made f kept id view word p
    by true e h =
        let both = and_parts (counts f kept id view word) (length (words_of kept id view) + 1 == log_quorum f) e in
        record { counted = both.0; full = eqb-true (length (words_of kept id view) + 1) (log_quorum f) both.1; is = cc }
    by false e h = absurd cc

pub same_words : (f : ℕ) (kept : List KeptWord) (id : List ℕ) (view : ℕ) (word : ElectPart) (p : ProposalValue) → AreApart kept →
    proposal_of f kept id view word ≡ Some p → IsPermutation (words_of (collected f kept id view word) id view) p.words
same_words f kept id view word p a h =
    let m = made f kept id view word p h in
    proposed-permutation kept (collected f kept id view word) (kept_word id view word) p.words a (counting f kept id view word m.counted)
    (ap (λ (b : Bool). cond b (kept ++ kept_word id view word ∷ []) kept) m.counted) (ap (λ (q : ProposalValue). q.words) m.is)

pub elect : (f : ℕ) (kept : List KeptWord) (id : List ℕ) (view : ℕ) (word : ElectPart) (p : ProposalValue) → AreApart kept →
    proposal_of f kept id view word ≡ Some p → Elects f p.words p.decision
elect f kept id view word p a h =
    let m = made f kept id view word p h in
    let words = ap (λ (q : ProposalValue). q.words) m.is in
    proposed-elects f kept (kept_word id view word) p.words p.decision a (counting f kept id view word m.counted) words m.full
    (subst (λ (ws : List ElectPart). IsStrictlyIncreasing (map (λ w. w.replica) ws)) (sym words)
    (ascends (words_of kept id view ++ word ∷ [])))
    (ap (λ (q : ProposalValue). q.decision) m.is ∙ ap (elected f) (sym words))
