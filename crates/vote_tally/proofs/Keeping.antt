-- The marks of voters, and the votes, after one more.
use Rattle.std.proofs.Common.{◌≡◌, ◌≢◌, ℕ, zero, suc, ◌+◌, ◌*◌, ◌<◌, ◌⊎◌, inl, inr, Bool, true, false}
use Rattle.std.proofs.Common.{cond, List, [], ◌∷◌, ◌++◌, length, get_or, set, refl, sym, ap, ◌∙◌, arith}
use Rattle.std.specs.Prelude.{count_by, not, ◌&&◌, ◌||◌, ◌==◌}
use Rattle.std.specs.List.{list_any, list_all, IsDistinct}
use Rattle.std.specs.Cmp.{on_equiv, nat_eq_equiv}
use Rattle.std.proofs.Math.ListN.{length-set}
use Rattle.std.proofs.lemmas.Bool.{cases_eq}
use Rattle.std.proofs.lemmas.Bool.Decides.{Decides-eqb, Decides-ltb}
use Rattle.std.proofs.lemmas.List.{get_or-set_same, get_or-set_other}
use Rattle.std.proofs.lemmas.List.Sums.{sum_by-set, count_by-le-length}
use Rattle.std.proofs.lemmas.List.Folds.{list_any-append}
use Rattle.std.proofs.lemmas.List.Elements.{All-push}
use Rattle.std.proofs.lemmas.Map.Keys.{IsDistinct-push}
use Rattle.std.proofs.lemmas.Grind.{common_steps}
use Rattle.basil_types.specs.Setting.{Setting}
use Rattle.vote_tally.specs.declared.votes.FirstVote.{FirstVote}
use Rattle.vote_tally.specs.Votes.{has_voted, AreFirst}
use Rattle.vote_tally.specs.Tallies.{TallyValue, is_first, added}

-- ---- no mark

pub unmarked : (voted : List Bool) → list_all not voted ≡ true → (i : ℕ) → get_or voted i false ≡ false
unmarked [] e i = refl
unmarked (false ∷ voted) e zero = refl
unmarked (false ∷ voted) e (suc i) = unmarked voted e i
unmarked (true ∷ voted) e i = absurd cc

-- ---- one more mark

pub more_marks : (voted : List Bool) (i : ℕ) → i < length voted → get_or voted i false ≡ false →
    count_by (λ m. m) (set voted i true) ≡ count_by (λ m. m) voted + 1
more_marks voted i h e =
    let moved = sum_by-set (λ m. cond m 1 0) voted i true false h in
    let none = ap (λ (m : Bool). let k : ℕ = cond m 1 0 in k) e in
    omega (arith, moved, none)

pub mark_left : (voted : List Bool) (i : ℕ) → i < length voted → get_or voted i false ≡ false → count_by (λ m. m) voted < length voted
mark_left voted i h e =
    omega (arith, more_marks voted i h e, count_by-le-length (λ m. m) (set voted i true), length-set voted i true)

or_true : (a : Bool) → (a || true) ≡ true
or_true true = refl
or_true false = refl

or_false : (a : Bool) → (a || false) ≡ a
or_false true = refl
or_false false = refl

-- who has voted, with one more vote
voted_more : (votes : List FirstVote) (v : FirstVote) (i : ℕ) →
    has_voted (votes ++ v ∷ []) i ≡ (has_voted votes i || ((v.replica == i) || false))
voted_more votes v i = list_any-append (λ w. w.replica == i) votes (v ∷ [])

other : (a b : ℕ) → (a ≡ b → ⊥) → (a == b) ≡ false
other a b e = grind (arith, common_steps)

pub marks_more : (voted : List Bool) (votes : List FirstVote) (v : FirstVote) (i : ℕ) → v.replica < length voted →
    get_or voted i false ≡ has_voted votes i → get_or (set voted v.replica true) i false ≡ has_voted (votes ++ v ∷ []) i
marks_more voted votes v i h e = by (cases_eq i v.replica)
  where
    by : (i ≡ v.replica) ⊎ (i ≢ v.replica) → get_or (set voted v.replica true) i false ≡ has_voted (votes ++ v ∷ []) i
    by (inl q) =
        let is : (v.replica == i) ≡ true = (Decides-eqb v.replica i).1 (sym q) in
        ap (λ k. get_or (set voted v.replica true) k false) q ∙ get_or-set_same voted v.replica true false h
        ∙ sym (voted_more votes v i ∙ ap (λ b. has_voted votes i || (b || false)) is ∙ or_true (has_voted votes i))
    by (inr q) =
        let is : (v.replica == i) ≡ false = other v.replica i (λ p. q (sym p)) in
        get_or-set_other voted v.replica i true false q ∙ e
        ∙ sym (voted_more votes v i ∙ ap (λ b. has_voted votes i || (b || false)) is ∙ or_false (has_voted votes i))

-- ---- one more vote

pub first_one : (t : TallyValue) (replica : ℕ) → replica < 5 * t.cluster.f + 1 → has_voted t.votes replica ≡ false → is_first t replica ≡ true
first_one t replica below e =
    ap (λ b. b && not (has_voted t.votes replica)) ((Decides-ltb replica (5 * t.cluster.f + 1)).1 below) ∙ ap not e

pub added_is : (t : TallyValue) (v : FirstVote) → is_first t v.replica ≡ true → added t v ≡ record t { votes = t.votes ++ v ∷ [] }
added_is t v e = ap (λ b. cond b (let u : TallyValue = record t { votes = t.votes ++ v ∷ [] } in u) t) e

turned : (votes : List FirstVote) (v : FirstVote) → list_any (λ w. v.replica == w.replica) votes ≡ has_voted votes v.replica
turned [] v = refl
turned (w ∷ votes) v =
    let back : (v.replica == w.replica) ≡ (w.replica == v.replica) = nat_eq_equiv.symm v.replica w.replica in
    ap (λ b. b || list_any (λ w. v.replica == w.replica) votes) back ∙ ap (λ b. (w.replica == v.replica) || b) (turned votes v)

pub first_more : (c : Setting) (votes : List FirstVote) (v : FirstVote) → AreFirst c votes → v.replica < 5 * c.f + 1 →
    has_voted votes v.replica ≡ false → AreFirst c (votes ++ v ∷ [])
first_more c votes v h below unheard =
    record {
      distinct = IsDistinct-push (on_equiv (λ (w : FirstVote). w.replica) nat_eq_equiv) votes v h.distinct (turned votes v ∙ unheard);
      in_range = All-push (λ w. w.replica < 5 * c.f + 1) votes v h.in_range below;
    }

pub first_none : (c : Setting) → AreFirst c []
unfolding IsDistinct
first_none c = record { distinct = tt; in_range = λ k d h. absurd (omega arith) }
