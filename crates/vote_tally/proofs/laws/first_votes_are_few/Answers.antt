use Rattle.std.proofs.Common.{◌≡◌, ℕ, zero, suc, ◌+◌, ◌*◌, ◌<◌, inl, inr, true, false, eqb, List, [], ◌∷◌, map, sym, ap, ◌∙◌, arith}
use Rattle.std.specs.Prelude.{All, ◌||◌, ◌==◌}
use Rattle.std.specs.List.{list_any, IsDistinct, AllByRecursion}
use Rattle.std.proofs.Math.ListN.{length-map}
use Rattle.std.proofs.lemmas.Bool.Decides.{eqb_tells}
use Rattle.std.proofs.lemmas.Map.Steps.{length-le_from_distinct_below}
use Rattle.vote_tally.specs.declared.votes.FirstVote.{FirstVote}
use Rattle.vote_tally.proofs.laws.first_votes_are_few.Goals as goal

all_mapped : (P : ℕ → Type 0) (votes : List FirstVote) → AllByRecursion (λ (w : FirstVote). P w.replica) votes →
    AllByRecursion P (map (λ (w : FirstVote). w.replica) votes)
all_mapped P [] h = tt
all_mapped P (v ∷ votes) h = (h.0, all_mapped P votes h.1)

distinct_mapped : (votes : List FirstVote) → IsDistinct (λ v w. v.replica == w.replica) votes →
    IsDistinct eqb (map (λ (w : FirstVote). w.replica) votes)
unfolding IsDistinct
distinct_mapped [] h = tt
distinct_mapped (v ∷ votes) h = (all_mapped (λ k. eqb v.replica k ≡ false) votes h.0, distinct_mapped votes h.1)

below : (n k : ℕ) (votes : List FirstVote) → All (λ v. v.replica < n) votes →
    list_any (eqb k) (map (λ (w : FirstVote). w.replica) votes) ≡ true → k < n
below n k [] h e = absurd cc
below n k (v ∷ votes) h e =
    elim (eqb_tells k v.replica) [
      | inl p ↦ omega (arith, h zero v (omega arith), p.1)
      | inr p ↦ below n k votes (λ i d l. h (suc i) d (omega arith))
          (sym (ap (λ b. b || list_any (eqb k) (map (λ (w : FirstVote). w.replica) votes)) p.0) ∙ e)
    ]

pub returns : goal.returns
returns c s votes h =
    omega (
      arith,
      length-map votes (λ (w : FirstVote). w.replica),
      length-le_from_distinct_below (map (λ (w : FirstVote). w.replica) votes)
          (5 * s.f + 1) (distinct_mapped votes h.distinct) (λ k. below (5 * s.f + 1) k votes h.in_range),
    )
