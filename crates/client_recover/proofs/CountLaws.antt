-- What the counts of votes are.
use Rattle.std.proofs.Common.{◌≡◌, ℕ, ◌+◌, ◌≤◌, Bool, true, false, cond, List, [], ◌∷◌, ◌++◌, length, refl, ap, arith, ◌∙◌, ◌-◌}
use Rattle.std.specs.Prelude.{filter, not, ◌==◌, ◌&&◌}
use Rattle.std.proofs.lemmas.List.{length-append}
use Rattle.std.proofs.lemmas.List.Elements.{filter-append}
use Rattle.std.proofs.lemmas.List.Filters.{length-filter_both}
use Rattle.basil_types.specs.Decision.{same_decision}
use Rattle.basil_types.specs.declared.party.Decision.{Decision}
use Rattle.basil_types.specs.declared.party.Decision.TheVariants.{Commit, Abort}
use Rattle.client_recover.specs.declared.votes.CountedVote.{CountedVote}
use Rattle.client_recover.specs.Counts.{count_at, CountsOf}
use Rattle.client_recover.specs.Kept.{is_so, votes_so}

-- a count is at most the number of the votes
pub few_at : (d : Decision) (votes : List CountedVote) (counts : List ℕ) → CountsOf d votes counts → (shard : ℕ) →
    count_at counts shard ≤ length votes
few_at d votes counts are shard =
    omega (arith, are shard, length-filter_both (is_so shard d) (λ v. not (is_so shard d v)) (λ v. refl) votes)

-- the votes of a shard are for either decision
pub either : (votes : List CountedVote) (shard : ℕ) →
    length (votes_so votes Commit shard) + length (votes_so votes Abort shard)
    ≡ length (filter (λ (v : CountedVote). v.shard == shard) votes)
either [] shard = refl
either (v ∷ vs) shard = by (v.shard == shard) v.decision (either vs shard)
  where
    commits : List CountedVote
    commits = votes_so vs Commit shard

    aborts : List CountedVote
    aborts = votes_so vs Abort shard

    all : List CountedVote
    all = filter (λ (w : CountedVote). w.shard == shard) vs

    by : (b : Bool) (d : Decision) → length commits + length aborts ≡ length all →
        length (cond (b && same_decision d Commit) (v ∷ commits) commits) + length (cond (b && same_decision d Abort) (v ∷ aborts) aborts)
        ≡ length (cond b (v ∷ all) all)
    by true Commit e = omega (arith, e)
    by true Abort e = omega (arith, e)
    by false d e = e

-- ---- one vote less

one_so : (d : Decision) (votes : List CountedVote) (v : CountedVote) (shard : ℕ) →
    length (votes_so (votes ++ v ∷ []) d shard) ≡ length (votes_so votes d shard) + cond (is_so shard d v) 1 0
one_so d votes v shard =
    ap length (filter-append (is_so shard d) votes (v ∷ []))
    ∙ length-append (votes_so votes d shard) (filter (is_so shard d) (v ∷ []))
    ∙ by (is_so shard d v)
  where
    by : (b : Bool) → length (votes_so votes d shard) + length (cond b (v ∷ []) []) ≡ length (votes_so votes d shard) + cond b 1 0
    by true = refl
    by false = refl

-- of its decision
pub lowered : (d : Decision) (votes : List CountedVote) (v : CountedVote) (old new : List ℕ) (place : ℕ) →
    CountsOf d (votes ++ v ∷ []) old →
    v.decision ≡ d → place ≡ v.shard →
    ((shard : ℕ) → count_at new shard ≡ count_at old shard - cond (place == shard) 1 0) → CountsOf d votes new
lowered d votes v old new place h e at less shard =
    back (v.shard == shard) (less shard ∙ ap (λ p. count_at old shard - cond (p == shard) 1 0) at)
    (h shard ∙ one_so d votes v shard
    ∙ ap (λ k. length (votes_so votes d shard) + cond ((v.shard == shard) && same_decision k d) 1 0) e)
  where
    itself : (d : Decision) → same_decision d d ≡ true
    itself Commit = refl
    itself Abort = refl

    back : (b : Bool) → count_at new shard ≡ count_at old shard - cond b 1 0 →
        count_at old shard ≡ length (votes_so votes d shard) + cond (b && same_decision d d) 1 0 →
        count_at new shard ≡ length (votes_so votes d shard)
    back true a e =
        let f : count_at old shard ≡ length (votes_so votes d shard) + 1 =
        e ∙ ap (λ b. length (votes_so votes d shard) + cond b 1 0) (itself d) in
        omega (arith, a, f)
    back false a e = omega (arith, a, e)

-- of the other one
pub untouched : (d : Decision) (votes : List CountedVote) (v : CountedVote) (counts : List ℕ) → CountsOf d (votes ++ v ∷ []) counts →
    same_decision v.decision d ≡ false → CountsOf d votes counts
untouched d votes v counts h e shard =
    h shard ∙ one_so d votes v shard
    ∙ ap (λ k. length (votes_so votes d shard) + cond ((v.shard == shard) && k) 1 0) e
    ∙ none (v.shard == shard)
  where
    none : (b : Bool) → length (votes_so votes d shard) + cond (b && false) 1 0 ≡ length (votes_so votes d shard)
    none true = omega arith
    none false = omega arith
