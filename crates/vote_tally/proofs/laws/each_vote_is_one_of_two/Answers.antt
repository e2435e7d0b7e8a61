use Rattle.std.proofs.Common.{◌≡◌, ℕ, suc, ◌+◌, cond, List, [], ◌∷◌, length, refl, ap, ◌∙◌, arith}
use Rattle.std.proofs.lemmas.List.Sums.{sum_by-cons}
use Rattle.basil_types.specs.declared.party.Decision.{Decision}
use Rattle.basil_types.specs.declared.party.Decision.TheVariants.{Commit, Abort}
use Rattle.vote_tally.specs.declared.votes.FirstVote.{FirstVote}
use Rattle.basil_types.specs.Decision.{is_commit, is_abort}
use Rattle.vote_tally.specs.Votes.{commits_of, aborts_of}
use Rattle.vote_tally.proofs.laws.each_vote_is_one_of_two.Goals as goal

one_more : (d : Decision) (commits aborts n : ℕ) → commits + aborts ≡ n →
    (cond (is_commit d) 1 0 + commits) + (cond (is_abort d) 1 0 + aborts) ≡ suc n
one_more Commit commits aborts n e = omega arith
one_more Abort commits aborts n e = omega arith

all : (votes : List FirstVote) → commits_of votes + aborts_of votes ≡ length votes
all [] = refl
all (v ∷ votes) =
    ap (λ k. k + aborts_of (v ∷ votes)) (sum_by-cons (λ (w : FirstVote). cond (is_commit w.vote) 1 0) v votes)
    ∙ ap (λ k. (cond (is_commit v.vote) 1 0 + commits_of votes) + k) (sum_by-cons (λ (w : FirstVote). cond (is_abort w.vote) 1 0) v votes)
    ∙ one_more v.vote (commits_of votes) (aborts_of votes) (length votes) (all votes)

pub returns : goal.returns
returns c votes = all votes
