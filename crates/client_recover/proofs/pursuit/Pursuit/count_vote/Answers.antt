use Rattle.std.proofs.Common.{◌≡◌, ℕ, List, ◌∷◌, [], ◌++◌, refl, ap, ◌∙◌, arith}
use Rattle.basil_types.specs.Built.{or_else}
use Rattle.basil_types.specs.Transaction.{id}
use Rattle.frame_views.specs.Shown.{voted_of}
use Rattle.client_recover.specs.declared.votes.CountedVote.{CountedVote}
use Rattle.client_recover.specs.Certifying.{conflict_by}
use Rattle.client_recover.specs.Kept.{counted, fast_by}
use Rattle.client_recover.proofs.SoundLaws.{shown_fits}
use Rattle.client_recover.proofs.TakeLaws.{counts_vote}
use Rattle.client_recover.proofs.pursuit.Pursuit.count_vote.Goals as goal

pub push-requires-clause-place : goal.push-requires-clause-place
push-requires-clause-place c = omega (arith, c.requires.fits.shard, c.n.ensures.in_range.few)

pub push-requires-clause-replica : goal.push-requires-clause-replica
push-requires-clause-replica c = omega (arith, c.requires.fits.replica, c.n.ensures.in_range.faulty)

pub returns-in-Ok-clause-taken : goal.returns-in-Ok-clause-taken
returns-in-Ok-clause-taken c =
    let old = c.args.self.now in
    let v = voted_of c.args.vote.now in
    let votes : c.push.new.self ≡ old.votes ++ counted v ∷ [] =
    c.in_ok-push.ensures.pushed
    ∙ ap (λ (s : List ℕ). old.votes ++
    (let w : CountedVote = record { shard = v.shard; replica = v.replica; decision = v.decision; signature = s } in w) ∷ [])
    c.in_ok-copy_of.ensures in
    let rest = conflict_by old.transaction v in
    counts_vote old _ v (record { transaction = refl; signature = refl; cluster = refl }) votes refl refl c.requires.open c.requires.first
    (c.in-Ok.ensures
    ∙ ap (λ vs. or_else (fast_by old.cluster old.id old.shards vs) rest) votes
    ∙ ap (λ i. or_else (fast_by old.cluster i old.shards (old.votes ++ counted v ∷ [])) rest) old.named
    ∙ ap (λ s. or_else (fast_by old.cluster (id old.transaction) s (old.votes ++ counted v ∷ [])) rest) old.involves)

pub invariant_of-self-in-Ok-clause-outcome_fits : goal.invariant_of-self-in-Ok-clause-outcome_fits
invariant_of-self-in-Ok-clause-outcome_fits c = shown_fits c.in-Ok.outcome _ c.in-Ok.ensures c.decided_fits.ensures
