use Rattle.std.proofs.Common.{ap, cond, subst, ◌-◌, ◌∙◌}
use Rattle.std.specs.Prelude.{◌==◌}
use Rattle.basil_types.specs.Decision.{same_decision}
use Rattle.basil_types.specs.declared.party.Decision.TheVariants.{Commit, Abort}
use Rattle.client_recover.specs.Counts.{CountsOf, VotersOf, count_at}
use Rattle.client_recover.proofs.CountLaws.{lowered, untouched}
use Rattle.client_recover.proofs.VoterLaws.{one_voter_less}
use Rattle.client_recover.proofs.votes.Votes.pop.Goals as goal

pub invariant_of-self : goal.invariant_of-self
invariant_of-self c =
    let v = c.self.inside in
    let now = c.pop.new.self.items in
    let vote = c.in-Some.vote in (
      lowered Commit now vote v.commits c.lower.new.counts c.from-shard.result
          (subst (λ vs. CountsOf Commit vs v.commits) c.in-Some.ensures.items c.self.invariant.0) c.in-Commit.is c.from-shard.ensures
          c.lower.ensures,
      untouched Abort now vote v.aborts (subst (λ vs. CountsOf Abort vs v.aborts) c.in-Some.ensures.items c.self.invariant.1)
          (ap (λ d. same_decision d Abort) c.in-Commit.is),
      one_voter_less now vote v.voters c.lower_small.new.counts
          (subst (λ vs. VotersOf vs v.voters) c.in-Some.ensures.items c.self.invariant.2)
          (λ place. c.lower_small.ensures place ∙ ap (λ p. count_at v.voters place - cond (p == place) 1 0) c.place_of.ensures),
    )

pub invariant_of-self-in-Abort : goal.invariant_of-self-in-Abort
invariant_of-self-in-Abort c =
    let v = c.self.inside in
    let now = c.pop.new.self.items in
    let vote = c.in-Some.vote in (
      untouched Commit now vote v.commits (subst (λ vs. CountsOf Commit vs v.commits) c.in-Some.ensures.items c.self.invariant.0)
          (ap (λ d. same_decision d Commit) c.in-Abort.is),
      lowered Abort now vote v.aborts c.lower-in-Abort.new.counts c.from-shard.result
          (subst (λ vs. CountsOf Abort vs v.aborts) c.in-Some.ensures.items c.self.invariant.1) c.in-Abort.is c.from-shard.ensures
          c.lower-in-Abort.ensures,
      one_voter_less now vote v.voters c.lower_small.new.counts
          (subst (λ vs. VotersOf vs v.voters) c.in-Some.ensures.items c.self.invariant.2)
          (λ place. c.lower_small.ensures place ∙ ap (λ p. count_at v.voters place - cond (p == place) 1 0) c.place_of.ensures),
    )
