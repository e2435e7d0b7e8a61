use Rattle.std.proofs.Common.{List, length, ap, arith, ◌∙◌}
use Rattle.basil_types.specs.declared.party.Decision.TheVariants.{Commit, Abort}
use Rattle.client_recover.specs.declared.votes.CountedVote.{CountedVote}
use Rattle.client_recover.specs.Kept.{has_voted}
use Rattle.client_recover.proofs.CountLaws.{few_at}
use Rattle.client_recover.proofs.VoterLaws.{first_voter}
use Rattle.client_recover.proofs.votes.Votes.push.Goals as goal

pub raise_small-requires : goal.raise_small-requires
raise_small-requires c =
    let v = c.self.inside in
    let none = first_voter v.list.items v.voters c.self.invariant.2 c.args.vote.shard c.args.vote.replica c.place_of-place.result
    c.requires.replica c.place_of-place.ensures
    (ap (λ vs. has_voted c.args.vote.shard c.args.vote.replica vs) c.self.view_is ∙ c.requires.first) in (
      omega arith,
      (omega (arith, c.place_of-place.ensures, c.requires.place, c.requires.replica), omega (arith, none)),
    )

pub raise-requires : goal.raise-requires
raise-requires c =
    let v = c.self.inside in
    let few = few_at Commit v.list.items v.commits c.self.invariant.0 c.from-shard.result in
    let size = ap (λ (vs : List CountedVote). length vs) c.self.view_is in (
      omega arith,
      (omega (arith, c.from-shard.ensures, c.requires.place), omega (arith, few, size, c.requires.few)),
    )

pub raise-requires-in-Abort : goal.raise-requires-in-Abort
raise-requires-in-Abort c =
    let v = c.self.inside in
    let few = few_at Abort v.list.items v.aborts c.self.invariant.1 c.from-shard.result in
    let size = ap (λ (vs : List CountedVote). length vs) c.self.view_is in (
      omega arith,
      (omega (arith, c.from-shard.ensures, c.requires.place), omega (arith, few, size, c.requires.few)),
    )
