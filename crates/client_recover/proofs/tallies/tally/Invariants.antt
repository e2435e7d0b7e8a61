use Rattle.std.proofs.Common.{◌≡◌, map, take}
use Rattle.std.specs.Prelude.{filter_map}
use Rattle.std.specs.List.{range_with_len}
use Rattle.frame_values.specs.Owned.{vote_value}
use Rattle.node_steps.specs.Lists.{first_with}
use Rattle.client_recover.specs.declared.votes.CountedVote.{CountedVote}
use Rattle.client_recover.specs.Kept.{part_of, votes_so}
use Rattle.client_recover.proofs.tallies.tally.Given as goal

abbrev pub invariant-loop-replica : goal.invariant-loop-replica
invariant-loop-replica l =
    map vote_value l.parts.items ≡
    map part_of
    (take l.needed
    (filter_map (first_with (λ (v : CountedVote). v.replica) (votes_so l.votes l.decision l.shard)) (range_with_len 0 l.replica)))
