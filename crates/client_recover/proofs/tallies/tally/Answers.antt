use Rattle.std.proofs.Common.{◌∷◌, [], ◌++◌, map, ap, sym, ◌∙◌, arith}
use Rattle.std.specs.Prelude.{◌==◌}
use Rattle.std.specs.Option.{option_copied}
use Rattle.std.proofs.Math.ListN.{length-map}
use Rattle.std.proofs.lemmas.List.{map-append}
use Rattle.frame_values.specs.Owned.{vote_value}
use Rattle.frame_views.specs.Values.{VoteValue}
use Rattle.node_steps.specs.Lists.{first_with}
use Rattle.client_recover.specs.declared.votes.CountedVote.{CountedVote}
use Rattle.client_recover.specs.Kept.{part_of, is_so, votes_so}
use Rattle.client_recover.proofs.Walks.{find-filter, takes_one, takes_none, takes_no_more}
use Rattle.client_recover.proofs.tallies.tally.Goals as goal
use Rattle.client_recover.proofs.tallies.tally.Goals.{then-len-from+in-Some+in_ok-part_of-in-Some+in_ok-push-in-Some}
use Rattle.client_recover.proofs.tallies.tally.Goals.{then-len-from+in-None, else-len-from}

pub loop-replica-preserved : goal.loop-replica-preserved
loop-replica-preserved c =
    let votes = c.args.votes.now in
    let n = c.loop-replica.replica in
    let got = c.loop-replica.parts.items in
    let count = length-map got vote_value in
    let given = first_with (λ (v : CountedVote). v.replica) (votes_so votes c.args.decision c.args.shard) in
    let found = find-filter (is_so c.args.shard c.args.decision) (λ (v : CountedVote). v.replica == n) votes in
    elim c.if-len-from.branch [
      | then-len-from+in-Some+in_ok-part_of-in-Some+in_ok-push-in-Some w ↦
          let pushed =
          ap (λ p. map vote_value p.items) w.parts-is ∙ ap (map vote_value) w.in_ok-push-in-Some.ensures.items
          ∙ map-append vote_value got (_ ∷ [])
          ∙ ap (λ (v : VoteValue). map vote_value got ++ v ∷ []) w.in_ok-part_of-in-Some.ensures in
          pushed ∙ takes_one given part_of c.args.needed n w.in-Some.vote.now (map vote_value got)
          (omega (arith, count, w.if-len-from.true, c.len.ensures, c.from.ensures, c.loop-replica.parts.ok.0))
          (found ∙ sym w.vote_by.ensures ∙ ap option_copied w.in-Some.is) c.loop-replica.invariant
      | then-len-from+in-None w ↦
          ap (λ p. map vote_value p.items) w.parts-is
          ∙ takes_none given part_of c.args.needed n (map vote_value got)
          (found ∙ sym w.vote_by.ensures ∙ ap option_copied w.in-None.is) c.loop-replica.invariant
      | else-len-from w ↦
          ap (λ p. map vote_value p.items) w.parts-is
          ∙ takes_no_more given part_of c.args.needed n (map vote_value got)
          (omega (arith, count, w.if-len-from.false, c.len.ensures, c.from.ensures, c.loop-replica.parts.ok.0)) c.loop-replica.invariant
    ]
