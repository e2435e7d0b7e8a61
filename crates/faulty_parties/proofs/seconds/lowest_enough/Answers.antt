use Rattle.std.proofs.Common.{◌∙◌, sym}
use Rattle.txn_meta.specs.Places.{members}
use Rattle.faulty_parties.specs.Tallies.{is_enough}
use Rattle.faulty_parties.proofs.TallyLaws.{found_first}
use Rattle.faulty_parties.proofs.seconds.lowest_enough.Goals as goal

pub returns-then-branch : goal.returns-then-branch
returns-then-branch g c =
    sym (found_first (is_enough (g.V.Verifier.accepted c.args.keys.now) c.args.cluster.now c.args.pool.now.posts c.args.id.now)
    (members c.args.shards.now) c.loop-place.place c.in-Some.shard c.loop-place.invariant (sym c.in-Some.ensures)
    (sym c.in_ok-has_enough-in-Some.ensures ∙ c.if-branch.true))
