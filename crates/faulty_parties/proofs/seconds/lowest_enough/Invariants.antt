use Rattle.std.proofs.Common.{◌≡◌, None, take}
use Rattle.std.specs.Prelude.{find}
use Rattle.txn_meta.specs.Places.{members}
use Rattle.faulty_parties.specs.Tallies.{is_enough}
use Rattle.faulty_parties.proofs.seconds.lowest_enough.Given as goal

abbrev pub invariant-loop-place : goal.invariant-loop-place
invariant-loop-place g l =
    find (is_enough (g.V.Verifier.accepted l.keys) l.cluster l.pool.posts l.id) (take l.place (members l.shards)) ≡ None
