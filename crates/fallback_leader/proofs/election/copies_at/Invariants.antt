use Rattle.std.proofs.Common.{◌≡◌, take}
use Rattle.fallback_leader.specs.Elections.{by_replica}
use Rattle.fallback_leader.specs.Index.{words_at}
use Rattle.fallback_leader.proofs.election.copies_at.Given as goal

abbrev pub invariant-loop-place : goal.invariant-loop-place
invariant-loop-place l = l.copies.entries ≡ by_replica (words_at l.kept (take l.place-index l.places))
