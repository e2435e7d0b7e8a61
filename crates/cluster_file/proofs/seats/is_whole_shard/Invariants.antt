use Rattle.std.proofs.Common.{◌≡◌, true}
use Rattle.basil_types.specs.declared.party.Party.TheVariants.{Replica}
use Rattle.keyring_lms.specs.Replay.{is_listed}
use Rattle.cluster_file.specs.Seats.{parties_of, all_below}
use Rattle.cluster_file.proofs.seats.is_whole_shard.Given as goal

abbrev pub invariant-loop-index : goal.invariant-loop-index
invariant-loop-index l = all_below (λ index. is_listed (parties_of l.seats) (Replica l.shard index)) l.index ≡ true
