use Rattle.std.proofs.Common.{ℕ, sym}
use Rattle.basil_types.specs.declared.party.Party.TheVariants.{Replica}
use Rattle.keyring_lms.specs.Replay.{is_listed}
use Rattle.cluster_file.specs.Seats.{parties_of}
use Rattle.cluster_file.proofs.BelowLaws.{one_fails}
use Rattle.cluster_file.proofs.seats.is_whole_shard.Goals as goal

pub returns-then-not-is_listed : goal.returns-then-not-is_listed
returns-then-not-is_listed c =
    sym (one_fails (λ (index : ℕ). is_listed (parties_of c.args.seats.now) (Replica c.args.shard index)) c.args.n
    c.loop-index.index c.loop-index-test.true (sym c.if-not-is_listed.ensures))
