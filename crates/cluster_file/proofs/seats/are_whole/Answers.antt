use Rattle.std.proofs.Common.{rules, ℕ, sym, ap, ◌∙◌, arith}
use Rattle.basil_types.specs.Setting.{Setting}
use Rattle.basil_types.specs.declared.party.Party.TheVariants.{Replica}
use Rattle.keyring_lms.specs.Replay.{is_listed}
use Rattle.cluster_file.specs.Seats.{parties_of, is_whole_shard, all_below}
use Rattle.cluster_file.proofs.BelowLaws.{one_fails}
use Rattle.cluster_file.proofs.seats.are_whole.Goals as goal

pub returns-then-not-is_whole_shard : goal.returns-then-not-is_whole_shard
returns-then-not-is_whole_shard c =
    sym (one_fails (is_whole_shard c.args.cluster.now (parties_of c.args.seats.now)) c.args.cluster.now.shards c.loop-shard.shard
    (omega (arith, ap (λ (s : Setting). s.shards) c.cluster.view_is))
    (sym (c.if-not-is_whole_shard.ensures
    ∙ ap (λ (n : ℕ). all_below (λ (index : ℕ). is_listed (parties_of c.args.seats.now) (Replica c.loop-shard.shard index)) n)
    c.n-n.ensures.value)))

pub loop-shard-init : goal.loop-shard-init
loop-shard-init c = search rules
