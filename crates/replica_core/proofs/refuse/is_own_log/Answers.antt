use Rattle.std.proofs.Common.{Bool, sym, ap, ◌∙◌}
use Rattle.std.specs.Prelude.{◌==◌, ◌&&◌}
use Rattle.replica_core.proofs.refuse.is_own_log.Goals as goal

pub returns-then-logs_here : goal.returns-then-logs_here
returns-then-logs_here c accepts signing = ap (λ (b : Bool). b && (c.args.shard == c.args.seat.now.home.shard))
    (sym (sym (c.logs_here.ensures accepts signing) ∙ c.if-logs_here.true))

pub returns-else-logs_here : goal.returns-else-logs_here
returns-else-logs_here c accepts signing = c.if-logs_here.false
    ∙ ap (λ (b : Bool). b && (c.args.shard == c.args.seat.now.home.shard))
    (sym (sym (c.logs_here.ensures accepts signing) ∙ c.if-logs_here.false))
