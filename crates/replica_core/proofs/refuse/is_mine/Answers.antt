use Rattle.std.proofs.Common.{sym, ap, ◌∙◌}
use Rattle.frame_views.specs.Shown.{message_of}
use Rattle.replica_core.specs.Refusals.{is_mine}
use Rattle.replica_core.specs.Seats.{self_at}
use Rattle.replica_core.proofs.refuse.is_mine.Goals as goal

pub returns-in-St2 : goal.returns-in-St2
returns-in-St2 c accepts signing = c.logs_here.ensures accepts signing
    ∙ ap (λ v. is_mine (self_at c.args.seat.now accepts signing) (message_of v)) (sym c.in-St2.is)

pub returns-in-Elect : goal.returns-in-Elect
returns-in-Elect c accepts signing = c.is_own_log.ensures accepts signing
    ∙ ap (λ v. is_mine (self_at c.args.seat.now accepts signing) (message_of v)) (sym c.in-Elect.is)

pub returns-in-Decide : goal.returns-in-Decide
returns-in-Decide c accepts signing = c.is_own_log-in-Decide.ensures accepts signing
    ∙ ap (λ v. is_mine (self_at c.args.seat.now accepts signing) (message_of v)) (sym c.in-Decide.is)
