use Rattle.std.proofs.Common.{subst}
use Rattle.schedule_replay.specs.Schedules.{IsAt}
use Rattle.schedule_replay.proofs.StageLaws.{ends_opened}
use Rattle.schedule_replay.proofs.stages.Schedule.end.Goals as goal

pub returns-in_ok-replay-in-Opens-clause-ends : goal.returns-in_ok-replay-in-Opens-clause-ends
returns-in_ok-replay-in-Opens-clause-ends c = λ stage at.
    ends_opened stage c.in-Opens.opened c.in_ok-replay-in-Opens.replay (subst (λ s. IsAt s stage) c.in-Opens.is at)
    c.in_ok-replay-in-Opens.ensures.stands
