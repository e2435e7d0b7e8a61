use Rattle.std.proofs.Common.{[], ◌++◌, ◌∙◌}
use Rattle.schedule_replay.proofs.RoadLaws.{carries_as}
use Rattle.schedule_replay.specs.Outcomes.{outcome_on, replay_on}
use Rattle.schedule_replay.specs.Roads.{road_with}
use Rattle.schedule_commands.specs.Schedules.{replayed}
use Rattle.command_input.specs.declared.input.InputFail.TheVariants as input
use Rattle.schedule_commands.proofs.Behind.{can_close, closed_told, failed_told, fault_closes}
use Rattle.schedule_commands.proofs.replay.ended.Goals as goal

pub returns-in_err-text-in-Ok-clause-outcome : goal.returns-in_err-text-in-Ok-clause-outcome
returns-in_err-text-in-Ok-clause-outcome g c =
    carries_as c.args.carried c.in-Ok.ensures.ends
    (λ more ends gave later read b.
    failed_told c.from_residual.result input.NoMemory (replayed (outcome_on (road_with c.args.carried ((gave ++ more) ++ later)) read))
    c.from_residual.ensures.1)

pub returns-in_ok-text-in-Ok-clause-outcome : goal.returns-in_ok-text-in-Ok-clause-outcome
returns-in_ok-text-in-Ok-clause-outcome g c =
    carries_as c.args.carried c.in-Ok.ensures.ends
    (λ more ends gave later read b.
    closed_told c.in-Ok.replay (replay_on (road_with c.args.carried ((gave ++ more) ++ later)) read) _ (ends gave later read b)
    (λ r stands. c.from_vec.ensures ∙ c.in_ok-text-in-Ok.ensures r stands))

pub ending_of-requires : goal.ending_of-requires
ending_of-requires g c =
    can_close c.in-Err.fault _ (c.in-Err.ensures.ends.should c.requires.0 [] c.requires.1 c.requires.2)

pub returns-in-Err-clause-outcome : goal.returns-in-Err-clause-outcome
returns-in-Err-clause-outcome g c =
    carries_as c.args.carried c.in-Err.ensures.ends
    (λ more ends gave later read b.
    fault_closes c.ending_of.result c.in-Err.fault (replay_on (road_with c.args.carried ((gave ++ more) ++ later)) read)
    (ends gave later read b) c.ending_of.ensures.outcome c.ending_of.ensures.decides)
