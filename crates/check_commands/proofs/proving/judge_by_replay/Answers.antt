use Rattle.std.proofs.Common.{ap, ◌∙◌}
use Rattle.basil_types.specs.Shown.{transaction_of}
use Rattle.frame_views.specs.Shown.{certificate_of}
use Rattle.keyring_lms.specs.Replay.{replay_accepts}
use Rattle.command_ends.specs.Outcome.{Refused}
use Rattle.check_commands.proofs.NeedLaws.{needs_no_key}
use Rattle.check_commands.proofs.proving.judge_by_replay.Goals as goal

pub returns-in-Err : goal.returns-in-Err
returns-in-Err c =
    let A = replay_accepts c.args.cluster.now c.args.set in
    ap Refused c.number.ensures
    ∙ needs_no_key A c.args.cluster.now (transaction_of c.args.t) (certificate_of c.args.c.now) _ c.in-Err.ensures
