use Rattle.std.proofs.Common.{sym, ◌∙◌}
use Rattle.schedule_commands.proofs.LineEnds.{cut_so, uncut}
use Rattle.schedule_commands.proofs.replay.ended_line.Goals as goal

pub returns-in_default : goal.returns-in_default
returns-in_default c = uncut c.args.bytes.now (sym c.newline.ensures.first ∙ c.in_default.is)

pub returns : goal.returns
returns c =
    cut_so c.args.bytes.now c.in-Some.at c.split_at.result.0.now c.split_at-2.result.1.now
    (sym c.newline.ensures.first ∙ c.in-Some.is) c.split_at.ensures.front c.split_at-2.ensures.back
