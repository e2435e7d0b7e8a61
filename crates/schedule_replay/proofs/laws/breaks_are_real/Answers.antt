use Rattle.schedule_replay.proofs.SoundStages as stages
use Rattle.schedule_replay.proofs.laws.breaks_are_real.Goals as goal

pub returns : goal.returns
returns c =
    stages.breaks_are_real
    (record {
      grammar = c.grammar_is_read.ensures;
      few = c.counted_are_few.ensures;
      plain = c.plain_kits_sign.ensures;
      lms = c.lms_kits_sign.ensures;
      batch = c.batch_kits_sign.ensures;
    }) c.runs_up_to_a_breach_are_safe.ensures
