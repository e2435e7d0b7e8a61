use Rattle.std.proofs.Common.{false, subst, sym}
use Rattle.journaled_runs.specs.Journaling.{first_state}
use Rattle.journaled_runs.specs.Shown.{KeepsAll}
use Rattle.replay_kit.specs.Made.{kit_value}
use Rattle.schedule_replay.proofs.course.first_journals.Goals as goal

pub returns-else-journal : goal.returns-else-journal
returns-else-journal c = λ s cluster kit shows.
    subst (λ b. KeepsAll s (kit_value c.args.world.now.kit) c.no_journals.result (first_state s b)) (sym c.if-journal.false)
    (subst (λ k. KeepsAll s k c.no_journals.result (first_state s false)) kit (c.no_journals.ensures s))
