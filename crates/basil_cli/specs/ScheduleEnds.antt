-- What holds of a schedule, whose deliveries take a road, and of a load.
use Rattle.std.specs.Prelude.{◌≡◌, ℕ, List, Option, Result, Ok, Err, ⊤}
use Rattle.basil_types.specs.Causes.{TookAll, TookPrefix}
use Rattle.premise_watch.specs.declared.broken.Broken as premise
use Rattle.schedule_replay.specs.Laws.{IsRealBreak, IsSafeReport}
use Rattle.schedule_replay.specs.Outcomes.{outcome_on, replay_of}
use Rattle.schedule_replay.specs.Replays.{ReplayValue}
use Rattle.schedule_replay.specs.Reports.{report}
use Rattle.schedule_replay.specs.Roads.{Direct, Road}
use Rattle.schedule_replay.specs.Totals.{totals}
use Rattle.report_lines.specs.declared.fault.ReplayFault.{ReplayFault}
use Rattle.report_lines.specs.declared.fault.ReplayFault.TheVariants as fault
use Rattle.command_ends.specs.Outcome.{Broken, text_of}
use Rattle.schedule_commands.specs.Schedules.{load_text}
use Rattle.command_input.specs.declared.command.LoadSize.{LoadSize}

-- what was written is the report of a run by the schedule's lines with at most f faulty replicas of each shard; no
-- transaction has both certificates there, and each committed transaction of a correct client read, per key, what the
-- latest committed writer before it wrote
pub record WroteSafely (road : Road) (bytes : List ℕ) (old new : Option (List ℕ)) : Type 0 where
  pub text : List ℕ
  pub safe : IsSafeReport road bytes text
  pub written : TookAll old new text

-- where a schedule leads to a report, it is such a one, and some of it was written
abbrev pub WroteSome : Result (List ℕ) ReplayFault → Road → (bytes : List ℕ) → (old new : Option (List ℕ)) → Type 0
WroteSome (Ok text) road bytes old new = IsSafeReport road bytes text × TookPrefix old new text
WroteSome (Err refused) road bytes old new = ⊤

-- the totals of a safe run by the lines of a load were written
pub record LoadedSafely (size : LoadSize) (old new : Option (List ℕ)) : Type 0 where
  pub replay : ReplayValue
  pub safe : IsSafeReport Direct (load_text size) (report replay)
  pub replayed : replay_of (load_text size) ≡ Ok replay
  pub written : TookAll old new (totals replay)

-- where a load leads to a replay, its run is safe, and some of its totals were written
abbrev pub LoadedInPart : Result ReplayValue ReplayFault → LoadSize → (old new : Option (List ℕ)) → Type 0
LoadedInPart (Ok replay) size old new =
    IsSafeReport Direct (load_text size) (report replay) × TookPrefix old new (totals replay)
LoadedInPart (Err refused) size old new = ⊤

-- a schedule leads to a breach, whose text was written; it is real
pub record IsBrokenEnd (road : Road) (bytes : List ℕ) (old new : Option (List ℕ)) : Type 0 where
  pub broken : premise.Broken
  pub leads : outcome_on road bytes ≡ Err (fault.Broken broken)
  pub text : TookAll old new (text_of (Broken broken))
  pub real : IsRealBreak road bytes broken
