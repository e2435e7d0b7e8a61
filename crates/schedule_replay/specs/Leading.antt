-- Where lines lead from a header.
use Rattle.std.specs.Prelude.{◌≡◌, ℕ, List, [], ◌∷◌, Option, Some, None, option_and_then, Result, Ok, Err}
use Rattle.basil_types.specs.declared.party.Party.{Party}
use Rattle.schedule_text.specs.declared.line.Line.{Line}
use Rattle.schedule_replay.specs.Events.{deliver_all}
use Rattle.schedule_replay.specs.Lines.{line_step}
use Rattle.schedule_replay.specs.Replays.{Opening, ReplayValue, first_replay}
use Rattle.schedule_replay.specs.Roads.{Road}

-- a step of a replay
pub data Step : Type 0 where
  -- a line is done
  Does : (line : Line) → (number : ℕ) → Step
  -- of a round that breaks off these messages are delivered
  Delivers : (messages : List ℕ) → Step

abbrev pub done_of : {E : Type 0} → Result ReplayValue E → Option ReplayValue
done_of (Ok r) = Some r
done_of (Err fault) = None

-- where a step leads, if it isn't refused
abbrev pub step_of : ReplayValue → Step → Option ReplayValue
step_of r (Does line number) = done_of (line_step r line number)
step_of r (Delivers messages) = done_of (deliver_all messages r)

-- where several lead, one after another
abbrev pub steps_of : List Step → ReplayValue → Option ReplayValue
steps_of [] r = Some r
steps_of (step ∷ steps) r = option_and_then (steps_of steps) (step_of r step)

-- steps behind a header, and behind lines that name these faulty parties, lead to this replay
pub record IsLed (o : Opening) (faulty : List Party) (r : ReplayValue) : Type 0 where
  pub road : Road
  pub steps : List Step
  pub leads : steps_of steps (first_replay o faulty road) ≡ Some r
