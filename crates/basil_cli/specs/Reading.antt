-- How far the input of a command is read.
use Rattle.std.specs.Prelude.{ℕ, Bool, List, Option, Some, None, ⊤}
use Rattle.command_ends.specs.Outcome.{is_too_long}
use Rattle.command_input.specs.Reading.{IsReadThrough, StopsSoon}
use Rattle.command_input.specs.declared.command.Command.{Command}
use Rattle.command_input.specs.declared.command.Command.TheVariants.{Replay}
use Rattle.schedule_commands.specs.TextLines.{is_settled}
use Rattle.schedule_replay.specs.Roads.{road_with}

-- whether these bytes decide for a command, whatever follows, where links give these
abbrev pub is_enough : Command → (coming : List (List ℕ)) → (bytes : List ℕ) → Bool
is_enough (Replay carried) coming = is_settled (road_with carried coming)
is_enough other coming = is_too_long

-- both for arguments that are a command
abbrev pub IsReadFor : Option Command → (coming : List (List ℕ)) → (bytes : List ℕ) → Option (List ℕ) → Type 0
IsReadFor None coming bytes left = ⊤
IsReadFor (Some command) coming bytes left = IsReadThrough (is_enough command coming) bytes left

abbrev pub StopsSoonFor : Option Command → (coming : List (List ℕ)) → (bytes : List ℕ) → Option (List ℕ) → Type 0
StopsSoonFor None coming bytes left = ⊤
StopsSoonFor (Some command) coming bytes left = StopsSoon (is_enough command coming) bytes left
