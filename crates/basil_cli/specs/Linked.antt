-- What links give to a command.
use Rattle.std.specs.Prelude.{List, ℕ, Option}
use Rattle.basil_types.specs.Links.{LinkState}
use Rattle.command_input.specs.Commands.{arguments_carried}
use Rattle.command_input.specs.declared.command.Command.{Command}
use Rattle.schedule_commands.specs.Roads.{ByGifts}

-- so it is for arguments that are a command, or aren't
abbrev pub ByArguments : Option Command →
    (old new : Option LinkState) → (So : (coming : List (List ℕ)) → Type 0) → Type 0
ByArguments command old new So = ByGifts (arguments_carried command) old new So
