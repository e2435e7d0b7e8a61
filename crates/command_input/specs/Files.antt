-- The reason of a cluster's file that is refused.
use Rattle.std.specs.Prelude.{◌==◌, ℕ, if◌then◌else◌}
use Rattle.line_fields.specs.declared.reason.Reason.{Reason}
use Rattle.line_fields.specs.declared.reason.Reason.TheVariants.{NoHeader, Misspelt, OutOfRange, OutOfSize}

abbrev pub file_reason : ℕ → Reason
file_reason number =
    if number == 1 then NoHeader else if number == 2 then Misspelt else if number == 3 then OutOfRange else OutOfSize
