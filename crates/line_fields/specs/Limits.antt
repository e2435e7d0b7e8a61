-- The limits of a line.
use Rattle.std.specs.Prelude.{ℕ, nat_le, if◌then◌else◌, Result, Ok, Err}
use Rattle.line_fields.specs.declared.complaint.Complaint.{Complaint}
use Rattle.line_fields.specs.declared.complaint.Complaint.TheVariants.{OutOfSize}

-- the most bytes of a line
abbrev pub longest_line : ℕ
longest_line = 2200000

-- the most lines
abbrev pub most_lines : ℕ
most_lines = 1000000

-- no line stands behind the millionth
abbrev pub numbered : {A : Type 0} → ℕ → Result A Complaint → Result A Complaint
numbered number (Ok line) = if nat_le number most_lines then Ok line else Err OutOfSize
numbered number (Err c) = Err c
