-- A line that is refused.
use Rattle.std.specs.Prelude.{ℕ, Result, Ok, Err}
use Rattle.line_fields.specs.declared.reason.Reason.{Reason}

-- its number, from 1, and why
pub record Refusal : Type 0 where
  pub line : ℕ
  pub reason : Reason

abbrev pub on_line : {A : Type 0} → (number : ℕ) → Result A Reason → Result A Refusal
on_line number (Ok value) = Ok value
on_line number (Err reason) = Err (record { line = number; reason = reason })
