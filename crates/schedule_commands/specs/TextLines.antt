-- The lines of the bytes of a schedule that were read so far.
use Rattle.std.specs.Prelude.{ℕ, ◌-◌, ◌==◌, nat_lt, Bool, ◌||◌, List, [], length, take, slice_index_or, is_err}
use Rattle.std.specs.List.{list_any, slice_split}
use Rattle.schedule_replay.specs.Roads.{Road}
use Rattle.schedule_replay.specs.Stages.{Begins, run_lines}
use Rattle.line_fields.specs.Limits.{longest_line}

-- whether a newline is among the bytes
abbrev pub has_newline : List ℕ → Bool
has_newline bytes = list_any (λ b. b == 10) bytes

-- the pieces between newlines: one at least
abbrev pub pieces_of : List ℕ → List (List ℕ)
pieces_of bytes = slice_split (λ b. b == 10) bytes

-- the lines that a newline ends: all pieces but the last
abbrev pub ended_lines : List ℕ → List (List ℕ)
ended_lines bytes = take (length (pieces_of bytes) - 1) (pieces_of bytes)

-- the bytes of the line that no newline ends: the last piece
abbrev pub open_line : List ℕ → List ℕ
open_line bytes = slice_index_or (pieces_of bytes) (length (pieces_of bytes) - 1) []

-- whether no byte behind these changes what a schedule leads to by this road: a line that ended leads to a fault, or
-- the open one is too long
abbrev pub is_settled : Road → (bytes : List ℕ) → Bool
is_settled road bytes =
    is_err (run_lines (ended_lines bytes) 1 (Begins road)) || nat_lt longest_line (length (open_line bytes))
