-- What each line of a load, and its whole text, is read as.
use Rattle.std.specs.Prelude.{◌≡◌, ℕ, ◌<◌, ◌≤◌, ◌^◌, map, Ok}
use Rattle.std.specs.List.{All}
use Rattle.line_fields.specs.Limits.{most_lines}
use Rattle.schedule_text.specs.Reading.{line_at}
use Rattle.schedule_text.specs.Spelling.{spelling}
use Rattle.line_fields.specs.TextLines.{lines_of}
use Rattle.load_maker.specs.Loads.{load_of, text_of_load}

-- its spelling is read as itself, as any line up to the millionth
abbrev pub LinesAreRead : Type 0
LinesAreRead =
    (seed count number : ℕ) → count < 2 ^ 32 → number ≤ most_lines →
    All (λ line. line_at (spelling line) number ≡ Ok line) (load_of seed count)

-- the lines of the text are the spellings of the load's lines, one after the other
abbrev pub TextHasItsLines : Type 0
TextHasItsLines =
    (seed count : ℕ) → count < 2 ^ 32 → lines_of (text_of_load seed count) ≡ map spelling (load_of seed count)
