-- The lines of a text.
use Rattle.std.specs.Prelude.{ℕ, suc, List, [], ◌∷◌, ◌==◌, length, take, drop, position, unwrap_or, if◌then◌else◌}
use Rattle.std.specs.List.{slice_split}

-- behind a last newline stands no line
abbrev pub but_empty_last : List (List ℕ) → List (List ℕ)
but_empty_last [] = []
but_empty_last (p ∷ []) = if length p == 0 then [] else p ∷ []
but_empty_last (p ∷ q ∷ ps) = p ∷ but_empty_last (q ∷ ps)

-- the pieces between newlines
abbrev pub lines_of : List ℕ → List (List ℕ)
lines_of bytes = but_empty_last (slice_split (λ b. b == 10) bytes)

-- where the first line ends
abbrev pub line_end : List ℕ → ℕ
line_end bytes = unwrap_or (position (λ b. b == 10) bytes) (length bytes)

-- that line, and the bytes behind its newline
abbrev pub line_in : List ℕ → List ℕ
line_in bytes = take (line_end bytes) bytes

abbrev pub behind_line : List ℕ → List ℕ
behind_line bytes = drop (suc (line_end bytes)) bytes
