-- What a line of a schedule says, or the one reason why it says nothing.
use Rattle.std.specs.Prelude.{ℕ, Bool, true, false, codes, bytes_eq, List, [], ◌∷◌, ◌==◌, length}
use Rattle.std.specs.Prelude.{nat_lt, if◌then◌else◌, Option, Some, None, Result, Ok, Err}
use Rattle.schedule_text.specs.declared.line.Line.{Line}
use Rattle.schedule_text.specs.declared.line.Line.TheVariants.{Skipped}
use Rattle.schedule_text.specs.declared.line.LineFault.{LineFault}
use Rattle.schedule_text.specs.declared.line.LineFault.TheVariants.{BadLine}
use Rattle.schedule_text.specs.declared.kinds.Kind.{Kind}
use Rattle.line_fields.specs.declared.complaint.Complaint.{Complaint}
use Rattle.line_fields.specs.declared.complaint.Complaint.TheVariants.{Misspelt}
use Rattle.line_fields.specs.declared.reason.Reason.TheVariants as reasons
use Rattle.line_fields.specs.Complaints.{reason_of}
use Rattle.line_fields.specs.Tokens.{Token, tokens}
use Rattle.schedule_text.specs.Kinds.{kind_of}
use Rattle.line_fields.specs.Limits.{longest_line, numbered}
use Rattle.schedule_text.specs.Lines.{line_of}

abbrev pub of_kind : Option Kind → List Token → Result Line Complaint
of_kind None rest = Err Misspelt
of_kind (Some kind) rest = line_of kind rest

-- what the first token and those behind it say
unfoldable pub said : List Token → Result Line Complaint
said [] = Err Misspelt
said (first ∷ rest) = of_kind (kind_of first) rest

-- an empty line, or one that begins with `#`
abbrev pub is_skipped : List ℕ → Bool
is_skipped [] = true
is_skipped (b ∷ rest) = b == 35

-- a skipped line is so whatever follows
unfoldable pub line_value : List ℕ → Result Line Complaint
line_value line = if is_skipped line then Ok Skipped else said (tokens line)

abbrev pub answered : ℕ → Result Line Complaint → Result Line LineFault
answered number (Ok line) = Ok line
answered number (Err c) = Err (BadLine number (reason_of c))

-- the value of a line with this number, or its first reason: a line above 2,200,000 bytes comes first of all
unfoldable pub line_at : List ℕ → ℕ → Result Line LineFault
line_at line number =
    if nat_lt longest_line (length line) then Err (BadLine number reasons.OutOfSize)
    else answered number (numbered number (line_value line))

abbrev pub begins_a_header : List Token → Bool
begins_a_header [] = false
begins_a_header (first ∷ rest) = bytes_eq first (codes "basil")

-- the first token is `basil`
unfoldable pub is_header : List ℕ → Bool
is_header line = begins_a_header (tokens line)
