-- What a line of an audit's input says, or the reason why it says nothing.
use Rattle.std.specs.Prelude.{ℕ, Bool, false, codes, bytes_eq, List, [], ◌∷◌}
use Rattle.std.specs.Prelude.{length, nat_lt, if◌then◌else◌, Result, Ok, Err}
use Rattle.audit_text.specs.declared.line.AuditLine.{AuditLine}
use Rattle.audit_text.specs.declared.line.AuditLine.TheVariants.{Skipped, Tx, Read, Write, Delete}
use Rattle.line_fields.specs.Complaints.{made2, made3, reason_of}
use Rattle.line_fields.specs.Fields.{name, number, client, key, writer, value}
use Rattle.line_fields.specs.Limits.{longest_line, numbered}
use Rattle.schedule_text.specs.Lines.{fields}
use Rattle.schedule_text.specs.Reading.{is_skipped}
use Rattle.line_fields.specs.Tokens.{Token, tokens, two_of, three_of}
use Rattle.line_fields.specs.declared.complaint.Complaint.{Complaint}
use Rattle.line_fields.specs.declared.complaint.Complaint.TheVariants.{Misspelt, OutOfSize}
use Rattle.line_fields.specs.declared.reason.Reason.{Reason}
use Rattle.line_fields.specs.declared.reason.Reason.TheVariants as reasons

-- `tx NAME TIME C`
unfoldable pub tx : List Token → Result AuditLine Complaint
tx tokens = fields (three_of tokens) (λ t. made3 Tx (name t.0) (number t.1) (client t.2))

-- `read NAME KEY WRITER`, or `-` in the place of WRITER
unfoldable pub read : List Token → Result AuditLine Complaint
read tokens = fields (three_of tokens) (λ t. made3 Read (name t.0) (key t.1) (writer t.2))

-- `write NAME KEY VALUE`
unfoldable pub write : List Token → Result AuditLine Complaint
write tokens = fields (three_of tokens) (λ t. made3 Write (name t.0) (key t.1) (value t.2))

-- `delete NAME KEY`
unfoldable pub delete : List Token → Result AuditLine Complaint
delete tokens = fields (two_of tokens) (λ t. made2 Delete (name t.0) (key t.1))

-- by the first token
unfoldable pub by_token : Token → List Token → Result AuditLine Complaint
by_token token rest =
    if bytes_eq token (codes "tx") then tx rest
    else if bytes_eq token (codes "read") then read rest
    else if bytes_eq token (codes "write") then write rest
    else if bytes_eq token (codes "delete") then delete rest
    else Err Misspelt

unfoldable pub said : List Token → Result AuditLine Complaint
said [] = Err Misspelt
said (first ∷ rest) = by_token first rest

-- an empty line, or one that begins with `#`, is skipped
unfoldable pub line_value : List ℕ → Result AuditLine Complaint
line_value line = if is_skipped line then Ok Skipped else said (tokens line)

abbrev pub reasoned : Result AuditLine Complaint → Result AuditLine Reason
reasoned (Ok line) = Ok line
reasoned (Err c) = Err (reason_of c)

-- a line above 2,200,000 bytes is reason 8 before all else
unfoldable pub line_at : List ℕ → ℕ → Result AuditLine Reason
line_at line number =
    if nat_lt longest_line (length line) then Err reasons.OutOfSize else reasoned (numbered number (line_value line))

abbrev pub begins_with_tx : List Token → Bool
begins_with_tx [] = false
begins_with_tx (first ∷ rest) = bytes_eq first (codes "tx")

-- the first token is `tx`
unfoldable pub is_tx : List ℕ → Bool
is_tx line = begins_with_tx (tokens line)
