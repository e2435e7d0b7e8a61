-- The text of a batch: messages in hex, a line each.
use Rattle.std.specs.Prelude.{ℕ, zero, suc, ◌+◌, nat_lt, List, [], ◌∷◌, ◌++◌, Option, Some, None, Result, Ok, Err}
use Rattle.std.specs.Prelude.{length, if◌then◌else◌}
use Rattle.hex.specs.Hex.{encode_lower}
use Rattle.batch_sign.specs.Batches.{add_fault, longest_message}
use Rattle.batch_sign.specs.Signatures.{Sealing, signature_of}
use Rattle.batch_sign.specs.declared.batch.BatchFault.{BatchFault}
use Rattle.line_fields.specs.Refusals.{Refusal, on_line}
use Rattle.line_fields.specs.Fields.{hex}
use Rattle.line_fields.specs.TextLines.{lines_of}
use Rattle.line_fields.specs.declared.complaint.Complaint.{Complaint}
use Rattle.line_fields.specs.declared.reason.Reason.{Reason}
use Rattle.line_fields.specs.declared.reason.Reason.TheVariants.{NoHeader, Misspelt, OutOfSize}
use Rattle.batch_text.specs.declared.reading.Kept.{Kept}

-- the message that a line has: reason 2 where it isn't hex, 8 where it is too long
abbrev pub message_in : Result (List ℕ) Complaint → Result (List ℕ) Reason
message_in (Ok message) = if nat_lt longest_message (length message) then Err OutOfSize else Ok message
message_in (Err complaint) = Err Misspelt

-- the message of a line behind others: reason 8 too where the batch is full
abbrev pub taken : (messages : List (List ℕ)) (message : List ℕ) → Option BatchFault → Result (List (List ℕ)) Reason
taken messages message None = Ok (messages ++ message ∷ [])
taken messages message (Some fault) = Err OutOfSize

abbrev pub with_message : (messages : List (List ℕ)) → Result (List ℕ) Complaint → Result (List (List ℕ)) Reason
with_message messages (Ok message) = taken messages message (add_fault messages message)
with_message messages (Err complaint) = Err Misspelt

abbrev pub go_on : {A B : Type 0} → Result A Refusal → (A → Result B Refusal) → Result B Refusal
go_on (Ok value) others = others value
go_on (Err bad) others = Err bad

-- the messages of lines behind others; the first line has this number
abbrev pub with_lines : List (List ℕ) → (number : ℕ) → (messages : List (List ℕ)) → Result (List (List ℕ)) Refusal
with_lines [] number messages = Ok messages
with_lines (line ∷ lines) number messages =
    go_on (on_line number (with_message messages (hex line))) (λ more. with_lines lines (number + 1) more)

-- a text without a line is reason 1
abbrev pub no_line : Refusal
no_line = record { line = 1; reason = NoHeader }

-- the batch whose messages are lines
abbrev pub batch_on : List (List ℕ) → Result (List (List ℕ)) Refusal
batch_on [] = Err no_line
batch_on (line ∷ lines) = with_lines (line ∷ lines) 1 []

abbrev pub batch_in : List ℕ → Result (List (List ℕ)) Refusal
batch_in bytes = batch_on (lines_of bytes)

-- a message, and the batch of the lines behind it, where there are any
abbrev pub kept_with : (message : List ℕ) → List (List ℕ) → Result Kept Refusal
kept_with message [] = Ok (record { message = message; batch = None })
kept_with message (line ∷ lines) =
    go_on (with_lines (line ∷ lines) 2 []) (λ messages. Ok (record { message = message; batch = Some messages }))

abbrev pub kept_on : List (List ℕ) → Result Kept Refusal
kept_on [] = Err no_line
kept_on (line ∷ lines) = go_on (on_line 1 (message_in (hex line))) (λ message. kept_with message lines)

abbrev pub kept_in : List ℕ → Result Kept Refusal
kept_in bytes = kept_on (lines_of bytes)

-- bytes in lower-case hex, on a line
abbrev pub hex_line : List ℕ → List ℕ
hex_line bytes = encode_lower bytes ++ 10 ∷ []

-- the signatures at the places below this one, a line each
unfoldable pub signatures_below : Sealing → ℕ → List ℕ
signatures_below s zero = []
signatures_below s (suc place) = signatures_below s place ++ hex_line (signature_of s place)

-- the signatures of all messages of a sealed batch
abbrev pub signatures_of : Sealing → List ℕ
signatures_of s = signatures_below s (length s.leaves)
