-- What a command leads to, and what is written.
use Rattle.std.specs.Prelude.{ℕ, List, [], ◌∷◌, ◌++◌, length, Bool, nat_lt, codes, decimal, if◌then◌else◌}
use Rattle.std.specs.List.{join_with_byte}
use Rattle.hex.specs.Hex.{encode_lower}
use Rattle.hss_sign.specs.Numbers.{refusal_number as hss_number}
use Rattle.hss_sign.specs.declared.verifying.HssRefusal.{HssRefusal}
use Rattle.hss_sign.specs.declared.verifying.HssRefusal.TheVariants.{SetType, Short, Lms}
use Rattle.lms_sign.specs.Numbers.{refusal_number}
use Rattle.premise_watch.specs.declared.broken.Broken as premise
use Rattle.premise_watch.specs.declared.broken.Broken.TheVariants.{Forged, Collision}
use Rattle.line_fields.specs.Complaints.{reason_number}
use Rattle.schedule_text.specs.Spelling.{party_tokens}
use Rattle.line_fields.specs.declared.reason.Reason.{Reason}

pub data Outcome : Type 0 where
  -- the arguments are no command
  Usage : Outcome
  -- the first line that is refused, and why
  BadLine : (line : ℕ) (reason : Reason) → Outcome
  -- the command's output
  Written : (text : List ℕ) → Outcome
  -- a premise of the run is broken
  Broken : (broken : premise.Broken) → Outcome
  -- the definition that the command tests is false of the input
  Refused : (reason : ℕ) → Outcome
  -- the same, of a signature of several levels
  RefusedAt : (refusal : HssRefusal) → Outcome
  -- the same, told in a line of its own
  Stray : (line : List ℕ) → Outcome
  -- the messages of an event would pass a limit of the pool, or a record the limit of a journal; that holds so many
  -- messages or records, and bytes
  Full : (messages bytes : ℕ) → Outcome
  -- a client has no choice of a read, or no decision, by the votes and log replies that it holds, so many
  Undecided : (replies : ℕ) → Outcome
  -- the input has more than 16,777,216 bytes
  TooLong : Outcome

-- `broken forged PARTY WORDS SIGNATURE`, or `broken collision BYTES BYTES`: the party as a schedule says it, the rest
-- in hex
abbrev pub broken_text : premise.Broken → List ℕ
broken_text (Forged party words signature) =
    codes "broken forged " ++ join_with_byte 32 (party_tokens party) ++ 32 ∷ encode_lower words
    ++ 32 ∷ encode_lower signature ++ 10 ∷ []
broken_text (Collision first second) =
    codes "broken collision " ++ encode_lower first ++ 32 ∷ encode_lower second ++ 10 ∷ []

-- where a test failed among the levels, from 0, and which test of LMS: ` LEVEL`, ` LEVEL R`, or nothing
abbrev pub place_text : HssRefusal → List ℕ
place_text (SetType level) = 32 ∷ decimal level
place_text (Short level) = 32 ∷ decimal level
place_text (Lms level refusal) = 32 ∷ decimal level ++ 32 ∷ decimal (refusal_number refusal)
place_text other = []

-- what is written
abbrev pub text_of : Outcome → List ℕ
text_of Usage = codes "usage" ++ 10 ∷ []
text_of (BadLine line reason) =
    codes "line " ++ decimal line ++ codes " reason " ++ decimal (reason_number reason) ++ 10 ∷ []
text_of (Written text) = text
text_of (Broken broken) = broken_text broken
text_of (Refused reason) = codes "refused " ++ decimal reason ++ 10 ∷ []
text_of (RefusedAt refusal) = codes "refused " ++ decimal (hss_number refusal) ++ place_text refusal ++ 10 ∷ []
text_of (Stray line) = line
text_of (Full messages bytes) = codes "full " ++ decimal messages ++ 32 ∷ decimal bytes ++ 10 ∷ []
text_of (Undecided replies) = codes "undecided " ++ decimal replies ++ 10 ∷ []
text_of TooLong = codes "too long 16777216" ++ 10 ∷ []

abbrev pub read_fault_text : List ℕ
read_fault_text = codes "read fault" ++ 10 ∷ []

abbrev pub link_fault_text : List ℕ
link_fault_text = codes "link fault" ++ 10 ∷ []

-- the most bytes of an input that is read whole
abbrev pub longest_input : ℕ
longest_input = 16777216

-- whether bytes are more than are read whole
abbrev pub is_too_long : List ℕ → Bool
is_too_long bytes = nat_lt longest_input (length bytes)

-- an input that is read whole is too long before anything else is judged of it
abbrev pub unless_too_long : List ℕ → Outcome → Outcome
unless_too_long bytes outcome = if is_too_long bytes then TooLong else outcome
