-- What a status says of the outcome, and of what was written.
use Rattle.std.specs.Prelude.{◌≡◌, ◌⊎◌, ℕ, Bool, true, false, List, Option}
use Rattle.std.specs.Prelude.{◌++◌, ◌∷◌, codes, decimal}
use Rattle.basil_types.specs.Causes.{Rose, TookAll, TookPrefix}
use Rattle.hss_sign.specs.Numbers.{refusal_number as hss_number}
use Rattle.line_fields.specs.Complaints.{reason_number}
use Rattle.command_ends.specs.Outcome.{Outcome, Usage, BadLine, Written, Broken, Refused, RefusedAt, Stray}
use Rattle.command_ends.specs.Outcome.{Full, Undecided, TooLong, text_of, link_fault_text, read_fault_text}
use Rattle.command_ends.specs.declared.status.Status.{Status}
use Rattle.command_ends.specs.declared.status.Status.TheVariants as ends

abbrev pub status_number : Status → ℕ
status_number ends.Done = 0
status_number ends.BadWords = 2
status_number (ends.BadInput line reason) = 3
status_number ends.ReadFault = 4
status_number ends.WriteFault = 5
status_number ends.LinkFault = 6
status_number ends.Broken = 7
status_number (ends.Refused reason) = 8
status_number ends.NoMemory = 9
status_number (ends.Full messages bytes) = 10
status_number (ends.Undecided replies) = 11
status_number ends.TooLong = 12

-- a status as text: the line that tells it, but for an output, a breach, a refusal at a level and a stray read, whose
-- own text is more, and for a failed write and want of memory, of which nothing is written
abbrev pub status_text : Status → List ℕ
status_text ends.Done = codes "done"
status_text ends.BadWords = codes "usage"
status_text (ends.BadInput line reason) =
    codes "line " ++ decimal line ++ codes " reason " ++ decimal (reason_number reason)
status_text ends.ReadFault = codes "read fault"
status_text ends.WriteFault = codes "write fault"
status_text ends.LinkFault = codes "link fault"
status_text ends.Broken = codes "broken"
status_text (ends.Refused reason) = codes "refused " ++ decimal reason
status_text ends.NoMemory = codes "no memory"
status_text (ends.Full messages bytes) = codes "full " ++ decimal messages ++ 32 ∷ decimal bytes
status_text (ends.Undecided replies) = codes "undecided " ++ decimal replies
status_text ends.TooLong = codes "too long 16777216"

-- the status of an outcome
abbrev pub status_of : Outcome → Status
status_of Usage = ends.BadWords
status_of (BadLine line reason) = ends.BadInput line reason
status_of (Written text) = ends.Done
status_of (Broken broken) = ends.Broken
status_of (Refused reason) = ends.Refused reason
status_of (RefusedAt refusal) = ends.Refused (hss_number refusal)
status_of (Stray line) = ends.Refused 0
status_of (Full messages bytes) = ends.Full messages bytes
status_of (Undecided replies) = ends.Undecided replies
status_of TooLong = ends.TooLong

-- the counts of faults of a source and of links, before a call and behind it
pub record Counts : Type 0 where
  pub source_before : ℕ
  pub source_now : ℕ
  pub links_before : ℕ
  pub links_now : ℕ

abbrev pub counted : (source_before source_now links_before links_now : ℕ) → Counts
counted source_before source_now links_before links_now = record {
  source_before = source_before;
  source_now = source_now;
  links_before = links_before;
  links_now = links_now;
}

-- a count rose, and some of the text of its fault was written
pub record TookOf (text : List ℕ) (before now : ℕ) (old new : Option (List ℕ)) : Type 0 where
  pub rose : Rose before now
  pub prefix : TookPrefix old new text

-- the source's count did, or that of the links
abbrev pub TookFault : Counts → (old new : Option (List ℕ)) → Type 0
TookFault counts old new =
    TookOf read_fault_text counts.source_before counts.source_now old new
    ⊎ TookOf link_fault_text counts.links_before counts.links_now old new

-- some of the outcome's text was written, or of that of a fault
abbrev pub TookSome : Outcome → Counts → (old new : Option (List ℕ)) → Type 0
TookSome outcome counts old new = TookPrefix old new (text_of outcome) ⊎ TookFault counts old new

-- the status is the outcome's, and so is what was written
pub record Tells (status : Status) (outcome : Outcome) (old new : Option (List ℕ)) : Type 0 where
  pub told : status ≡ status_of outcome
  pub text : TookAll old new (text_of outcome)

-- the status and what was written are the outcome's, or those of a fault or of want of memory
abbrev pub Answers : Status → Outcome → Counts → (old new : Option (List ℕ)) → Type 0
Answers ends.Done outcome counts old new = Tells ends.Done outcome old new
Answers ends.BadWords outcome counts old new = Tells ends.BadWords outcome old new
Answers (ends.BadInput line reason) outcome counts old new = Tells (ends.BadInput line reason) outcome old new
Answers ends.ReadFault outcome counts old new = TookAll old new read_fault_text
Answers ends.WriteFault outcome counts old new = TookSome outcome counts old new
Answers ends.LinkFault outcome counts old new = TookAll old new link_fault_text
Answers ends.Broken outcome counts old new = Tells ends.Broken outcome old new
Answers (ends.Refused reason) outcome counts old new = Tells (ends.Refused reason) outcome old new
Answers ends.NoMemory outcome counts old new = new ≡ old
Answers (ends.Full messages bytes) outcome counts old new = Tells (ends.Full messages bytes) outcome old new
Answers (ends.Undecided replies) outcome counts old new = Tells (ends.Undecided replies) outcome old new
Answers ends.TooLong outcome counts old new = Tells ends.TooLong outcome old new

-- the outcome's status, or want of memory
abbrev pub IsTold : Status → Outcome → Type 0
IsTold status outcome = (status ≡ status_of outcome) ⊎ (status ≡ ends.NoMemory)

-- whether the status is an outcome's
abbrev pub is_outcomes : Status → Bool
is_outcomes ends.Done = true
is_outcomes ends.BadWords = true
is_outcomes (ends.BadInput line reason) = true
is_outcomes ends.ReadFault = false
is_outcomes ends.WriteFault = false
is_outcomes ends.LinkFault = false
is_outcomes ends.Broken = true
is_outcomes (ends.Refused reason) = true
is_outcomes ends.NoMemory = false
is_outcomes (ends.Full messages bytes) = true
is_outcomes (ends.Undecided replies) = true
is_outcomes ends.TooLong = true
