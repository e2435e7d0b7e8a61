-- The transactions that the lines of an audit's input list.
use Rattle.std.specs.Prelude.{ℕ, ◌+◌, List, [], ◌∷◌, ◌++◌, Option, Some, None}
use Rattle.std.specs.Prelude.{option_map, Result, Ok, Err, if◌then◌else◌}
use Rattle.indexmap.specs.IndexMap.{insert_entry}
use Rattle.std.specs.Map.{lookup}
use Rattle.std.specs.Str.{bytes_eq}
use Rattle.audit_text.specs.Grammar.{line_at, is_tx}
use Rattle.audit_text.specs.Drafts.{DraftValue, begun_at, add_read, add_write, ended}
use Rattle.audit_text.specs.declared.line.AuditLine.{AuditLine}
use Rattle.audit_text.specs.declared.line.AuditLine.TheVariants.{Skipped, Tx, Read, Write, Delete}
use Rattle.basil_types.specs.Transaction.{TransactionValue, version_of}
use Rattle.basil_types.specs.Version.{genesis}
use Rattle.basil_types.specs.declared.version.Version.{Version}
use Rattle.line_fields.specs.Refusals.{Refusal, on_line}
use Rattle.line_fields.specs.TextLines.{lines_of}
use Rattle.line_fields.specs.declared.reason.Reason.{Reason}
use Rattle.line_fields.specs.declared.reason.Reason.TheVariants.{WrongName, RefusedCall}

-- names, each with the version of its transaction, in the order of the `tx` lines
abbrev pub Names : Type 0
Names = List (List ℕ × Version)

abbrev pub version_named : Names → (name : List ℕ) → Option Version
version_named names name = lookup (λ n. bytes_eq name n) names

-- the transactions whose lines have ended, with their names, and the one whose lines are read
pub record ListingValue : Type 0 where
  pub names : Names
  pub list : List TransactionValue
  pub draft : Option DraftValue

abbrev pub nothing : ListingValue
nothing = record { names = []; list = []; draft = None }

-- ---- one line's value

-- a name that is begun twice is reason 4
abbrev pub begun : ListingValue → DraftValue → Option Version → Result ListingValue Reason
begun st o (Some v) = Err WrongName
begun st o None = Ok (record st { draft = Some o })

-- the transaction whose lines are read, where it has this name
abbrev pub draft_named : List ℕ → Option DraftValue → Option DraftValue
draft_named name None = None
draft_named name (Some o) = if bytes_eq name o.name then Some o else None

-- the version of a writer that is named, or of genesis
abbrev pub writer_version : Names → Option (List ℕ) → Option Version
writer_version names None = Some genesis
writer_version names (Some name) = version_named names name

abbrev pub with_read : (key : List ℕ) → Option DraftValue → Option Version → Option DraftValue
with_read key (Some o) (Some v) = Some (add_read key v o)
with_read key (Some o) None = None
with_read key None v = None

-- a line of another transaction, or a read of one that isn't an earlier one, is reason 4
abbrev pub changed : ListingValue → Option DraftValue → Result ListingValue Reason
changed st (Some o) = Ok (record st { draft = Some o })
changed st None = Err WrongName

abbrev pub line_step : ListingValue → (number : ℕ) → AuditLine → Result ListingValue Reason
line_step st number Skipped = Ok st
line_step st number (Tx name time client) = begun st (begun_at number name time client) (version_named st.names name)
line_step st number (Read name key writer) =
    changed st (with_read key (draft_named name st.draft) (writer_version st.names writer))
line_step st number (Write name key value) =
    changed st (option_map (add_write key (Some value)) (draft_named name st.draft))
line_step st number (Delete name key) = changed st (option_map (add_write key None) (draft_named name st.draft))

-- ---- lines

-- its name is a new one, which goes last
abbrev pub listed_as : ListingValue → DraftValue → Option TransactionValue → Result ListingValue Refusal
listed_as st o (Some t) =
    Ok (record { names = insert_entry bytes_eq st.names o.name (version_of t); list = st.list ++ t ∷ []; draft = None })
listed_as st o None = Err (record { line = o.line; reason = RefusedCall })

-- a transaction that can't stand is reason 9 at its `tx` line, once its lines have ended
abbrev pub closed_with : ListingValue → Option DraftValue → Result ListingValue Refusal
closed_with st None = Ok st
closed_with st (Some o) = listed_as st o (ended o)

abbrev pub closed : ListingValue → Result ListingValue Refusal
closed st = closed_with st st.draft

abbrev pub go_on :
    Result ListingValue Refusal → (ListingValue → Result ListingValue Refusal) → Result ListingValue Refusal
go_on (Ok st) others = others st
go_on (Err refusal) others = Err refusal

abbrev pub step_said : ListingValue → (number : ℕ) → Result AuditLine Reason → Result ListingValue Reason
step_said st number (Ok line) = line_step st number line
step_said st number (Err reason) = Err reason

-- a line with the first token `tx` ends the transaction before it, and is tested behind that
abbrev pub closed_before : List ℕ → ListingValue → Result ListingValue Refusal
closed_before line st = if is_tx line then closed st else Ok st

abbrev pub step : ListingValue → List ℕ → (number : ℕ) → Result ListingValue Refusal
step st line number =
    go_on (closed_before line st) (λ next. on_line number (step_said next number (line_at line number)))

-- the lines from this number on
abbrev pub list_lines : List (List ℕ) → (number : ℕ) → ListingValue → Result ListingValue Refusal
list_lines [] number st = Ok st
list_lines (line ∷ lines) number st = go_on (step st line number) (λ next. list_lines lines (number + 1) next)

-- what the bytes list
abbrev pub listed : List ℕ → Result ListingValue Refusal
listed bytes = go_on (list_lines (lines_of bytes) 1 nothing) closed
