-- What `check` leads to: a header line, and a line with the frame of a writeback.
use Rattle.std.specs.Prelude.{◌≡◌, ℕ, List, [], ◌∷◌, Option, Some, None, Result, Ok, Err}
use Rattle.basil_types.specs.Setting.{Setting}
use Rattle.basil_types.specs.declared.party.Decision.{Decision}
use Rattle.basil_types.specs.Transaction.{TransactionValue}
use Rattle.certificates.specs.Accepted.{Accepted}
use Rattle.certificates.specs.Numbers.{number_of}
use Rattle.certificates.specs.Refusals.{decision_of, refusal}
use Rattle.certificates.specs.declared.refusal.CertRefusal.{CertRefusal}
use Rattle.frame_views.specs.Fitting.{bounds_of}
use Rattle.frame_views.specs.Frames.{frame_in}
use Rattle.frame_views.specs.Shown.{writeback_of}
use Rattle.frame_views.specs.Values.{CertificateValue, MessageValue, WritebackValue, Read, ReadReply}
use Rattle.frame_views.specs.Values.{St1, Vote, St2, LogReply, Writeback, Recover, Invoke, Elect, Decide}
use Rattle.frame_views.specs.declared.fault.BadFrame.{BadFrame}
use Rattle.frame_views.specs.declared.frames.views.WritebackView.{WritebackView}
use Rattle.keyring.specs.Plain.{plain_accepts}
use Rattle.keyring_lms.specs.Replay.{replay_accepts}
use Rattle.lms_sign.specs.declared.sets.LmsSet.TheVariants as sets
use Rattle.line_fields.specs.Fields.{hex}
use Rattle.batch_sign.specs.Signatures.{in_batch}
use Rattle.schedule_text.specs.Reading.{line_at}
use Rattle.line_fields.specs.declared.complaint.Complaint.{Complaint}
use Rattle.line_fields.specs.declared.keys_kind.KeysKind.{KeysKind}
use Rattle.line_fields.specs.declared.keys_kind.KeysKind.TheVariants.{Plain, W4H5, W4H10, W8H5, W8H10, Batch}
use Rattle.schedule_text.specs.declared.line.Line.{Line}
use Rattle.schedule_text.specs.declared.line.Line.TheVariants.{Header}
use Rattle.schedule_text.specs.declared.line.LineFault.{LineFault}
use Rattle.client_text.specs.Reports.{decision_line}
use Rattle.txn_meta.specs.Form.{form_fault}
use Rattle.txn_meta.specs.declared.form.FormFault.{FormFault}
use Rattle.line_fields.specs.TextLines.{lines_of}
use Rattle.line_fields.specs.declared.reason.Reason.{Reason}
use Rattle.line_fields.specs.declared.reason.Reason.TheVariants.{NoHeader, Misspelt, OutOfSize}
use Rattle.command_ends.specs.Outcome.{Outcome, BadLine, Written, Refused}
use Rattle.check_commands.specs.declared.check.Ring.{Ring}
use Rattle.check_commands.specs.declared.check.Ring.TheVariants as ring

-- ---- the keys

abbrev pub ring_of : KeysKind → Ring
ring_of Plain = ring.Plain
ring_of W4H5 = ring.Lms sets.W4H5
ring_of W4H10 = ring.Lms sets.W4H10
ring_of W8H5 = ring.Lms sets.W8H5
ring_of W8H10 = ring.Lms sets.W8H10
ring_of Batch = ring.Batch

-- what the keys of a replay accept
abbrev pub accepted_by : Setting → Ring → Accepted
accepted_by cluster ring.Plain = plain_accepts
accepted_by cluster (ring.Lms set) = replay_accepts cluster set
accepted_by cluster ring.Batch = in_batch plain_accepts

-- ---- the certificate

abbrev pub proved : Decision → Option CertRefusal → Outcome
proved decision None = Written (decision_line decision)
proved decision (Some r) = Refused (number_of r)

-- a transaction without a good form comes first
abbrev pub judged_with : Option FormFault → Outcome → Outcome
judged_with (Some fault) outcome = Refused 7
judged_with None outcome = outcome

-- whether a certificate proves the decision that it is for
unfoldable pub proved_by : Accepted → Setting → TransactionValue → CertificateValue → Outcome
proved_by A cluster t c = proved (decision_of c.body) (refusal A cluster t (decision_of c.body) c)

unfoldable pub judged : Accepted → Setting → WritebackValue → Outcome
judged A cluster m = judged_with (form_fault m.transaction) (proved_by A cluster m.transaction m.certificate)

-- ---- the lines

-- another kind of frame than a writeback is reason 2
abbrev pub of_message : MessageValue → Result WritebackValue Reason
of_message (Read m) = Err Misspelt
of_message (ReadReply m) = Err Misspelt
of_message (St1 m) = Err Misspelt
of_message (Vote m) = Err Misspelt
of_message (St2 m) = Err Misspelt
of_message (LogReply m) = Err Misspelt
of_message (Writeback m) = Ok m
of_message (Recover m) = Err Misspelt
of_message (Invoke m) = Err Misspelt
of_message (Elect m) = Err Misspelt
of_message (Decide m) = Err Misspelt

-- bytes that are no frame of the cluster are reason 8
abbrev pub of_frame : Result MessageValue BadFrame → Result WritebackValue Reason
of_frame (Ok m) = of_message m
of_frame (Err fault) = Err OutOfSize

unfoldable pub framed : Setting → List ℕ → Result WritebackValue Reason
framed cluster bytes = of_frame (frame_in (bounds_of cluster) bytes)

abbrev pub of_bytes : Setting → Result (List ℕ) Complaint → Result WritebackValue Reason
of_bytes cluster (Ok bytes) = framed cluster bytes
of_bytes cluster (Err complaint) = Err OutOfSize

abbrev pub writeback_on : Setting → List ℕ → Result WritebackValue Reason
writeback_on cluster line = of_bytes cluster (hex line)

-- a third line is reason 2
abbrev pub judged_alone : Ring → Setting → Result WritebackValue Reason → List (List ℕ) → Outcome
judged_alone ring cluster (Err reason) lines = BadLine 2 reason
judged_alone ring cluster (Ok m) [] = judged (accepted_by cluster ring) cluster m
judged_alone ring cluster (Ok m) (line ∷ lines) = BadLine 3 Misspelt

-- a second line that is missing is reason 8, as one that is no frame
abbrev pub checked_under : Setting → Ring → List (List ℕ) → Outcome
checked_under cluster ring [] = BadLine 2 OutOfSize
checked_under cluster ring (line ∷ lines) = judged_alone ring cluster (writeback_on cluster line) lines

abbrev pub headed : Result Line LineFault → List (List ℕ) → Outcome
headed (Ok (Header cluster clock keys journal)) lines = checked_under cluster (ring_of keys) lines
headed (Ok _) lines = BadLine 1 NoHeader
headed (Err fault) lines = BadLine 1 NoHeader

abbrev pub checked_lines : List (List ℕ) → Outcome
checked_lines [] = BadLine 1 NoHeader
checked_lines (first ∷ lines) = headed (line_at first 1) lines

abbrev pub checked : List ℕ → Outcome
checked bytes = checked_lines (lines_of bytes)

-- ---- what code reads, beside that

-- a writeback that was read, or the reason why the line is refused
abbrev pub Framed : Result WritebackView Reason → Result WritebackValue Reason → Type 0
Framed (Ok m) should = should ≡ Ok (writeback_of m)
Framed (Err reason) should = should ≡ Err reason
