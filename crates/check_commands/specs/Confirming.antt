-- What `confirm` leads to: a line with the frame of a writeback, and behind it the file of a cluster.
use Rattle.std.specs.Prelude.{ℕ, List, Result, Ok, Err}
use Rattle.cluster_file.specs.Listing.{Listing}
use Rattle.cluster_file.specs.Text.{cluster_in}
use Rattle.frame_views.specs.Values.{WritebackValue}
use Rattle.keyring_lms.specs.Keys.{lms_accepts}
use Rattle.line_fields.specs.TextLines.{behind_line, line_in}
use Rattle.line_fields.specs.declared.reason.Reason.{Reason}
use Rattle.check_commands.specs.Checking.{judged, writeback_on}
use Rattle.command_input.specs.Files.{file_reason}
use Rattle.command_ends.specs.Outcome.{Outcome, BadLine}

-- by the file's public keys
abbrev pub judged_in : Listing → Result WritebackValue Reason → Outcome
judged_in l (Ok m) = judged (lms_accepts l.publics) l.cluster m
judged_in l (Err reason) = BadLine 1 reason

-- the file comes first
abbrev pub confirmed_by : (line : List ℕ) → Result Listing ℕ → Outcome
confirmed_by line (Ok l) = judged_in l (writeback_on l.cluster line)
confirmed_by line (Err number) = BadLine 2 (file_reason number)

abbrev pub confirmed : List ℕ → Outcome
confirmed bytes = confirmed_by (line_in bytes) (cluster_in (behind_line bytes))
