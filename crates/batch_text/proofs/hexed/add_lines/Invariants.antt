use Rattle.std.proofs.Common.{◌≡◌, ◌≤◌, ◌+◌, length}
use Rattle.batch_text.specs.Texts.{with_lines}
use Rattle.line_fields.specs.TextLines.{lines_of}
use Rattle.batch_text.proofs.hexed.add_lines.Given as goal

abbrev pub invariant-lines : goal.invariant-lines
invariant-lines l = record {
  ran : with_lines (lines_of l.fn.bytes) l.fn.first l.fn.batch ≡ with_lines (lines_of l.rest) l.number l.batch;
  numbers : l.number + length l.rest ≤ l.fn.first + length l.fn.bytes;
}

abbrev pub decreases-lines : goal.decreases-lines
decreases-lines l = length l.rest
