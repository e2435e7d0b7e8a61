use Rattle.std.proofs.Common.{◌≡◌, ◌≤◌, ◌+◌, length}
use Rattle.audit_text.specs.Listing.{list_lines}
use Rattle.line_fields.specs.TextLines.{lines_of}
use Rattle.audit_text.proofs.listing.Listing.take_lines.Given as goal

abbrev pub invariant-lines : goal.invariant-lines
invariant-lines l = record {
  ran : list_lines (lines_of l.fn.bytes) 1 l.fn.self ≡ list_lines (lines_of l.rest) l.number l.self;
  numbers : l.number + length l.rest ≤ 1 + length l.fn.bytes;
  few : length l.self.list + length l.rest ≤ length l.fn.self.list + length l.fn.bytes;
}

abbrev pub decreases-lines : goal.decreases-lines
decreases-lines l = length l.rest
