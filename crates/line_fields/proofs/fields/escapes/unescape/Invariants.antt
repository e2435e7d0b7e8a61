use Rattle.std.proofs.Common.{◌≡◌, length}
use Rattle.line_fields.specs.Fields.{unescaped}
use Rattle.line_fields.proofs.Unescaping.{behind_bytes}
use Rattle.line_fields.proofs.fields.escapes.unescape.Given as goal

-- the bytes so far stand in front of those that are left
abbrev pub invariant-bytes : goal.invariant-bytes
invariant-bytes l = unescaped l.fn.token ≡ behind_bytes l.bytes.items (unescaped l.rest)

abbrev pub decreases-bytes : goal.decreases-bytes
decreases-bytes l = length l.rest
