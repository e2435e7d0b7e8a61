use Rattle.std.proofs.Common.{◌≡◌}
use Rattle.batch_text.specs.Texts.{signatures_below}
use Rattle.batch_text.proofs.writing.signature_lines.Given as goal

abbrev pub invariant-loop-place : goal.invariant-loop-place
invariant-loop-place l = l.text.items ≡ signatures_below l.sealed l.place
