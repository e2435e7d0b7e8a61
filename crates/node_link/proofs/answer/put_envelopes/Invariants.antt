-- The first envelopes stand in the bytes, and there is room for the others.
use Rattle.node_link.proofs.SizeLaws.{Filling}
use Rattle.node_link.proofs.answer.put_envelopes.Given as goal

abbrev pub invariant-loop-envelope : goal.invariant-loop-envelope
invariant-loop-envelope l = Filling l.fn.out.items l.out l.envelopes l.envelope-index
