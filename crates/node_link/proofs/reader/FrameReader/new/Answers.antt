-- Before the first byte nothing waits, nothing is partial and nothing has ended.
use Rattle.std.proofs.Common.{refl}
use Rattle.node_link.proofs.StandingLaws.{stands_at_first}
use Rattle.node_link.proofs.reader.FrameReader.new.Goals as goal

pub returns-clause-stands : goal.returns-clause-stands
returns-clause-stands c = stands_at_first _ c.new.ensures.items c.new-2.ensures.items refl refl
