use Rattle.std.proofs.Common.{take}
use Rattle.run_sight.specs.Sights.{Notes}
use Rattle.run_sight.proofs.sight.Sight.note_all.Given as goal

abbrev pub invariant-loop-words : goal.invariant-loop-words
invariant-loop-words g l = Notes g.V.Verifier l.fn.self l.self l.party (take l.words-index l.signed)
