use Rattle.run_sight.proofs.NoteLaws.{note_next, notes_some}
use Rattle.run_sight.proofs.SightLaws.{on_err}
use Rattle.run_sight.proofs.sight.Sight.note_all.Goals as goal

pub loop-words-preserved : goal.loop-words-preserved
loop-words-preserved g c =
    note_next g.V.Verifier c.args.party c.args.self.now c.loop-words.self c.note.new.self c.args.signed.now c.loop-words.words-index
    c.words-item.result c.loop-words-test.true c.words-item.is c.loop-words.invariant c.in_ok-note.ensures.noted

pub returns-in_err-note-clause-wanting : goal.returns-in_err-note-clause-wanting
returns-in_err-note-clause-wanting g c =
    on_err _ c.from_residual.result
    (notes_some g.V.Verifier c.args.party c.args.self.now c.loop-words.self c.note.new.self c.args.signed.now c.loop-words.words-index
    c.loop-words-test.true c.loop-words.invariant c.in_err-note.ensures.as_before)
