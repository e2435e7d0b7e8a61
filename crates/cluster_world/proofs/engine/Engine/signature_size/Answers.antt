use Rattle.std.proofs.Common.{◌∙◌, refl, sym}
use Rattle.run_sight.specs.Sights.{sight_of}
use Rattle.cluster_world.proofs.LyingLaws.{isnt_left}
use Rattle.cluster_world.proofs.engine.Engine.signature_size.Goals.{else-is_faulty-via-then-is_faulty+else-has_left}
use Rattle.cluster_world.proofs.engine.Engine.signature_size.Goals.{else-is_faulty-via-else-is_faulty}
use Rattle.cluster_world.proofs.engine.Engine.signature_size.Goals as goal

pub returns-else-is_faulty-clause-as_run : goal.returns-else-is_faulty-clause-as_run
returns-else-is_faulty-clause-as_run g c = λ s st h.
    let faulty = c.is_faulty.ensures s (sight_of st) h.earlier h.sight in (
      refl,
      elim c.else-is_faulty.branch [
        | else-is_faulty-via-then-is_faulty+else-has_left w ↦
            sym (w.has_left.ensures.as_run s st h.pens (sym faulty ∙ w.if-is_faulty.true)) ∙ w.if-has_left.false
        | else-is_faulty-via-else-is_faulty w ↦ isnt_left s st c.args.party (sym faulty ∙ w.if-is_faulty.false)
      ],
    )
