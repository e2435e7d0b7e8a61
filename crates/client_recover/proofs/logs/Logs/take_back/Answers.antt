use Rattle.std.proofs.Common.{refl, sym, subst, ◌∙◌}
use Rattle.client_recover.specs.Replies.{AreBelow}
use Rattle.client_recover.specs.Writable.{AreSound}
use Rattle.client_recover.proofs.SoundLaws.{below_forgotten, sound_maps, sound_forgotten}
use Rattle.client_recover.proofs.logs.Logs.take_back.Goals as goal
use Rattle.client_recover.proofs.logs.Logs.take_back.Goals.{then-last, else-last}

pub returns-clause-sound : goal.returns-clause-sound
returns-clause-sound c sound puts =
    let last = c.args.last in
    let forgotten : AreSound c.if-last.self =
    elim c.if-last.branch [
      | then-last w ↦ subst AreSound (sym w.self-is)
          (sound_forgotten c.args.self.now _ last.decision last.decided last.replica w.forget_first.ensures sound)
      | else-last w ↦ subst AreSound (sym w.self-is) sound
    ] in
    sound_maps c.restore_latest.new.self _ refl refl (c.restore_latest.ensures.sound forgotten puts)

pub returns-clause-below : goal.returns-clause-below
returns-clause-below c n below d view k far =
    let last = c.args.last in
    let forgotten : AreBelow n c.if-last.self =
    elim c.if-last.branch [
      | then-last w ↦ subst (AreBelow n) (sym w.self-is)
          (below_forgotten c.args.self.now _ last.decision last.decided last.replica w.forget_first.ensures n below)
      | else-last w ↦ subst (AreBelow n) (sym w.self-is) below
    ] in
    c.restore_latest.ensures.restores.earliest d view k ∙ forgotten d view k far
