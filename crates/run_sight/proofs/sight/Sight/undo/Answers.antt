use Rattle.run_sight.proofs.SightLaws.{goes_back}
use Rattle.run_sight.proofs.sight.Sight.undo.Goals as goal

pub returns : goal.returns
returns g c =
    goes_back g.V.Verifier c.args.self.now c.take_back.new.watch c.cut.new.self c.take_back.ensures.back
    c.take_back.ensures.same c.cut.ensures.decisions c.cut.ensures.commits
