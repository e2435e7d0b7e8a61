use Rattle.run_sight.proofs.SightLaws.{sees_nothing}
use Rattle.run_sight.proofs.sight.Sight.see_nothing.Goals as goal

pub returns : goal.returns
returns g c =
    sees_nothing g.V.Verifier c.args.self.now c.lengths-self.result c.lengths-self.ensures.decisions c.lengths-self.ensures.commits
