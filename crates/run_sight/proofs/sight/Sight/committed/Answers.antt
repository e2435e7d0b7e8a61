use Rattle.std.proofs.Common.{◌∙◌}
use Rattle.run_sight.proofs.SightLaws.{if_ok, tells_committed}
use Rattle.run_sight.proofs.sight.Sight.committed.Goals as goal

pub returns : goal.returns
returns g c =
    if_ok _ _ c.committed.result (λ ts e s st earlier h. e ∙ tells_committed g.V.Verifier c.args.self.now s st earlier h)
    c.committed.ensures
