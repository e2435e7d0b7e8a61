use Rattle.std.proofs.Common.{refl}
use Rattle.run_sight.proofs.SightLaws.{begins}
use Rattle.run_sight.proofs.sight.Sight.new.Goals as goal

pub returns : goal.returns
returns g c s own faulty =
    begins g.V.Verifier _ s own faulty refl (c.new.ensures s.faulty) c.new-certified.ensures.decisions c.new-certified.ensures.commits
