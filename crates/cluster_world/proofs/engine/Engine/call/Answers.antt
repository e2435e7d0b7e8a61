use Rattle.std.proofs.Common.{ap, refl}
use Rattle.cluster_run.specs.Events as events
use Rattle.cluster_world.proofs.CallLaws.{call_comes}
use Rattle.cluster_world.proofs.engine.Engine.call.Goals as goal

pub returns-in_default : goal.returns-in_default
returns-in_default g c = λ s st call h e.
    (st, ap (λ o. events.at_client s c.args.number call o st) (c.in_default.ensures.nobody s st h.stands refl), h)

pub returns : goal.returns
returns g c = λ s st call h e.
    call_comes g.V.Verifier g.S.Signer s st c.args.number c.in-Some.place c.in-Some.ensures.there.1 c.args.self.now c.ask.new.self
    c.answered.new.self c.args.ask call c.in_ok-handled.handled c.answered.result h c.in-Some.ensures.there.0
    (c.in-Some.ensures.somebody s st h.stands) e c.in_ok-handled.ensures.pool (c.in_ok-handled.ensures.asked s st)
    (c.answered.ensures s st c.in-Some.place)
