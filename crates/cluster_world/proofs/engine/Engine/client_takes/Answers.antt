use Rattle.std.proofs.Common.{ap, refl}
use Rattle.cluster_run.specs.Parts as parts
use Rattle.cluster_world.proofs.AskingLaws.{client_takes_so}
use Rattle.cluster_world.proofs.engine.Engine.client_takes.Goals as goal

pub returns-in_default-clause-taken : goal.returns-in_default-clause-taken
returns-in_default-clause-taken g c = λ s st h. (
  λ number.
      ap (λ o. parts.client_handles s number c.args.number c.args.frame.now o st) (c.in_default.ensures.nobody s st h refl),
  h,
)

pub returns-clause-taken : goal.returns-clause-taken
returns-clause-taken g c = λ s st h.
    client_takes_so g.V.Verifier g.S.Signer s st c.args.number c.in-Some.place c.in-Some.ensures.there.1 c.args.frame.now c.args.self.now
    c.ask.new.self c.in_ok-handled.handled c.took.result h c.in-Some.ensures.there.0 (c.in-Some.ensures.somebody s st h)
    c.in_ok-handled.ensures.pool c.in_ok-handled.ensures.within (c.in_ok-handled.ensures.asked s st) c.took.ensures
