use Rattle.std.proofs.Common.{◌∙◌, sym}
use Rattle.std.proofs.Math.Logic.{∥∥₁_map}
use Rattle.cluster_world.specs.EventValues.{event_value}
use Rattle.cluster_world.proofs.WorldLaws.{ran_on}
use Rattle.cluster_world.proofs.world.World.step.Goals as goal

pub invariant_of-self : goal.invariant_of-self
invariant_of-self g c = record {
  ran = λ e. ∥∥₁_map (c.args.self.now.ran c.requires)
      (ran_on g.K.Keys.Verifier g.K.Pen.Signer c.step-done.new.self c.args.self.now.core _ (event_value c.args.event) c.step-done.result
      (c.is_sized.ensures) c.step-done.ensures (sym c.ends-self.ensures ∙ e));
}
