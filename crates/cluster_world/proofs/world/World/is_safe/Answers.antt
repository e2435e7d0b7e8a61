use Rattle.std.proofs.Common.{subst, sym}
use Rattle.std.proofs.Math.Logic.{∥∥₁_map}
use Rattle.cluster_run.specs.Safety.{AreSigned}
use Rattle.cluster_world.proofs.world.World.is_safe.Goals as goal

pub returns : goal.returns
returns g c = ∥∥₁_map (c.args.self.now.ran c.requires) (λ h. record {
  ran = h;
  safe = c.runs_are_safe.ensures h.setup h.proper (subst AreSigned (sym h.kit) (g.met.K.Kit.signed c.args.self.now.kit)) h.events h.state
      h.sized h.comes;
})
