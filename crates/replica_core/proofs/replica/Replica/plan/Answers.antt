use Rattle.std.proofs.Math.Logic.{∥∥₁_map}
use Rattle.node_steps.specs.Pens.{pen_value}
use Rattle.replica_core.proofs.Stepping.{still_shown}
use Rattle.replica_core.proofs.replica.Replica.plan.Goals as goal

pub invariant_of-self : goal.invariant_of-self
invariant_of-self g c =
    let me = c.args.self.now in
    let pen = pen_value (g.S.Signer.spent me.pen) (g.S.Signer.left_of me.pen) in
    record { shown = ∥∥₁_map me.shown (still_shown me.parts c.plan_frame.new.parts pen c.plan_frame.ensures.same) }
