use Rattle.std.proofs.Common.{◌∙◌}
use Rattle.node_steps.specs.Pens.{pen_value}
use Rattle.client_core.proofs.ShownLaws.{written_shown}
use Rattle.client_core.proofs.client.Client.write.Goals as goal

pub invariant_of-self : goal.invariant_of-self
invariant_of-self g c =
    let me = c.args.self.now in
    record {
      same = c.write.ensures.cluster ∙ me.same;
      shown =
          written_shown me.held c.write.new.self (pen_value (g.S.Signer.spent me.pen) (g.S.Signer.left_of me.pen)) _ c.write.result
          c.write.ensures.answer c.write.ensures.as_before me.shown;
    }
