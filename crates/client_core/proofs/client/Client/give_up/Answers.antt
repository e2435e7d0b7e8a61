use Rattle.std.proofs.Common.{◌∙◌}
use Rattle.node_steps.specs.Pens.{pen_value}
use Rattle.client_core.proofs.ShownLaws.{kept_count, still_shown}
use Rattle.client_core.proofs.client.Client.give_up.Goals as goal

pub invariant_of-self : goal.invariant_of-self
invariant_of-self g c =
    let me = c.args.self.now in
    record {
      same = c.let_go.ensures.cluster ∙ me.same;
      shown =
          still_shown me.held c.let_go.new.held (pen_value (g.S.Signer.spent me.pen) (g.S.Signer.left_of me.pen)) c.let_go.ensures.shown
          me.shown;
    }

pub returns-clause-slots : goal.returns-clause-slots
returns-clause-slots g c =
    let me = c.args.self.now in
    kept_count me.held c.let_go.new.held (pen_value (g.S.Signer.spent me.pen) (g.S.Signer.left_of me.pen)) c.let_go.ensures.shown me.shown
