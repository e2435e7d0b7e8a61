use Rattle.std.proofs.Common.{◌∙◌}
use Rattle.node_steps.specs.Pens.{pen_value}
use Rattle.client_core.proofs.ShownLaws.{begun_held, begun_more, begun_shown}
use Rattle.client_core.proofs.client.Client.begin.Goals as goal

pub invariant_of-self : goal.invariant_of-self
invariant_of-self g c =
    let me = c.args.self.now in
    record {
      same = c.begin.ensures.cluster ∙ me.same;
      shown =
          begun_shown me.held c.begin.new.self (pen_value (g.S.Signer.spent me.pen) (g.S.Signer.left_of me.pen)) c.args.time c.begin.result
          c.begin.ensures.shown c.begin.ensures.as_before me.shown;
    }

pub returns-in-Ok-clause-held : goal.returns-in-Ok-clause-held
returns-in-Ok-clause-held g c =
    let me = c.args.self.now in
    begun_held (pen_value (g.S.Signer.spent me.pen) (g.S.Signer.left_of me.pen)) me.held c.begin.new.self c.in-Ok.slot c.args.time
    (λ v h. (c.in-Ok.ensures.slot v h.shows, c.in-Ok.ensures.shown v h.shows)) me.shown

pub returns-in-Ok-clause-slots : goal.returns-in-Ok-clause-slots
returns-in-Ok-clause-slots g c =
    let me = c.args.self.now in
    begun_more (pen_value (g.S.Signer.spent me.pen) (g.S.Signer.left_of me.pen)) me.held c.begin.new.self c.args.time
    (λ v h. c.in-Ok.ensures.shown v h.shows) me.shown
