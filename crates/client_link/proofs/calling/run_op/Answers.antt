-- What a read or write came to.
use Rattle.std.proofs.Common.{◌≡◌, true, false, sym, subst, ◌∙◌}
use Rattle.client_core.specs.Clients.{ClientSelf}
use Rattle.client_core.specs.Seats.{self_at}
use Rattle.client_link.specs.Running.{turn_of}
use Rattle.client_link.proofs.TurnLaws.{stopped, turned, turned_err}
use Rattle.client_link.proofs.calling.run_op.Goals as goal

pub returns-then-is_pending-clause-turned : goal.returns-then-is_pending-clause-turned
returns-then-is_pending-clause-turned g c t at =
    let me : ClientSelf =
    self_at c.args.client.now.seat (g.V.Verifier.accepted c.args.client.now.keys) (g.S.Signer.fixed c.args.client.now.pen) in
    let turn = turn_of me c.args.slot c.args.op.now in
    let self = c.ask_for.ensures.own ∙ c.call_op-called.ensures.own in
    stopped c.ask_for.new.client me c.args.file.now c.args.slot turn _ _ t _ _ self
    (c.in-Ok.ensures.came t (turn.call t.client) (c.call_op-called.ensures.called _ t at)) c.held_of.result
    (λ w shows. subst (λ (m : ClientSelf). (turn_of m c.args.slot c.args.op.now).stops w ≡ true) self
    (sym (c.is_pending.ensures w shows) ∙ c.if-is_pending.true))
    (λ w shows. c.held_of.ensures w shows)

pub returns-else-is_pending-clause-turned : goal.returns-else-is_pending-clause-turned
returns-else-is_pending-clause-turned g c t at =
    let me : ClientSelf =
    self_at c.args.client.now.seat (g.V.Verifier.accepted c.args.client.now.keys) (g.S.Signer.fixed c.args.client.now.pen) in
    let turn = turn_of me c.args.slot c.args.op.now in
    let self = c.ask_for.ensures.own ∙ c.call_op-called.ensures.own in
    turned c.ask_for.new.client me c.args.file.now c.args.slot turn _ _ t _ _ self
    (c.in-Ok.ensures.came t (turn.call t.client) (c.call_op-called.ensures.called _ t at))
    (λ w shows. subst (λ (m : ClientSelf). (turn_of m c.args.slot c.args.op.now).stops w ≡ false) self
    (sym (c.is_pending.ensures w shows) ∙ c.if-is_pending.false))

pub returns-in-Err-clause-turned : goal.returns-in-Err-clause-turned
returns-in-Err-clause-turned g c t at =
    let me : ClientSelf =
    self_at c.args.client.now.seat (g.V.Verifier.accepted c.args.client.now.keys) (g.S.Signer.fixed c.args.client.now.pen) in
    let turn = turn_of me c.args.slot c.args.op.now in
    turned_err c.ask_for.new.client c.args.file.now c.args.slot turn _ _ t _ _ c.in-Err.fault
    (c.in-Err.ensures.came t (turn.call t.client) (c.call_op-called.ensures.called _ t at)) c.in-Err.ensures.faults
