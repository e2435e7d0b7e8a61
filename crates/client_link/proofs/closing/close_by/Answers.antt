-- The stages came through, or ended it.
use Rattle.std.proofs.Common.{sym, ◌∙◌}
use Rattle.client_core.specs.Clients.{ClientSelf}
use Rattle.client_core.specs.Seats.{self_at}
use Rattle.client_link.specs.Stages.{stage_turns}
use Rattle.client_link.specs.declared.aim.Aim.TheVariants.{Decision}
use Rattle.client_link.proofs.TurnLaws.{ending_decided, ending_open, run_closed, run_ended_last}
use Rattle.client_link.proofs.closing.close_by.Goals as goal

pub returns-in-Err-clause-ran : goal.returns-in-Err-clause-ran
returns-in-Err-clause-ran g c t at =
    let me : ClientSelf =
    self_at c.args.client.now.seat (g.V.Verifier.accepted c.args.client.now.keys) (g.S.Signer.fixed c.args.client.now.pen) in
    run_ended_last c.run_each.new.client me _ _ Decision (stage_turns me c.args.slot c.args.stages.now) _ c.run_each.new.errands
    t _ _ c.in-Err.fault c.in-Err.ensures.own (c.in-Err.ensures.turned t at)

pub returns-then-is_decided-clause-ran : goal.returns-then-is_decided-clause-ran
returns-then-is_decided-clause-ran g c t at =
    let me : ClientSelf =
    self_at c.args.client.now.seat (g.V.Verifier.accepted c.args.client.now.keys) (g.S.Signer.fixed c.args.client.now.pen) in
    let late : ClientSelf =
    self_at c.run_each.new.client.seat (g.V.Verifier.accepted c.run_each.new.client.keys) (g.S.Signer.fixed c.run_each.new.client.pen) in
    let all = c.in-Ok.ensures.turned t at in
    run_closed c.run_each.new.client me _ _ (stage_turns me c.args.slot c.args.stages.now) _ c.run_each.new.errands t _ _
    c.in-Ok.ensures.own all _
    (ending_decided late c.args.slot all.mid.client
    (sym (c.is_decided.ensures all.mid.client all.at.client_is) ∙ c.if-is_decided.true))

pub returns-else-is_decided-clause-ran : goal.returns-else-is_decided-clause-ran
returns-else-is_decided-clause-ran g c t at =
    let me : ClientSelf =
    self_at c.args.client.now.seat (g.V.Verifier.accepted c.args.client.now.keys) (g.S.Signer.fixed c.args.client.now.pen) in
    let late : ClientSelf =
    self_at c.run_each.new.client.seat (g.V.Verifier.accepted c.run_each.new.client.keys) (g.S.Signer.fixed c.run_each.new.client.pen) in
    let all = c.in-Ok.ensures.turned t at in
    run_closed c.run_each.new.client me _ _ (stage_turns me c.args.slot c.args.stages.now) _ c.run_each.new.errands t _ _
    c.in-Ok.ensures.own all _
    (ending_open late c.args.slot all.mid.client c.held_of.result
    (sym (c.is_decided.ensures all.mid.client all.at.client_is) ∙ c.if-is_decided.false)
    (c.held_of.ensures all.mid.client all.at.client_is))
