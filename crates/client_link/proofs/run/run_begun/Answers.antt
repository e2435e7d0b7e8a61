-- The reads and writes, and what stands behind them.
use Rattle.client_core.specs.Clients.{ClientSelf}
use Rattle.client_core.specs.Seats.{self_at}
use Rattle.client_link.specs.Running.{closing, starting, turns_of}
use Rattle.client_link.specs.declared.aim.Aim.TheVariants.{Decision, Form}
use Rattle.client_link.proofs.TurnLaws.{run_ended, run_then_for, talk_begun}
use Rattle.client_link.proofs.run.run_begun.Goals as goal

pub returns-in-Err-clause-ran : goal.returns-in-Err-clause-ran
returns-in-Err-clause-ran g c w s shows links =
    let me : ClientSelf =
    self_at c.args.client.now.seat (g.V.Verifier.accepted c.args.client.now.keys) (g.S.Signer.fixed c.args.client.now.pen) in
    let begun = talk_begun c.args.client.now _ _ w s shows links c.new-errands.ensures.messages c.new-errands.ensures.asked
    c.new-errands.ensures.left in
    run_ended c.run_ops.new.client me _ _ c.args.aim (turns_of me c.args.slot c.args.plan.now) _ c.run_ops.new.errands (starting w s) _ _
    (closing me c.args.slot c.args.aim) c.in-Err.fault c.in-Err.ensures.own (c.in-Err.ensures.turned (starting w s) begun)

pub returns-in-Decision-clause-ran : goal.returns-in-Decision-clause-ran
returns-in-Decision-clause-ran g c w s shows links =
    let me : ClientSelf =
    self_at c.args.client.now.seat (g.V.Verifier.accepted c.args.client.now.keys) (g.S.Signer.fixed c.args.client.now.pen) in
    let begun = talk_begun c.args.client.now _ _ w s shows links c.new-errands.ensures.messages c.new-errands.ensures.asked
    c.new-errands.ensures.left in
    let first = c.in-Ok.ensures.turned (starting w s) begun in
    run_then_for c.run_ops.new.client c.close.new.client me _ _ c.args.aim Decision (turns_of me c.args.slot c.args.plan.now) _ _
    c.run_ops.new.errands (starting w s) _ _ _ first c.in-Ok.ensures.own c.in-Decision.is c.close.result
    (c.close.ensures.ran first.mid first.at)

pub returns-clause-ran : goal.returns-clause-ran
returns-clause-ran g c w s shows links =
    let me : ClientSelf =
    self_at c.args.client.now.seat (g.V.Verifier.accepted c.args.client.now.keys) (g.S.Signer.fixed c.args.client.now.pen) in
    let begun = talk_begun c.args.client.now _ _ w s shows links c.new-errands.ensures.messages c.new-errands.ensures.asked
    c.new-errands.ensures.left in
    let first = c.in-Ok.ensures.turned (starting w s) begun in
    run_then_for c.run_ops.new.client c.form.new.client me _ _ c.args.aim Form (turns_of me c.args.slot c.args.plan.now) _ _
    c.run_ops.new.errands (starting w s) _ _ _ first c.in-Ok.ensures.own c.in-Form.is c.form.result
    (c.form.ensures.ran _ first.mid c.args.file.now _ first.at)
