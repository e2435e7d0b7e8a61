-- What was taken up is carried through.
use Rattle.std.proofs.Common.{Ok, Err}
use Rattle.client_core.specs.Clients.{ClientSelf}
use Rattle.client_core.specs.Seats.{self_at}
use Rattle.client_link.specs.Running.{starting}
use Rattle.client_link.proofs.TurnLaws.{end_given, run_finished, run_untaken, talk_begun}
use Rattle.client_link.proofs.run.client_finish.Goals as goal

pub returns-in-Ok-finish-clause-ran : goal.returns-in-Ok-finish-clause-ran
returns-in-Ok-finish-clause-ran g c w s shows links =
    let me : ClientSelf =
    self_at c.args.client.now.seat (g.V.Verifier.accepted c.args.client.now.keys) (g.S.Signer.fixed c.args.client.now.pen) in
    let begun = talk_begun c.args.client.now _ _ w s shows links c.new-errands.ensures.messages c.new-errands.ensures.asked
    c.new-errands.ensures.left in
    let x = c.args.signed.now in
    let first = c.in-Ok.ensures.turned (starting w s) begun in
    run_finished c.finish.new.client me c.args.file.now x _ (starting w s) _ _ c.take_up.new.client c.in-Ok.slot _ c.take_up.new.errands _
    (c.in-Ok.ensures.slot w shows) c.in-Ok.ensures.own first (Ok tt) (c.in-Ok-finish.ensures.ran first.mid first.at)

pub returns-in-Ok-clause-ran : goal.returns-in-Ok-clause-ran
returns-in-Ok-clause-ran g c w s shows links =
    let me : ClientSelf =
    self_at c.args.client.now.seat (g.V.Verifier.accepted c.args.client.now.keys) (g.S.Signer.fixed c.args.client.now.pen) in
    let begun = talk_begun c.args.client.now _ _ w s shows links c.new-errands.ensures.messages c.new-errands.ensures.asked
    c.new-errands.ensures.left in
    let x = c.args.signed.now in
    let first = c.in-Ok.ensures.turned (starting w s) begun in
    end_given _ (Err c.in-Err-finish.fault)
    (run_finished c.finish.new.client me c.args.file.now x _ (starting w s) _ _ c.take_up.new.client c.in-Ok.slot _ c.take_up.new.errands _
    (c.in-Ok.ensures.slot w shows) c.in-Ok.ensures.own first (Err c.in-Err-finish.fault)
    (c.in-Err-finish.ensures.ran first.mid first.at))

pub returns-clause-ran : goal.returns-clause-ran
returns-clause-ran g c w s shows links =
    let me : ClientSelf =
    self_at c.args.client.now.seat (g.V.Verifier.accepted c.args.client.now.keys) (g.S.Signer.fixed c.args.client.now.pen) in
    let begun = talk_begun c.args.client.now _ _ w s shows links c.new-errands.ensures.messages c.new-errands.ensures.asked
    c.new-errands.ensures.left in
    let x = c.args.signed.now in
    end_given _ (Err c.in-Err.fault)
    (run_untaken c.take_up.new.client me c.args.file.now x _ (starting w s) _ _ c.take_up.new.errands c.in-Err.fault c.in-Err.ensures.own
    (c.in-Err.ensures.turned (starting w s) begun))
