-- The transaction is formed, or the client refuses that.
use Rattle.client_core.specs.Clients.{ClientSelf}
use Rattle.client_core.specs.Seats.{self_at}
use Rattle.client_link.proofs.TurnLaws.{run_formed, run_unformed}
use Rattle.client_link.proofs.closing.form.Goals as goal

pub returns-in-Ok-clause-ran : goal.returns-in-Ok-clause-ran
returns-in-Ok-clause-ran g c told t l count at =
    let me : ClientSelf =
    self_at c.args.client.now.seat (g.V.Verifier.accepted c.args.client.now.keys) (g.S.Signer.fixed c.args.client.now.pen) in
    run_formed c.call_stage.new.client told c.call_stage.new.errands me l c.args.slot t count (c.in-Ok.ensures.called told t at)

pub returns-in-Err-clause-ran : goal.returns-in-Err-clause-ran
returns-in-Err-clause-ran g c told t l count at =
    let me : ClientSelf =
    self_at c.args.client.now.seat (g.V.Verifier.accepted c.args.client.now.keys) (g.S.Signer.fixed c.args.client.now.pen) in
    run_unformed c.call_stage.new.client told c.call_stage.new.errands me l c.args.slot t count c.in-Err.fault _ c.refused.ensures
    (c.in-Err.ensures.called told t at)
