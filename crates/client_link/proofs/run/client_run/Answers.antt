-- A transaction is begun in the next slot, or the client refuses that.
use Rattle.std.proofs.Common.{◌≡◌, rules, arith}
use Rattle.client_core.specs.Clients.{ClientSelf}
use Rattle.client_core.specs.Seats.{self_at}
use Rattle.client_link.proofs.TurnLaws.{run_begun, run_begun_err, run_unbegun}
use Rattle.client_link.proofs.run.client_run.Goals as goal

pub returns-in-Ok-run_begun-clause-ran : goal.returns-in-Ok-run_begun-clause-ran
returns-in-Ok-run_begun-clause-ran g c w s shows links =
    let me : ClientSelf =
    self_at c.args.client.now.seat (g.V.Verifier.accepted c.args.client.now.keys) (g.S.Signer.fixed c.args.client.now.pen) in
    let mine : ClientSelf =
    self_at c.begin.new.self.seat (g.V.Verifier.accepted c.begin.new.self.keys) (g.S.Signer.fixed c.begin.new.self.pen) in
    let same : mine ≡ me = search rules in
    let begun = c.in-Ok.ensures.answer w shows in
    run_begun c.run_begun.new.client me c.args.file.now c.args.aim c.args.time c.args.plan.now w s _ _ _ mine same c.in-Ok.slot begun.0
    begun.1 (c.in-Ok.ensures.slot w shows) (c.in-Ok-run_begun.ensures.ran begun.0.client s begun.2 links)

pub returns-in-Err-run_begun-clause-ran : goal.returns-in-Err-run_begun-clause-ran
returns-in-Err-run_begun-clause-ran g c w s shows links =
    let me : ClientSelf =
    self_at c.args.client.now.seat (g.V.Verifier.accepted c.args.client.now.keys) (g.S.Signer.fixed c.args.client.now.pen) in
    let mine : ClientSelf =
    self_at c.begin.new.self.seat (g.V.Verifier.accepted c.begin.new.self.keys) (g.S.Signer.fixed c.begin.new.self.pen) in
    let same : mine ≡ me = search rules in
    let begun = c.in-Ok.ensures.answer w shows in
    run_begun_err c.run_begun.new.client me c.args.file.now c.args.aim c.args.time c.args.plan.now w s _ _ _ mine same c.in-Ok.slot begun.0
    begun.1 (c.in-Ok.ensures.slot w shows) c.in-Err-run_begun.fault
    (c.in-Err-run_begun.ensures.ran begun.0.client s begun.2 links)

pub returns-in-Err-clause-ran : goal.returns-in-Err-clause-ran
returns-in-Err-clause-ran g c w s shows links =
    let me : ClientSelf =
    self_at c.args.client.now.seat (g.V.Verifier.accepted c.args.client.now.keys) (g.S.Signer.fixed c.args.client.now.pen) in
    run_unbegun c.begin.new.self me c.args.file.now c.args.aim c.args.time c.args.plan.now w s _ _ _ c.in-Err.fault _ c.refused.ensures
    (c.in-Err.ensures.answer w shows) (c.in-Err.ensures.as_before w shows) links (omega arith)
