-- What a stage came to: none stops a run.
use Rattle.std.proofs.Common.{◌∙◌}
use Rattle.client_core.specs.Clients.{ClientSelf}
use Rattle.client_core.specs.Seats.{self_at}
use Rattle.client_link.specs.Stages.{stage_turn}
use Rattle.client_link.proofs.TurnLaws.{never_stops, turned_so}
use Rattle.client_link.proofs.closing.run_stage.Goals as goal

pub returns-clause-turned : goal.returns-clause-turned
returns-clause-turned g c t at =
    let me : ClientSelf =
    self_at c.args.client.now.seat (g.V.Verifier.accepted c.args.client.now.keys) (g.S.Signer.fixed c.args.client.now.pen) in
    let turn = stage_turn me c.args.slot c.args.stage in
    turned_so c.ask_for.new.client me c.args.file.now c.args.slot turn _ _ t _ _ (c.ask_for.ensures.own ∙ c.call_stage-called.ensures.own)
    c.ask_for.result (c.ask_for.ensures.came t (turn.call t.client) (c.call_stage-called.ensures.called _ t at))
    (never_stops me c.args.slot c.args.stage) c.ask_for.ensures.faults
