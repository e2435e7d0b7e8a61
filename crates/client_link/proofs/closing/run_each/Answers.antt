-- One more was made at each turn.
use Rattle.std.proofs.Common.{rules, ◌≡◌, ◌∷◌, [], Ok, Err, ap, subst}
use Rattle.client_core.specs.Clients.{ClientSelf}
use Rattle.client_core.specs.Seats.{self_at}
use Rattle.client_link.specs.Having.{HasTurned}
use Rattle.client_link.specs.Stages.{stage_turn, stage_turns}
use Rattle.client_link.proofs.TurnLaws.{turning_ended, turning_more}
use Rattle.client_link.proofs.closing.run_each.Goals as goal

pub loop-stage-preserved : goal.loop-stage-preserved
loop-stage-preserved g c =
    let me : ClientSelf =
    self_at c.args.client.now.seat (g.V.Verifier.accepted c.args.client.now.keys) (g.S.Signer.fixed c.args.client.now.pen) in
    let is : c.loop-stage.left.now ≡ c.in-Some.stage.now ∷ c.in-Some.others.now = search rules in
    let k = c.loop-stage.invariant in
    turning_more c.args.client.now c.loop-stage.client c.run_stage.new.client _ c.args.slot _ _
    (stage_turns me c.args.slot c.in-Some.others.now) (stage_turn me c.args.slot c.in-Some.stage.now)
    _ _ _ _ _ _ _ _ _ k (ap (stage_turns me c.args.slot) is) c.in-Ok.ensures.own
    c.in-Ok.ensures.seat c.in-Ok.ensures.slots c.in-Ok.ensures.faults
    (λ t at. subst (λ (m : ClientSelf). HasTurned c.run_stage.new.client c.args.file.now c.args.slot
    (stage_turn m c.args.slot c.in-Some.stage.now ∷ []) (g.L.Links.told c.run_stage.new.links) c.run_stage.new.errands t
    (g.L.Links.faults c.loop-stage.links) (g.L.Links.faults c.run_stage.new.links) (Ok tt)) k.self (c.in-Ok.ensures.turned t at))

pub returns-in-Err-clause-turned : goal.returns-in-Err-clause-turned
returns-in-Err-clause-turned g c t at =
    let me : ClientSelf =
    self_at c.args.client.now.seat (g.V.Verifier.accepted c.args.client.now.keys) (g.S.Signer.fixed c.args.client.now.pen) in
    let is : c.loop-stage.left.now ≡ c.in-Some.stage.now ∷ c.in-Some.others.now = search rules in
    let k = c.loop-stage.invariant in
    turning_ended c.args.client.now c.loop-stage.client c.run_stage.new.client _ c.args.slot _ _
    (stage_turns me c.args.slot c.in-Some.others.now) (stage_turn me c.args.slot c.in-Some.stage.now) _ _ _ _ _ c.run_stage.new.errands
    _ _ _ k (ap (stage_turns me c.args.slot) is) c.in-Err.ensures.own t c.in-Err.fault at
    (λ u there. subst (λ (m : ClientSelf). HasTurned c.run_stage.new.client c.args.file.now c.args.slot
    (stage_turn m c.args.slot c.in-Some.stage.now ∷ []) (g.L.Links.told c.run_stage.new.links) c.run_stage.new.errands u
    (g.L.Links.faults c.loop-stage.links) (g.L.Links.faults c.run_stage.new.links) (Err c.in-Err.fault)) k.self
    (c.in-Err.ensures.turned u there))
