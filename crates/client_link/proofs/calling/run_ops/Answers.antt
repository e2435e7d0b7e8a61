-- One more was made at each turn.
use Rattle.std.proofs.Common.{rules, ◌≡◌, ◌∷◌, [], Ok, Err, ap, subst}
use Rattle.client_core.specs.Clients.{ClientSelf}
use Rattle.client_core.specs.Seats.{self_at}
use Rattle.client_link.specs.Having.{HasTurned}
use Rattle.client_link.specs.Running.{turn_of, turns_of}
use Rattle.client_link.proofs.TurnLaws.{turning_ended, turning_more}
use Rattle.client_link.proofs.calling.run_ops.Goals as goal

pub loop-op-preserved : goal.loop-op-preserved
loop-op-preserved g c =
    let me : ClientSelf =
    self_at c.args.client.now.seat (g.V.Verifier.accepted c.args.client.now.keys) (g.S.Signer.fixed c.args.client.now.pen) in
    let is : c.loop-op.left.now ≡ c.in-Some.op.now ∷ c.in-Some.others.now = search rules in
    let k = c.loop-op.invariant in
    turning_more c.args.client.now c.loop-op.client c.run_op.new.client _ c.args.slot _ _ (turns_of me c.args.slot c.in-Some.others.now)
    (turn_of me c.args.slot c.in-Some.op.now) _ _ _ _ _ _ _ _ _ k (ap (turns_of me c.args.slot) is) c.in-Ok.ensures.own
    c.in-Ok.ensures.seat c.in-Ok.ensures.slots c.in-Ok.ensures.faults
    (λ t at. subst (λ (m : ClientSelf). HasTurned c.run_op.new.client c.args.file.now c.args.slot
    (turn_of m c.args.slot c.in-Some.op.now ∷ []) (g.L.Links.told c.run_op.new.links) c.run_op.new.errands t
    (g.L.Links.faults c.loop-op.links) (g.L.Links.faults c.run_op.new.links) (Ok tt)) k.self (c.in-Ok.ensures.turned t at))

pub returns-in-Err-clause-turned : goal.returns-in-Err-clause-turned
returns-in-Err-clause-turned g c t at =
    let me : ClientSelf =
    self_at c.args.client.now.seat (g.V.Verifier.accepted c.args.client.now.keys) (g.S.Signer.fixed c.args.client.now.pen) in
    let is : c.loop-op.left.now ≡ c.in-Some.op.now ∷ c.in-Some.others.now = search rules in
    let k = c.loop-op.invariant in
    turning_ended c.args.client.now c.loop-op.client c.run_op.new.client _ c.args.slot _ _ (turns_of me c.args.slot c.in-Some.others.now)
    (turn_of me c.args.slot c.in-Some.op.now) _ _ _ _ _ c.run_op.new.errands _ _ _ k (ap (turns_of me c.args.slot) is) c.in-Err.ensures.own
    t c.in-Err.fault at
    (λ u there. subst (λ (m : ClientSelf). HasTurned c.run_op.new.client c.args.file.now c.args.slot
    (turn_of m c.args.slot c.in-Some.op.now ∷ []) (g.L.Links.told c.run_op.new.links) c.run_op.new.errands u
    (g.L.Links.faults c.loop-op.links) (g.L.Links.faults c.run_op.new.links) (Err c.in-Err.fault)) k.self
    (c.in-Err.ensures.turned u there))
