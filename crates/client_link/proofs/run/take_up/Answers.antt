-- A transaction was taken up, or the client refuses that.
use Rattle.std.proofs.Common.{rules, ◌≡◌, refl, ap, ◌∙◌, Ok, Err}
use Rattle.client_core.specs.Calls.{call_recover, recovered_at}
use Rattle.client_core.specs.Clients.{ClientSelf}
use Rattle.client_core.specs.Seats.{self_at}
use Rattle.client_link.proofs.TurnLaws.{called_err, called_ok, not_taken_up, recovered, took_up, unrecovered}
use Rattle.client_link.proofs.run.take_up.Goals as goal

pub returns-in-Ok-ask_for-clause-turned : goal.returns-in-Ok-ask_for-clause-turned
returns-in-Ok-ask_for-clause-turned g c t at =
    let me : ClientSelf =
    self_at c.args.client.now.seat (g.V.Verifier.accepted c.args.client.now.keys) (g.S.Signer.fixed c.args.client.now.pen) in
    let mine : ClientSelf =
    self_at c.recover.new.self.seat (g.V.Verifier.accepted c.recover.new.self.keys) (g.S.Signer.fixed c.recover.new.self.pen) in
    let same : mine ≡ me = search rules in
    let x = c.args.signed.now in
    let called = called_ok _ _ _ _ _ t at refl refl (call_recover me t.client x.transaction x.signature)
    (recovered me t.client x _ _ refl c.transaction.ensures c.signature.ensures.value (c.in-Ok.ensures.answer t.client at.client_is)) in
    took_up c.ask_for.new.client me c.args.file.now x _ c.ask_for.new.errands t _ _ (Ok tt) (c.in-Ok-ask_for.ensures.own ∙ same)
    c.in-Ok-ask_for.ensures.faults (c.in-Ok-ask_for.ensures.came t _ called)

pub returns-in-Err-ask_for-clause-turned : goal.returns-in-Err-ask_for-clause-turned
returns-in-Err-ask_for-clause-turned g c t at =
    let me : ClientSelf =
    self_at c.args.client.now.seat (g.V.Verifier.accepted c.args.client.now.keys) (g.S.Signer.fixed c.args.client.now.pen) in
    let mine : ClientSelf =
    self_at c.recover.new.self.seat (g.V.Verifier.accepted c.recover.new.self.keys) (g.S.Signer.fixed c.recover.new.self.pen) in
    let same : mine ≡ me = search rules in
    let x = c.args.signed.now in
    let called = called_ok _ _ _ _ _ t at refl refl (call_recover me t.client x.transaction x.signature)
    (recovered me t.client x _ _ refl c.transaction.ensures c.signature.ensures.value (c.in-Ok.ensures.answer t.client at.client_is)) in
    took_up c.ask_for.new.client me c.args.file.now x _ c.ask_for.new.errands t _ _ (Err c.in-Err-ask_for.fault)
    (c.in-Err-ask_for.ensures.own ∙ same) c.in-Err-ask_for.ensures.faults (c.in-Err-ask_for.ensures.came t _ called)

pub returns-in-Err-clause-turned : goal.returns-in-Err-clause-turned
returns-in-Err-clause-turned g c t at =
    let me : ClientSelf =
    self_at c.args.client.now.seat (g.V.Verifier.accepted c.args.client.now.keys) (g.S.Signer.fixed c.args.client.now.pen) in
    let mine : ClientSelf =
    self_at c.recover.new.self.seat (g.V.Verifier.accepted c.recover.new.self.keys) (g.S.Signer.fixed c.recover.new.self.pen) in
    let same : mine ≡ me = search rules in
    let x = c.args.signed.now in
    not_taken_up c.recover.new.self me c.args.file.now x _ _ t _ c.in-Err.fault _ same c.refused.ensures
    (called_err _ _ _ _ _ t at refl refl (call_recover me t.client x.transaction x.signature) c.in-Err.fault
    (unrecovered me t.client x _ _ c.transaction.ensures c.signature.ensures.value (c.in-Err.ensures.answer t.client at.client_is))
    (c.in-Err.ensures.as_before t.client at.client_is) c.in-Err.ensures.same_outbox)

pub returns-in-Ok-ask_for-clause-slot : goal.returns-in-Ok-ask_for-clause-slot
returns-in-Ok-ask_for-clause-slot g c w shows = c.in-Ok.ensures.slot w shows ∙ ap (recovered_at w) c.transaction.ensures
