-- A decided transaction isn't recovered, nor one that isn't formed.
use Rattle.std.proofs.Common.{refl, sym, ◌∙◌}
use Rattle.client_core.specs.Seats.{self_at}
use Rattle.client_link.proofs.TurnLaws.{called_err, called_ok, called_still, recovered, recovers_decided, recovers_formed}
use Rattle.client_link.proofs.TurnLaws.{recovers_unformed, unrecovered}
use Rattle.client_link.proofs.closing.recover_own.Goals as goal

pub returns-then-is_decided-clause-called : goal.returns-then-is_decided-clause-called
returns-then-is_decided-clause-called g c told t at =
    let me = self_at c.args.client.now.seat (g.V.Verifier.accepted c.args.client.now.keys) (g.S.Signer.fixed c.args.client.now.pen) in
    called_still _ _ told _ _ t at refl refl _ _
    (recovers_decided me c.args.slot t.client (sym (c.is_decided.ensures t.client at.client_is) ∙ c.if-is_decided.true)) at.client_is
    refl refl

pub returns-in-Ok-clause-called : goal.returns-in-Ok-clause-called
returns-in-Ok-clause-called g c told t at =
    let me = self_at c.args.client.now.seat (g.V.Verifier.accepted c.args.client.now.keys) (g.S.Signer.fixed c.args.client.now.pen) in
    let formed = sym (c.in-Ok-Some.ensures t.client at.client_is) ∙ c.in-Ok-Some.field-0-is in
    called_ok _ _ told _ _ t at refl refl _
    (recovered me t.client c.in-Ok-Some.signed _ _
    (recovers_formed me c.args.slot t.client _ (sym (c.is_decided.ensures t.client at.client_is) ∙ c.if-is_decided.false) formed)
    c.transaction.ensures c.signature.ensures.value (c.in-Ok.ensures.answer t.client at.client_is))

pub returns-in-Ok-None-clause-called : goal.returns-in-Ok-None-clause-called
returns-in-Ok-None-clause-called g c told t at =
    let me = self_at c.args.client.now.seat (g.V.Verifier.accepted c.args.client.now.keys) (g.S.Signer.fixed c.args.client.now.pen) in
    let unformed = sym (c.in-Ok-None.ensures t.client at.client_is) ∙ c.in-Ok-None.field-0-is in
    called_still _ _ told _ _ t at refl refl _ _
    (recovers_unformed me c.args.slot t.client (sym (c.is_decided.ensures t.client at.client_is) ∙ c.if-is_decided.false) unformed)
    at.client_is refl refl

pub returns-in-Ok-Some-clause-called : goal.returns-in-Ok-Some-clause-called
returns-in-Ok-Some-clause-called g c told t at =
    let me = self_at c.args.client.now.seat (g.V.Verifier.accepted c.args.client.now.keys) (g.S.Signer.fixed c.args.client.now.pen) in
    let formed = sym (c.in-Ok-Some.ensures t.client at.client_is) ∙ c.in-Ok-Some.field-0-is in
    let is = recovers_formed me c.args.slot t.client _ (sym (c.is_decided.ensures t.client at.client_is) ∙ c.if-is_decided.false) formed in
    called_err _ _ told _ _ t at refl refl _ c.in-Err-recover.fault
    (λ some. is ∙ unrecovered me t.client c.in-Ok-Some.signed _ _ c.transaction.ensures c.signature.ensures.value
    (c.in-Err-recover.ensures.answer t.client at.client_is) some)
    (c.in-Err-recover.ensures.as_before t.client at.client_is) c.in-Err-recover.ensures.same_outbox
