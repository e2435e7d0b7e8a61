-- Where nothing is logged nothing happens.
use Rattle.std.proofs.Common.{rules, ◌≡◌, refl, ap, ◌∙◌, Err}
use Rattle.client_steps.specs.declared.fault.CallFault.TheVariants as calls
use Rattle.client_core.specs.Seats.{self_at}
use Rattle.client_link.proofs.TurnLaws.{called_still, not_wanting, unlogged}
use Rattle.client_link.proofs.closing.invoke_logged.Goals as goal

pub returns-in-Err-NothingLogged-clause-called : goal.returns-in-Err-NothingLogged-clause-called
returns-in-Err-NothingLogged-clause-called g c told t at =
    let me = self_at c.args.client.now.seat (g.V.Verifier.accepted c.args.client.now.keys) (g.S.Signer.fixed c.args.client.now.pen) in
    let is : c.in-Err-NothingLogged.field-0 ≡ calls.NothingLogged = search rules in
    called_still _ _ told _ _ t at refl refl _ _
    (unlogged me t.client c.args.slot
    (c.in-Err-NothingLogged.ensures.answer t.client at.client_is (not_wanting _ is) ∙ ap Err is))
    (c.in-Err-NothingLogged.ensures.as_before t.client at.client_is) refl c.in-Err-NothingLogged.ensures.same_outbox.messages
