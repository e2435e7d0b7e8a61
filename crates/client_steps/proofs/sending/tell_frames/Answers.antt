use Rattle.std.proofs.Common.{◌≡◌, ◌∙◌, List, subst}
use Rattle.std.specs.Prelude.{IfOk}
use Rattle.basil_types.specs.declared.outbox.Envelope.{Envelope}
use Rattle.basil_types.specs.declared.outbox.Outbox.{Outbox}
use Rattle.frame_values.specs.Owned.{certificate_value}
use Rattle.frame_views.specs.Values.{Writeback}
use Rattle.basil_types.specs.Shown.{transaction_of}
use Rattle.client_steps.proofs.SendingLaws.{involved_sent}
use Rattle.client_steps.proofs.sending.tell_frames.Goals as goal

pub returns-clause-messages : goal.returns-clause-messages
returns-clause-messages c =
    let u = c.args.pursuit.now in
    let m = Writeback (record { transaction = u.transaction; certificate = certificate_value c.args.certificate.now }) in
    subst (λ (l : List Envelope). IfOk c.sent_to.result (λ (out : Outbox). out.messages.items ≡ l))
    (involved_sent u.cluster c.cluster.result.now u.transaction (transaction_of c.view.result) m _ _ c.cluster.ensures
    (c.view.ensures.value ∙ c.transaction.ensures.value)
    (c.as_slice-2.ensures.value ∙ c.in_ok-frame.ensures) (c.as_slice.ensures.value ∙ c.in_ok-parties.ensures))
    c.sent_to.ensures.messages
