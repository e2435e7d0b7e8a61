use Rattle.std.proofs.Common.{◌≡◌, ◌∙◌, List, ap, subst}
use Rattle.std.specs.Prelude.{IfOk}
use Rattle.basil_types.specs.declared.outbox.Envelope.{Envelope}
use Rattle.basil_types.specs.declared.outbox.Outbox.{Outbox}
use Rattle.basil_types.specs.Setting.{Setting}
use Rattle.basil_types.specs.Shown.{transaction_of}
use Rattle.frame_values.specs.Owned.{message_value}
use Rattle.txn_meta.specs.Places.{log_shard}
use Rattle.client_steps.specs.Addressing.{parties_of}
use Rattle.client_steps.proofs.SendingLaws.{shard_sent}
use Rattle.client_steps.proofs.sending.log_shard_frames.Goals as goal

pub returns-clause-messages : goal.returns-clause-messages
returns-clause-messages c =
    let u = c.args.pursuit.now in
    let k = c.cluster-cluster.result.now in
    let shard = c.log_shard-shard.ensures.value ∙ ap (λ (j : Setting). log_shard j (transaction_of c.view.result)) c.cluster-cluster.ensures
    ∙ ap (log_shard u.cluster) (c.view.ensures.value ∙ c.transaction.ensures.value) in
    subst (λ (l : List Envelope). IfOk c.sent_to.result (λ (out : Outbox). out.messages.items ≡ l))
    (shard_sent u.cluster k (message_value c.args.message.now) (log_shard u.cluster u.transaction) _ _ c.cluster-cluster.ensures
    (c.as_slice-2.ensures.value ∙ c.in_ok-frame.ensures)
    (c.as_slice.ensures.value ∙ c.in_ok-parties.ensures ∙ ap (parties_of k) shard))
    c.sent_to.ensures.messages
