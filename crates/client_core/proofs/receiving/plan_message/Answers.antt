use Rattle.std.proofs.Common.{◌∙◌, List, ℕ, sym, ap, subst}
use Rattle.basil_types.specs.Transaction.{id}
use Rattle.frame_views.specs.declared.frames.views.MessageView.{MessageView}
use Rattle.frame_views.specs.Shown.{message_of, voted_of, log_reply_of, writeback_of}
use Rattle.client_core.specs.Answers.{on_message}
use Rattle.client_core.specs.Receiving.{IsPlannedFrame}
use Rattle.client_core.specs.Seats.{self_at}
use Rattle.client_core.specs.Taking.{on_named}
use Rattle.client_core.proofs.TakingLaws.{vote_law, log_law, writeback_law}
use Rattle.client_core.proofs.receiving.plan_message.Goals as goal

pub returns-in-Vote-clause-answer : goal.returns-in-Vote-clause-answer
returns-in-Vote-clause-answer g c = λ signing v h.
    let me = self_at c.args.seat.now (g.V.Verifier.accepted c.args.keys.now) signing in
    let w = c.in-Vote.vote in
    subst (IsPlannedFrame signing c.plan_named.new.held v c.plan_named.result)
    (ap (λ (x : MessageView). on_named me v w.id (message_of x)) c.in-Vote.is
    ∙ vote_law me v (voted_of w)
    ∙ sym (ap (λ (x : MessageView). on_message me v (message_of x)) c.in-Vote.is))
    (c.plan_named.ensures.answer signing v h)

pub returns-in-LogReply-clause-answer : goal.returns-in-LogReply-clause-answer
returns-in-LogReply-clause-answer g c = λ signing v h.
    let me = self_at c.args.seat.now (g.V.Verifier.accepted c.args.keys.now) signing in
    let w = c.in-LogReply.reply in
    subst (IsPlannedFrame signing c.plan_named-in-LogReply.new.held v c.plan_named-in-LogReply.result)
    (ap (λ (x : MessageView). on_named me v w.id (message_of x)) c.in-LogReply.is
    ∙ log_law me v (log_reply_of w)
    ∙ sym (ap (λ (x : MessageView). on_message me v (message_of x)) c.in-LogReply.is))
    (c.plan_named-in-LogReply.ensures.answer signing v h)

pub returns-in-Writeback-clause-answer : goal.returns-in-Writeback-clause-answer
returns-in-Writeback-clause-answer g c = λ signing v h.
    let me = self_at c.args.seat.now (g.V.Verifier.accepted c.args.keys.now) signing in
    let w = c.in-Writeback.writeback in
    let named = c.id-named.ensures in
    subst (IsPlannedFrame signing c.plan_named-in-Writeback.new.held v c.plan_named-in-Writeback.result)
    (ap (λ (n : List ℕ). on_named me v n (message_of c.args.m.now)) named
    ∙ ap (λ (x : MessageView). on_named me v (id (writeback_of w).transaction) (message_of x)) c.in-Writeback.is
    ∙ writeback_law me v (writeback_of w)
    ∙ sym (ap (λ (x : MessageView). on_message me v (message_of x)) c.in-Writeback.is))
    (c.plan_named-in-Writeback.ensures.answer signing v h)
