use Rattle.std.proofs.Common.{◌≡◌, ◌∙◌, Result, true, false, sym, subst}
use Rattle.std.specs.Prelude.{IfErr, IfOk}
use Rattle.client_core.specs.declared.ask.Ask.{Ask}
use Rattle.client_core.specs.declared.ask.Ask.TheVariants as asks
use Rattle.client_core.specs.declared.ask.AskFault.{AskFault}
use Rattle.client_core.specs.declared.work.ClientPlan.{ClientPlan}
use Rattle.client_core.specs.Answers.{on_frame}
use Rattle.client_core.specs.Asks.{IsPlannedAsk, is_call, is_call_fault, answer_to, by_call, by_frame, slot_of}
use Rattle.node_steps.specs.Pens.{pen_value}
use Rattle.client_core.specs.Done.{CanCommit}
use Rattle.client_core.specs.Calls.{call_invoke, call_prepare, call_read, call_recover, call_settle}
use Rattle.client_core.specs.Seats.{self_at}
use Rattle.client_core.proofs.AskLaws.{call_asked, call_if, call_kind, frame_asked, frame_if, frame_kind}
use Rattle.client_core.proofs.ShownLaws.{call_ready, frame_ready, kept_count, still_shown}
use Rattle.client_core.proofs.client.Client.plan.Goals as goal

pub returns-in-Read-clause-answer : goal.returns-in-Read-clause-answer
returns-in-Read-clause-answer g c = λ v h.
    let signing = g.S.Signer.fixed c.args.self.now.pen in
    let accepts = g.V.Verifier.accepted c.args.self.now.keys in
    let me = self_at c.args.self.now.seat accepts signing in
    let held = c.plan_read.new.held in
    subst (λ (a : Ask). IsPlannedAsk signing held v c.call_planned.result (answer_to me v a)) (sym c.in-Read.is)
    (subst (λ (r : Result ClientPlan AskFault). IsPlannedAsk signing held v r (by_call (call_read me v c.in-Read.slot c.in-Read.key.now)))
    (sym c.call_planned.ensures)
    (call_asked signing held v c.plan_read.result
    (call_read me v c.in-Read.slot c.in-Read.key.now) (c.plan_read.ensures.answer signing accepts v h.shows)))

pub returns-in-Read-clause-slot : goal.returns-in-Read-clause-slot
returns-in-Read-clause-slot g c = λ v h.
    subst (λ (a : Ask). IfOk c.call_planned.result (λ plan. plan.slot ≡ slot_of v a)) (sym c.in-Read.is)
    (subst (λ (r : Result ClientPlan AskFault). IfOk r (λ plan. plan.slot ≡ slot_of v (asks.Prepare 0))) (sym c.call_planned.ensures)
    (call_if c.plan_read.result _ c.plan_read.ensures.slot))

pub returns-in-Read-clause-ready : goal.returns-in-Read-clause-ready
returns-in-Read-clause-ready g c =
    let me = c.args.self.now in
    let signing = g.S.Signer.fixed me.pen in
    let pen = pen_value (g.S.Signer.spent me.pen) (g.S.Signer.left_of me.pen) in
    let accepts = g.V.Verifier.accepted me.keys in
    subst (λ (r : Result ClientPlan AskFault). IfOk r (CanCommit signing pen c.plan_read.new.held)) (sym c.call_planned.ensures)
    (call_ready signing pen me.held c.plan_read.new.held c.plan_read.ensures.shown me.shown c.plan_read.result _
    (c.plan_read.ensures.ready signing.size pen.left) (λ v h. c.plan_read.ensures.answer signing accepts v h.shows))

pub invariant_of-self : goal.invariant_of-self
invariant_of-self g c =
    let me = c.args.self.now in
    record {
      same = c.plan_read.ensures.cluster ∙ me.same;
      shown = still_shown me.held c.plan_read.new.held
          (pen_value (g.S.Signer.spent me.pen) (g.S.Signer.left_of me.pen)) c.plan_read.ensures.shown me.shown;
    }

pub returns-in-Prepare-clause-answer : goal.returns-in-Prepare-clause-answer
returns-in-Prepare-clause-answer g c = λ v h.
    let signing = g.S.Signer.fixed c.args.self.now.pen in
    let accepts = g.V.Verifier.accepted c.args.self.now.keys in
    let me = self_at c.args.self.now.seat accepts signing in
    let held = c.args.self.now.held in
    subst (λ (a : Ask). IsPlannedAsk signing held v c.call_planned-in-Prepare.result (answer_to me v a)) (sym c.in-Prepare.is)
    (subst (λ (r : Result ClientPlan AskFault). IsPlannedAsk signing held v r (by_call (call_prepare me v c.in-Prepare.slot)))
    (sym c.call_planned-in-Prepare.ensures)
    (call_asked signing held v c.plan_prepare.result
    (call_prepare me v c.in-Prepare.slot) (c.plan_prepare.ensures.answer accepts v h.shows h.place)))

pub returns-in-Prepare-clause-slot : goal.returns-in-Prepare-clause-slot
returns-in-Prepare-clause-slot g c = λ v h.
    subst (λ (a : Ask). IfOk c.call_planned-in-Prepare.result (λ plan. plan.slot ≡ slot_of v a)) (sym c.in-Prepare.is)
    (subst (λ (r : Result ClientPlan AskFault). IfOk r (λ plan. plan.slot ≡ slot_of v (asks.Prepare 0)))
    (sym c.call_planned-in-Prepare.ensures)
    (call_if c.plan_prepare.result _ c.plan_prepare.ensures.slot))

pub returns-in-Prepare-clause-ready : goal.returns-in-Prepare-clause-ready
returns-in-Prepare-clause-ready g c =
    let me = c.args.self.now in
    let signing = g.S.Signer.fixed me.pen in
    let pen = pen_value (g.S.Signer.spent me.pen) (g.S.Signer.left_of me.pen) in
    let accepts = g.V.Verifier.accepted me.keys in
    subst (λ (r : Result ClientPlan AskFault). IfOk r (CanCommit signing pen me.held)) (sym c.call_planned-in-Prepare.ensures)
    (call_ready signing pen me.held me.held (λ v h. h) me.shown c.plan_prepare.result _ c.plan_prepare.ensures.ready
    (λ v h. c.plan_prepare.ensures.answer accepts v h.shows h.place))

pub returns-in-Settle-clause-answer : goal.returns-in-Settle-clause-answer
returns-in-Settle-clause-answer g c = λ v h.
    let signing = g.S.Signer.fixed c.args.self.now.pen in
    let accepts = g.V.Verifier.accepted c.args.self.now.keys in
    let me = self_at c.args.self.now.seat accepts signing in
    let held = c.plan_settle.new.held in
    subst (λ (a : Ask). IsPlannedAsk signing held v c.call_planned-in-Settle.result (answer_to me v a)) (sym c.in-Settle.is)
    (subst (λ (r : Result ClientPlan AskFault). IsPlannedAsk signing held v r (by_call (call_settle me v c.in-Settle.slot)))
    (sym c.call_planned-in-Settle.ensures)
    (call_asked signing held v c.plan_settle.result
    (call_settle me v c.in-Settle.slot) (c.plan_settle.ensures.answer signing accepts v h.shows)))

pub returns-in-Settle-clause-slot : goal.returns-in-Settle-clause-slot
returns-in-Settle-clause-slot g c = λ v h.
    subst (λ (a : Ask). IfOk c.call_planned-in-Settle.result (λ plan. plan.slot ≡ slot_of v a)) (sym c.in-Settle.is)
    (subst (λ (r : Result ClientPlan AskFault). IfOk r (λ plan. plan.slot ≡ slot_of v (asks.Prepare 0)))
    (sym c.call_planned-in-Settle.ensures)
    (call_if c.plan_settle.result _ c.plan_settle.ensures.slot))

pub returns-in-Settle-clause-ready : goal.returns-in-Settle-clause-ready
returns-in-Settle-clause-ready g c =
    let me = c.args.self.now in
    let signing = g.S.Signer.fixed me.pen in
    let pen = pen_value (g.S.Signer.spent me.pen) (g.S.Signer.left_of me.pen) in
    let accepts = g.V.Verifier.accepted me.keys in
    subst (λ (r : Result ClientPlan AskFault). IfOk r (CanCommit signing pen c.plan_settle.new.held)) (sym c.call_planned-in-Settle.ensures)
    (call_ready signing pen me.held c.plan_settle.new.held c.plan_settle.ensures.shown me.shown c.plan_settle.result _
    (c.plan_settle.ensures.ready signing.size pen.left) (λ v h. c.plan_settle.ensures.answer signing accepts v h.shows))

pub invariant_of-self-in-Settle : goal.invariant_of-self-in-Settle
invariant_of-self-in-Settle g c =
    let me = c.args.self.now in
    record {
      same = c.plan_settle.ensures.cluster ∙ me.same;
      shown = still_shown me.held c.plan_settle.new.held
          (pen_value (g.S.Signer.spent me.pen) (g.S.Signer.left_of me.pen)) c.plan_settle.ensures.shown me.shown;
    }

pub returns-in-Recover-clause-answer : goal.returns-in-Recover-clause-answer
returns-in-Recover-clause-answer g c = λ v h.
    let signing = g.S.Signer.fixed c.args.self.now.pen in
    let accepts = g.V.Verifier.accepted c.args.self.now.keys in
    let me = self_at c.args.self.now.seat accepts signing in
    let held = c.plan_recover.new.held in
    subst (λ (a : Ask). IsPlannedAsk signing held v c.call_planned-in-Recover.result (answer_to me v a)) (sym c.in-Recover.is)
    (subst (λ (r : Result ClientPlan AskFault). IsPlannedAsk signing held v r
    (by_call (call_recover me v c.in-Recover.t.now c.in-Recover.signature.now))) (sym c.call_planned-in-Recover.ensures)
    (call_asked signing held v c.plan_recover.result
    (call_recover me v c.in-Recover.t.now c.in-Recover.signature.now) (c.plan_recover.ensures.answer signing accepts v h.shows)))

pub returns-in-Recover-clause-slot : goal.returns-in-Recover-clause-slot
returns-in-Recover-clause-slot g c = λ v h.
    subst (λ (a : Ask). IfOk c.call_planned-in-Recover.result (λ plan. plan.slot ≡ slot_of v a)) (sym c.in-Recover.is)
    (subst (λ (r : Result ClientPlan AskFault). IfOk r (λ plan. plan.slot ≡ slot_of v (asks.Recover c.in-Recover.t c.in-Recover.signature)))
    (sym c.call_planned-in-Recover.ensures)
    (call_if c.plan_recover.result _ (c.plan_recover.ensures.slot v h.shows)))

pub returns-in-Recover-clause-ready : goal.returns-in-Recover-clause-ready
returns-in-Recover-clause-ready g c =
    let me = c.args.self.now in
    let signing = g.S.Signer.fixed me.pen in
    let pen = pen_value (g.S.Signer.spent me.pen) (g.S.Signer.left_of me.pen) in
    let accepts = g.V.Verifier.accepted me.keys in
    subst (λ (r : Result ClientPlan AskFault). IfOk r (CanCommit signing pen c.plan_recover.new.held))
    (sym c.call_planned-in-Recover.ensures)
    (call_ready signing pen me.held c.plan_recover.new.held c.plan_recover.ensures.shown me.shown c.plan_recover.result _
    (c.plan_recover.ensures.ready signing.size pen.left) (λ v h. c.plan_recover.ensures.answer signing accepts v h.shows))

pub invariant_of-self-in-Recover : goal.invariant_of-self-in-Recover
invariant_of-self-in-Recover g c =
    let me = c.args.self.now in
    record {
      same = c.plan_recover.ensures.cluster ∙ me.same;
      shown = still_shown me.held c.plan_recover.new.held
          (pen_value (g.S.Signer.spent me.pen) (g.S.Signer.left_of me.pen)) c.plan_recover.ensures.shown me.shown;
    }

pub returns-in-Invoke-clause-answer : goal.returns-in-Invoke-clause-answer
returns-in-Invoke-clause-answer g c = λ v h.
    let signing = g.S.Signer.fixed c.args.self.now.pen in
    let accepts = g.V.Verifier.accepted c.args.self.now.keys in
    let me = self_at c.args.self.now.seat accepts signing in
    let held = c.plan_invoke.new.held in
    subst (λ (a : Ask). IsPlannedAsk signing held v c.call_planned-in-Invoke.result (answer_to me v a)) (sym c.in-Invoke.is)
    (subst (λ (r : Result ClientPlan AskFault). IsPlannedAsk signing held v r (by_call (call_invoke me v c.in-Invoke.slot)))
    (sym c.call_planned-in-Invoke.ensures)
    (call_asked signing held v c.plan_invoke.result
    (call_invoke me v c.in-Invoke.slot) (c.plan_invoke.ensures.answer signing accepts v h.shows)))

pub returns-in-Invoke-clause-slot : goal.returns-in-Invoke-clause-slot
returns-in-Invoke-clause-slot g c = λ v h.
    subst (λ (a : Ask). IfOk c.call_planned-in-Invoke.result (λ plan. plan.slot ≡ slot_of v a)) (sym c.in-Invoke.is)
    (subst (λ (r : Result ClientPlan AskFault). IfOk r (λ plan. plan.slot ≡ slot_of v (asks.Prepare 0)))
    (sym c.call_planned-in-Invoke.ensures)
    (call_if c.plan_invoke.result _ c.plan_invoke.ensures.slot))

pub returns-in-Invoke-clause-ready : goal.returns-in-Invoke-clause-ready
returns-in-Invoke-clause-ready g c =
    let me = c.args.self.now in
    let signing = g.S.Signer.fixed me.pen in
    let pen = pen_value (g.S.Signer.spent me.pen) (g.S.Signer.left_of me.pen) in
    let accepts = g.V.Verifier.accepted me.keys in
    subst (λ (r : Result ClientPlan AskFault). IfOk r (CanCommit signing pen c.plan_invoke.new.held)) (sym c.call_planned-in-Invoke.ensures)
    (call_ready signing pen me.held c.plan_invoke.new.held c.plan_invoke.ensures.shown me.shown c.plan_invoke.result _
    (c.plan_invoke.ensures.ready signing.size pen.left) (λ v h. c.plan_invoke.ensures.answer signing accepts v h.shows))

pub invariant_of-self-in-Invoke : goal.invariant_of-self-in-Invoke
invariant_of-self-in-Invoke g c =
    let me = c.args.self.now in
    record {
      same = c.plan_invoke.ensures.cluster ∙ me.same;
      shown = still_shown me.held c.plan_invoke.new.held
          (pen_value (g.S.Signer.spent me.pen) (g.S.Signer.left_of me.pen)) c.plan_invoke.ensures.shown me.shown;
    }

pub returns-in-Frame-clause-answer : goal.returns-in-Frame-clause-answer
returns-in-Frame-clause-answer g c = λ v h.
    let signing = g.S.Signer.fixed c.args.self.now.pen in
    let accepts = g.V.Verifier.accepted c.args.self.now.keys in
    let me = self_at c.args.self.now.seat accepts signing in
    let held = c.plan_frame.new.held in
    subst (λ (a : Ask). IsPlannedAsk signing held v c.frame_planned.result (answer_to me v a)) (sym c.in-Frame.is)
    (subst (λ (r : Result ClientPlan AskFault). IsPlannedAsk signing held v r (by_frame (on_frame me v c.in-Frame.frame.now)))
    (sym c.frame_planned.ensures)
    (frame_asked signing held v c.plan_frame.result (on_frame me v c.in-Frame.frame.now) (c.plan_frame.ensures.answer signing v h.shows)))

pub returns-in-Frame-clause-slot : goal.returns-in-Frame-clause-slot
returns-in-Frame-clause-slot g c = λ v h.
    subst (λ (a : Ask). IfOk c.frame_planned.result (λ plan. plan.slot ≡ slot_of v a)) (sym c.in-Frame.is)
    (subst (λ (r : Result ClientPlan AskFault). IfOk r (λ plan. plan.slot ≡ slot_of v (asks.Prepare 0))) (sym c.frame_planned.ensures)
    (frame_if c.plan_frame.result _ c.plan_frame.ensures.slot))

pub returns-in-Frame-clause-ready : goal.returns-in-Frame-clause-ready
returns-in-Frame-clause-ready g c =
    let me = c.args.self.now in
    let signing = g.S.Signer.fixed me.pen in
    let pen = pen_value (g.S.Signer.spent me.pen) (g.S.Signer.left_of me.pen) in
    subst (λ (r : Result ClientPlan AskFault). IfOk r (CanCommit signing pen c.plan_frame.new.held)) (sym c.frame_planned.ensures)
    (frame_ready signing pen me.held c.plan_frame.new.held c.plan_frame.ensures.shown me.shown c.plan_frame.result _
    (c.plan_frame.ensures.ready signing.size pen.left) (λ v h. c.plan_frame.ensures.answer signing v h.shows))

pub invariant_of-self-in-Frame : goal.invariant_of-self-in-Frame
invariant_of-self-in-Frame g c =
    let me = c.args.self.now in
    record {
      same = c.plan_frame.ensures.cluster ∙ me.same;
      shown = still_shown me.held c.plan_frame.new.held
          (pen_value (g.S.Signer.spent me.pen) (g.S.Signer.left_of me.pen)) c.plan_frame.ensures.shown me.shown;
    }

pub returns-in-Read-clause-slots : goal.returns-in-Read-clause-slots
returns-in-Read-clause-slots g c =
    let me = c.args.self.now in
    kept_count me.held c.plan_read.new.held
    (pen_value (g.S.Signer.spent me.pen) (g.S.Signer.left_of me.pen)) c.plan_read.ensures.shown me.shown

pub returns-in-Settle-clause-slots : goal.returns-in-Settle-clause-slots
returns-in-Settle-clause-slots g c =
    let me = c.args.self.now in
    kept_count me.held c.plan_settle.new.held
    (pen_value (g.S.Signer.spent me.pen) (g.S.Signer.left_of me.pen)) c.plan_settle.ensures.shown me.shown

pub returns-in-Recover-clause-slots : goal.returns-in-Recover-clause-slots
returns-in-Recover-clause-slots g c =
    let me = c.args.self.now in
    kept_count me.held c.plan_recover.new.held
    (pen_value (g.S.Signer.spent me.pen) (g.S.Signer.left_of me.pen)) c.plan_recover.ensures.shown me.shown

pub returns-in-Invoke-clause-slots : goal.returns-in-Invoke-clause-slots
returns-in-Invoke-clause-slots g c =
    let me = c.args.self.now in
    kept_count me.held c.plan_invoke.new.held
    (pen_value (g.S.Signer.spent me.pen) (g.S.Signer.left_of me.pen)) c.plan_invoke.ensures.shown me.shown

pub returns-in-Frame-clause-slots : goal.returns-in-Frame-clause-slots
returns-in-Frame-clause-slots g c =
    let me = c.args.self.now in
    kept_count me.held c.plan_frame.new.held
    (pen_value (g.S.Signer.spent me.pen) (g.S.Signer.left_of me.pen)) c.plan_frame.ensures.shown me.shown

pub returns-in-Read-clause-kind : goal.returns-in-Read-clause-kind
returns-in-Read-clause-kind g c =
    subst (λ (a : Ask). IfErr c.call_planned.result (λ e. is_call_fault e ≡ is_call a)) (sym c.in-Read.is)
    (subst (λ (r : Result ClientPlan AskFault). IfErr r (λ e. is_call_fault e ≡ true))
    (sym c.call_planned.ensures) (call_kind c.plan_read.result))

pub returns-in-Prepare-clause-kind : goal.returns-in-Prepare-clause-kind
returns-in-Prepare-clause-kind g c =
    subst (λ (a : Ask). IfErr c.call_planned-in-Prepare.result (λ e. is_call_fault e ≡ is_call a)) (sym c.in-Prepare.is)
    (subst (λ (r : Result ClientPlan AskFault). IfErr r (λ e. is_call_fault e ≡ true))
    (sym c.call_planned-in-Prepare.ensures) (call_kind c.plan_prepare.result))

pub returns-in-Settle-clause-kind : goal.returns-in-Settle-clause-kind
returns-in-Settle-clause-kind g c =
    subst (λ (a : Ask). IfErr c.call_planned-in-Settle.result (λ e. is_call_fault e ≡ is_call a)) (sym c.in-Settle.is)
    (subst (λ (r : Result ClientPlan AskFault). IfErr r (λ e. is_call_fault e ≡ true))
    (sym c.call_planned-in-Settle.ensures) (call_kind c.plan_settle.result))

pub returns-in-Recover-clause-kind : goal.returns-in-Recover-clause-kind
returns-in-Recover-clause-kind g c =
    subst (λ (a : Ask). IfErr c.call_planned-in-Recover.result (λ e. is_call_fault e ≡ is_call a)) (sym c.in-Recover.is)
    (subst (λ (r : Result ClientPlan AskFault). IfErr r (λ e. is_call_fault e ≡ true))
    (sym c.call_planned-in-Recover.ensures) (call_kind c.plan_recover.result))

pub returns-in-Invoke-clause-kind : goal.returns-in-Invoke-clause-kind
returns-in-Invoke-clause-kind g c =
    subst (λ (a : Ask). IfErr c.call_planned-in-Invoke.result (λ e. is_call_fault e ≡ is_call a)) (sym c.in-Invoke.is)
    (subst (λ (r : Result ClientPlan AskFault). IfErr r (λ e. is_call_fault e ≡ true))
    (sym c.call_planned-in-Invoke.ensures) (call_kind c.plan_invoke.result))

pub returns-in-Frame-clause-kind : goal.returns-in-Frame-clause-kind
returns-in-Frame-clause-kind g c =
    subst (λ (a : Ask). IfErr c.frame_planned.result (λ e. is_call_fault e ≡ is_call a)) (sym c.in-Frame.is)
    (subst (λ (r : Result ClientPlan AskFault). IfErr r (λ e. is_call_fault e ≡ false))
    (sym c.frame_planned.ensures) (frame_kind c.plan_frame.result))
