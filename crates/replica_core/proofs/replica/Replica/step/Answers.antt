use Rattle.std.proofs.Common.{Result, subst}
use Rattle.std.proofs.Math.Logic.{∥∥₁_map}
use Rattle.node_steps.specs.Pens.{pen_value}
use Rattle.replica_core.specs.declared.plan.Work.{Work}
use Rattle.replica_core.specs.declared.refusal.Refusal.{Refusal}
use Rattle.replica_core.specs.Answers.{answer}
use Rattle.replica_core.specs.Leads.{kept_next}
use Rattle.replica_core.specs.Nodes.{book_shown}
use Rattle.replica_core.specs.Seats.{self_at}
use Rattle.replica_core.specs.Telling.{IsPlanned}
use Rattle.replica_core.specs.Works.{perform_work}
use Rattle.replica_core.proofs.Stepping.{shown_same, still_shown, shown_then, steps_from}
use Rattle.replica_core.proofs.replica.Replica.step.Goals as goal

pub invariant_of-self : goal.invariant_of-self
invariant_of-self g c =
    let me = c.args.self.now in
    let pen = pen_value (g.S.Signer.spent me.pen) (g.S.Signer.left_of me.pen) in
    record { shown = ∥∥₁_map me.shown (still_shown me.parts c.plan_frame.new.parts pen c.plan_frame.ensures.same) }

pub invariant_of-self-in-Err-1 : goal.invariant_of-self-in-Err-1
invariant_of-self-in-Err-1 g c =
    let me = c.args.self.now in
    let pen = pen_value (g.S.Signer.spent me.pen) (g.S.Signer.left_of me.pen) in
    record { shown = ∥∥₁_map me.shown (still_shown me.parts c.plan_frame.new.parts pen c.plan_frame.ensures.same) }

pub invariant_of-self-in-Ok : goal.invariant_of-self-in-Ok
invariant_of-self-in-Ok g c =
    let me = c.args.self.now in
    let pen = pen_value (g.S.Signer.spent me.pen) (g.S.Signer.left_of me.pen) in
    let after = pen_value (g.S.Signer.spent c.perform.new.pen) (g.S.Signer.left_of c.perform.new.pen) in
    record {
      shown = ∥∥₁_map me.shown (λ x. let y = still_shown me.parts c.plan_frame.new.parts pen c.plan_frame.ensures.same x in
          shown_then c.perform.new.parts after c.perform.new.out _ (c.perform.ensures.performs y.0 y.1.noted));
    }

pub returns-in_ok-room_in-in-Ok-clause-answer : goal.returns-in_ok-room_in-in-Ok-clause-answer
returns-in_ok-room_in-in-Ok-clause-answer g c book s =
    let me = c.args.self.now in
    let sg = g.S.Signer.fixed me.pen in
    let pen = pen_value (g.S.Signer.spent me.pen) (g.S.Signer.left_of me.pen) in
    let after = pen_value (g.S.Signer.spent c.perform.new.pen) (g.S.Signer.left_of c.perform.new.pen) in
    let parts = c.plan_frame.new.parts in
    let kept = kept_next parts.leading in
    let a = answer (self_at me.seat (g.V.Verifier.accepted me.keys) sg) c.args.now c.args.from book c.args.frame.now in
    let still = shown_same me.parts parts pen book c.plan_frame.ensures.same s in
    steps_from sg kept c.perform.new.parts after c.args.out.now c.room_in.new.out c.perform.new.out book (book_shown book parts pen)
    c.in-Ok.work a
    (subst (λ (r : Result Work Refusal). IsPlanned (perform_work sg kept) book r a) c.in-Ok.is (c.plan_frame.ensures.answer book s))
    still.same c.room_in.ensures.messages c.room_in.ensures.signed
    (c.perform.ensures.performs book still.noted)
