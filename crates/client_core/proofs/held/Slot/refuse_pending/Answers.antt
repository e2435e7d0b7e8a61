use Rattle.std.proofs.Common.{sym, subst}
use Rattle.client_steps.specs.Refusals.{RefusesCall}
use Rattle.client_core.proofs.StepLaws.{pending_law, pending_none}
use Rattle.client_core.proofs.held.Slot.refuse_pending.Goals as goal

pub returns-in-Some : goal.returns-in-Some
returns-in-Some c = λ reads p keeps.
    subst (RefusesCall c.refuse_pending.result)
    (sym (pending_law c.args.cluster.now c.args.self.now.reads.items reads c.in-Some.asked.now c.as_slice.result.now keeps
    c.in-Some.ensures c.as_slice.ensures))
    c.refuse_pending.ensures

pub returns-in-None : goal.returns-in-None
returns-in-None c = λ reads p keeps.
    subst (RefusesCall c.refuse_pending-in-None.result)
    (sym (pending_none c.args.cluster.now c.args.self.now.reads.items reads keeps c.in-None.ensures))
    c.refuse_pending-in-None.ensures
