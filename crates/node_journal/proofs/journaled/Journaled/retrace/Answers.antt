-- What the last turn found is what the bytes say.
use Rattle.std.proofs.Common.{◌∙◌, subst}
use Rattle.replica_core.specs.Replicas.{ReplicaSelf}
use Rattle.node_journal.specs.Opening.{IsBad}
use Rattle.node_journal.specs.Retracing.{Fronts}
use Rattle.node_journal.proofs.journaled.Journaled.retrace.Goals as goal

pub returns-in-Ok-false-clause-retraces : goal.returns-in-Ok-false-clause-retraces
returns-in-Ok-false-clause-retraces g c s begun told f =
    let i = c.loop-fault.invariant in
    subst (Fronts c.retrace_next.new.self begun s.contents) c.in-Ok-false.field-0-test
    (c.in-Ok-false.ensures.retraces s begun (i.same_told ∙ told) (i.fronts s begun told f))

pub returns-in-Err-clause-retraces : goal.returns-in-Err-clause-retraces
returns-in-Err-clause-retraces g c s begun told f =
    let i = c.loop-fault.invariant in
    subst (λ (m : ReplicaSelf). IsBad m begun s.contents c.in-Err.fault) i.same_own
    (c.in-Err.ensures.retraces s begun (i.same_told ∙ told) (i.fronts s begun told f))
