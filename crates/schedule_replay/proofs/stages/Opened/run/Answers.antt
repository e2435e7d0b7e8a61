use Rattle.std.proofs.Common.{sym, subst}
use Rattle.std.specs.Prelude.{IfOk}
use Rattle.cluster_world.specs.Shows.{AreMembers}
use Rattle.premise_watch.specs.Parties.{AreCounted}
use Rattle.schedule_replay.specs.Replays.{first_replay}
use Rattle.schedule_replay.specs.Roads.{Road}
use Rattle.schedule_replay.specs.Shown.{Stands, opening_of}
use Rattle.schedule_replay.proofs.StageLaws.{are_members}
use Rattle.schedule_replay.proofs.stages.Opened.run.Goals as goal

pub new-requires-clause-members : goal.new-requires-clause-members
new-requires-clause-members c =
    let old = c.args.self in
    subst (AreMembers old.opening.cluster) (sym c.into_inner-faulty.ensures) (are_members old.opening.cluster old.faulty.value old.members)

pub new-requires-clause-few : goal.new-requires-clause-few
new-requires-clause-few c = subst (AreCounted c.args.self.opening.cluster.f) (sym c.into_inner-faulty.ensures) c.args.self.few

pub returns-clause-stands : goal.returns-clause-stands
returns-clause-stands c =
    let o = opening_of c.args.self.opening in
    subst (λ f. IfOk c.new.result (λ replay. (road : Road) → Stands replay.course.value (first_replay o f road)))
    c.into_inner-faulty.ensures c.new.ensures.stands
