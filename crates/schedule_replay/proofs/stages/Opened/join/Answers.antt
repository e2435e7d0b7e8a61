use Rattle.std.proofs.Common.{sym, subst}
use Rattle.premise_watch.specs.Parties.{AreCounted}
use Rattle.schedule_replay.specs.Stages.{AreParties}
use Rattle.schedule_replay.proofs.StageLaws.{joined_parties}
use Rattle.schedule_replay.proofs.stages.Opened.join.Goals as goal

pub invariant_of-self-2 : goal.invariant_of-self-2
invariant_of-self-2 c =
    let old = c.args.self.now in
    let cluster = old.opening.cluster in
    record {
      members = subst (AreParties cluster) (sym c.add.ensures.parties)
          (joined_parties cluster c.deref_mut.result.now c.args.party
          (subst (AreParties cluster) (sym c.deref_mut.ensures.value) old.members) (sym c.if-not-has_party.ensures));
      few = c.add.ensures.few (subst (AreCounted cluster.f) (sym c.deref_mut.ensures.value) old.few);
    }
