use Rattle.std.proofs.Common.{All, sym, subst}
use Rattle.std.proofs.lemmas.List.Elements.{All-push}
use Rattle.node_steps.specs.Pendings.{HasRoomFor}
use Rattle.replica_core.specs.ElectFronts.{front_for}
use Rattle.replica_core.proofs.Sends.{next_front}
use Rattle.replica_core.proofs.election.copies_for.Goals as goal

pub loop-party-preserved : goal.loop-party-preserved
loop-party-preserved c =
    record {
      fronts = next_front
          (front_for c.args.front.now) c.args.to.now c.loop-party.party-index _ c.loop-party.frames.items c.push.new.self.items
          c.in_ok-unsigned.unsigned c.in_ok-push.ensures.items c.in_ok-unsigned.ensures.front
          c.loop-party-test.true c.loop-party.invariant.fronts;
      rooms = subst (All (HasRoomFor c.args.size)) (sym c.in_ok-push.ensures.items)
          (All-push
          (HasRoomFor c.args.size) c.loop-party.frames.items c.in_ok-unsigned.unsigned
          c.loop-party.invariant.rooms c.in_ok-unsigned.ensures.room);
    }
