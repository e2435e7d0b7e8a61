use Rattle.cluster_run.specs.States.{Setup, State}
use Rattle.cluster_world.specs.Sending.{HasRoomFor}
use Rattle.cluster_world.specs.Shows.{Shows}
use Rattle.cluster_world.proofs.SendingLaws.{Along}
use Rattle.cluster_world.proofs.engine.Engine.enter_all.Given as goal

abbrev pub invariant-loop-message : goal.invariant-loop-message
invariant-loop-message g l =
    record {
      room : HasRoomFor l.self.pool l.message-iterator.rest.items;
      along : (s : Setup) (st : State) → Shows s l.fn.self st →
          Along g.V.Verifier g.S.Signer s l.from l.fn.messages.items l.message-iterator.rest.items st l.self;
    }
