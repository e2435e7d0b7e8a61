use Rattle.basil_types.specs.Shown.{transaction_of}
use Rattle.mv_store.proofs.MemberLaws.{room_of_told}
use Rattle.mv_store.proofs.StandsLaws.{stands_entered}
use Rattle.mv_store.proofs.store.Store.set.Goals as goal

pub returns-clause-entered : goal.returns-clause-entered
returns-clause-entered c =
    λ held noted s alone. stands_entered c.args.self.now _
    (transaction_of c.args.t) c.args.place c.args.committed held noted c.tell.ensures s alone

pub returns-clause-room : goal.returns-clause-room
returns-clause-room c = room_of_told c.args.self.now _ (transaction_of c.args.t) _ c.tell.ensures
