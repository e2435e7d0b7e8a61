use Rattle.std.proofs.Common.{refl, suc}
use Rattle.client_core.specs.Asks.{answer_to}
use Rattle.cluster_run.specs.Parts.{client_self}
use Rattle.cluster_world.proofs.AskingLaws.{asked_by, caller_at, room_left}
use Rattle.cluster_world.proofs.PairLaws.{got}
use Rattle.cluster_world.proofs.engine.Engine.ask.Goals as goal

pub returns-clause-asked : goal.returns-clause-asked
returns-clause-asked g c = λ s st client h at.
    let old = c.args.self.now in
    let node = c.index_mut.result.now in
    asked_by g.V.Verifier g.S.Signer s old _ st c.take.new.self c.args.place refl refl h client c.room.result
    (answer_to (client_self s (suc c.args.place)) client c.args.ask) c.take.result at
    (room_left old.pool c.room.result (record { messages = c.room.ensures.messages; bytes = c.room.ensures.bytes }))
    (c.take.ensures.answer s (suc c.args.place) client
    (caller_at g.V.Verifier g.S.Signer s old st c.args.place node client h
    (got old.clients.items c.args.place node c.requires.place c.index_mut.ensures.value) at))
