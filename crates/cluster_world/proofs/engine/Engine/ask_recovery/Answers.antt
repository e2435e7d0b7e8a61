use Rattle.std.proofs.Common.{◌∙◌, ap, refl, sym}
use Rattle.std.specs.Prelude.{Ok, suc}
use Rattle.client_core.specs.Asks.{by_call}
use Rattle.client_core.specs.Calls.{call_recover}
use Rattle.cluster_run.specs.Parts.{client_self}
use Rattle.cluster_world.specs.Beginning.{formed_in}
use Rattle.cluster_world.proofs.AskingLaws.{asked_by, caller_at, room_left}
use Rattle.cluster_world.proofs.PairLaws.{got}
use Rattle.cluster_world.proofs.PrepareLaws.{recovers_by}
use Rattle.cluster_world.proofs.engine.Engine.ask_recovery.Goals as goal

pub returns-clause-asked : goal.returns-clause-asked
returns-clause-asked g c s st caller h at =
    let old = c.args.self.now in
    let place = c.args.place in
    let node = c.index_mut.result.now in
    let formed = c.in-Some.formed.now in
    let t = c.transaction.result.now in
    let signature = c.signature.result.now in
    recovers_by g.V.Verifier g.S.Signer s old.pool _ st c.args.tx place caller formed t signature c.in_ok-handled.handled
    (ap (λ l. formed_in l c.args.tx) (sym h.begun) ∙ ap (λ l. formed_in l c.args.tx) (sym c.deref.ensures.value) ∙ sym c.in-Some.ensures)
    c.transaction.ensures.value c.signature.ensures.value
    (asked_by g.V.Verifier g.S.Signer s old _ st c.take.new.self place refl refl h caller c.room.result
    (by_call (call_recover (client_self s (suc place)) caller t signature)) (Ok c.in_ok-handled.handled) at
    (room_left old.pool c.room.result (record { messages = c.room.ensures.messages; bytes = c.room.ensures.bytes }))
    (c.in_ok-handled.ensures.answer s (suc place) caller
    (caller_at g.V.Verifier g.S.Signer s old st place node caller h
    (got old.clients.items place node c.requires c.index_mut.ensures.value) at)))
