use Rattle.std.proofs.Common.{refl}
use Rattle.cluster_world.proofs.PairLaws.{got}
use Rattle.std.specs.Prelude.{suc}
use Rattle.client_core.specs.Calls.{call_begin}
use Rattle.cluster_world.proofs.AskingLaws.{caller_at}
use Rattle.cluster_world.proofs.BeginLaws.{calls_by}
use Rattle.cluster_world.proofs.engine.Engine.begin_at.Goals as goal

pub returns-clause-called : goal.returns-clause-called
returns-clause-called g c s st caller h at =
    let old = c.args.self.now in
    let place = c.args.place in
    let node = c.index_mut.result.now in
    let holds =
    caller_at g.V.Verifier g.S.Signer s old st place node caller h.stands
    (got old.clients.items place node c.requires c.index_mut.ensures.value) at in
    calls_by g.V.Verifier g.S.Signer s old _ st c.begin.new.self place refl refl h caller (call_begin caller c.args.time) c.begin.result at
    (c.begin.ensures.answer s (suc place) caller holds)

pub returns-clause-slot : goal.returns-clause-slot
returns-clause-slot g c s st caller h at =
    let old = c.args.self.now in
    let place = c.args.place in
    let node = c.index_mut.result.now in
    c.begin.ensures.slot s (suc place) caller
    (caller_at g.V.Verifier g.S.Signer s old st place node caller h.stands
    (got old.clients.items place node c.requires c.index_mut.ensures.value) at)
