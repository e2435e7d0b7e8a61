use Rattle.std.proofs.Common.{ap, refl}
use Rattle.std.specs.Prelude.{suc}
use Rattle.cluster_world.specs.Beginning.{written_value}
use Rattle.cluster_world.proofs.AskingLaws.{caller_at}
use Rattle.cluster_world.proofs.BeginLaws.{written_calls}
use Rattle.cluster_world.proofs.PairLaws.{got}
use Rattle.cluster_world.proofs.engine.Engine.write_at.Goals as goal

pub returns-in-Value : goal.returns-in-Value
returns-in-Value g c s st caller h at =
    let old = c.args.self.now in
    let place = c.args.place in
    let node = c.index_mut.result.now in
    let holds =
    caller_at g.V.Verifier g.S.Signer s old st place node caller h.stands
    (got old.clients.items place node c.requires c.index_mut.ensures.value) at in
    written_calls g.V.Verifier g.S.Signer s old _ st c.write.new.self place refl refl h caller c.args.slot c.args.written _ c.write.result
    (ap written_value c.in-Value.is) at (c.write.ensures s (suc place) caller holds)

pub returns-in-Deleted : goal.returns-in-Deleted
returns-in-Deleted g c s st caller h at =
    let old = c.args.self.now in
    let place = c.args.place in
    let node = c.index_mut-in-Deleted.result.now in
    let holds =
    caller_at g.V.Verifier g.S.Signer s old st place node caller h.stands
    (got old.clients.items place node c.requires c.index_mut-in-Deleted.ensures.value) at in
    written_calls g.V.Verifier g.S.Signer s old _ st c.delete.new.self place refl refl h caller c.args.slot c.args.written _ c.delete.result
    (ap written_value c.in-Deleted.is) at (c.delete.ensures s (suc place) caller holds)
