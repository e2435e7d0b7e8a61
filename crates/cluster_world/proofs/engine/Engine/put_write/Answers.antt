use Rattle.std.proofs.Common.{ap, refl}
use Rattle.cluster_world.specs.Beginning.{written_value}
use Rattle.cluster_world.proofs.BeginLaws.{written_by}
use Rattle.cluster_world.proofs.PairLaws.{got}
use Rattle.cluster_world.proofs.engine.Engine.put_write.Goals as goal

pub returns-in-Value : goal.returns-in-Value
returns-in-Value g c s st b h at =
    let old = c.args.self.now in
    let tx = c.args.tx in
    let node = c.index_mut.result.now in
    let put = c.put_write in
    written_by g.V.Verifier g.S.Signer s old _ st tx node put.new.self b c.args.written _ put.result (ap written_value c.in-Value.is)
    refl refl h (got old.begun.items tx node c.requires c.index_mut.ensures.value) at
    put.ensures.put put.ensures.refused put.ensures.as_before

pub returns-in-Deleted : goal.returns-in-Deleted
returns-in-Deleted g c s st b h at =
    let old = c.args.self.now in
    let tx = c.args.tx in
    let node = c.index_mut-in-Deleted.result.now in
    let put = c.put_write-in-Deleted in
    written_by g.V.Verifier g.S.Signer s old _ st tx node put.new.self b c.args.written _ put.result (ap written_value c.in-Deleted.is)
    refl refl h (got old.begun.items tx node c.requires c.index_mut-in-Deleted.ensures.value) at
    put.ensures.put put.ensures.refused put.ensures.as_before
