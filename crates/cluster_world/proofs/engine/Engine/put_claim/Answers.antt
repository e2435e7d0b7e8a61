use Rattle.std.proofs.Common.{refl}
use Rattle.run_begun.specs.Adding.{claimed}
use Rattle.cluster_world.proofs.BeginLaws.{adds_by}
use Rattle.cluster_world.proofs.PairLaws.{got}
use Rattle.cluster_world.proofs.engine.Engine.put_claim.Goals as goal

pub returns : goal.returns
returns g c s st b h at =
    let old = c.args.self.now in
    let tx = c.args.tx in
    let node = c.index_mut.result.now in
    let put = c.put_claim in
    adds_by g.V.Verifier g.S.Signer s old _ st tx node put.new.self b (claimed c.args.key.now c.args.version.now) put.result
    refl refl h (got old.begun.items tx node c.requires c.index_mut.ensures.value) at
    put.ensures.put put.ensures.refused put.ensures.as_before
