use Rattle.std.proofs.Common.{[]}
use Rattle.cluster_world.specs.Building.{client_parties, parties_of_shards}
use Rattle.cluster_world.proofs.BuildingLaws.{lies_as, more_pens}
use Rattle.cluster_world.proofs.building.all_pens.Goals as goal

pub returns : goal.returns
returns g c = λ s kit same.
    let v = g.K.Pen.Signer in
    let cl = c.args.cluster.now in
    lies_as v s cl c.args.faulty.now c.add_client_pens.new.pens c.requires same
    (more_pens v s c.args.faulty.now (parties_of_shards cl cl.shards) (client_parties 16) c.new-pens.result
    c.add_replica_pens.new.pens c.add_client_pens.new.pens (c.in_ok-add_replica_pens.ensures s kit)
    (c.in_ok-add_client_pens.ensures s kit) [] (c.new-pens.ensures s))
