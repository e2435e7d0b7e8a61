use Rattle.std.proofs.Common.{arith}
use Rattle.basil_types.specs.declared.party.Party.TheVariants.{Replica}
use Rattle.cluster_world.proofs.BuildingLaws.{next_pen}
use Rattle.cluster_world.proofs.building.add_shard_pens.Goals as goal

pub loop-index-preserved : goal.loop-index-preserved
loop-index-preserved g c = λ s kit.
    next_pen g.K.Pen.Signer s c.args.faulty.now (Replica c.args.shard) 0 c.loop-index.index c.loop-index.index c.args.pens.now
    c.loop-index.pens c.add_pen.new.pens (omega arith) (c.loop-index.invariant s kit) (c.in_ok-add_pen.ensures s kit)
