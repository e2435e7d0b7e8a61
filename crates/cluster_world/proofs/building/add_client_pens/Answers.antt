use Rattle.std.proofs.Common.{◌≡◌, ◌+◌, arith, subst}
use Rattle.basil_types.specs.declared.party.Party.TheVariants.{Client}
use Rattle.cluster_world.specs.Building.{AddsPens, client_parties}
use Rattle.cluster_world.proofs.BuildingLaws.{next_pen}
use Rattle.cluster_world.proofs.building.add_client_pens.Goals as goal

pub loop-place-preserved : goal.loop-place-preserved
loop-place-preserved g c = λ s kit.
    next_pen g.K.Pen.Signer s c.args.faulty.now Client 1 c.loop-place.place (c.loop-place.place + 1) c.args.pens.now
    c.loop-place.pens c.add_pen.new.pens (omega arith) (c.loop-place.invariant s kit) (c.in_ok-add_pen.ensures s kit)

pub returns : goal.returns
returns g c = λ s kit.
    let same : c.loop-place.place ≡ 16 = omega (arith, c.loop-place-test.false, c.loop-place.auto.place-end) in
    subst (λ n. AddsPens g.K.Pen.Signer s c.args.faulty.now (client_parties n) c.args.pens.now c.loop-place.pens) same
    (c.loop-place.invariant s kit)
