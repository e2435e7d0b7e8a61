use Rattle.std.proofs.Common.{◌≡◌, arith, subst}
use Rattle.cluster_world.specs.Building.{AreCallers, first_clients, setup_of}
use Rattle.cluster_world.proofs.BuildingLaws.{next_caller}
use Rattle.cluster_world.proofs.building.all_clients.Goals as goal

pub loop-place-preserved : goal.loop-place-preserved
loop-place-preserved g c = λ faulty.
    next_caller (setup_of c.args.beginning.now faulty (g.K.Kit.value c.args.kit.now)) c.loop-place.place
    c.loop-place.nodes.items c.push.new.self.items c.in_ok-client.field-0 c.in_ok-push.ensures.items
    (c.loop-place.invariant faulty) (c.in_ok-client.ensures faulty)

pub returns : goal.returns
returns g c = λ faulty.
    let s = setup_of c.args.beginning.now faulty (g.K.Kit.value c.args.kit.now) in
    let same : c.loop-place.place ≡ 16 = omega (arith, c.loop-place-test.false, c.loop-place.auto.place-end) in
    subst (λ n. AreCallers s c.loop-place.nodes.items (first_clients s n)) same (c.loop-place.invariant faulty)
