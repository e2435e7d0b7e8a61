use Rattle.std.proofs.Common.{refl}
use Rattle.basil_types.proofs.MemberLaws.{in_none}
use Rattle.cluster_run.specs.States.{start}
use Rattle.run_sight.specs.Sights.{sight_of}
use Rattle.cluster_world.specs.Building.{setup_of}
use Rattle.cluster_world.proofs.building.begin_engine.Goals as goal

pub returns : goal.returns
returns g c =
    let s = setup_of c.args.beginning c.args.faulty (g.K.Kit.value c.args.kit.now) in
    record {
      stands = record {
        members = c.requires.members;
        earlier = sight_of (start s);
        sight = c.new.ensures s (record { accepts = c.in_ok-keys.ensures; cluster = refl }) refl;
        pens = c.in_ok-pens.ensures s refl refl;
        replicas = c.in_ok-replicas.ensures c.args.faulty;
        clients = c.in_ok-clients.ensures c.args.faulty;
        begun = c.new-2.ensures.items;
        limits = c.new-3.ensures.limits;
        refused = refl;
      };
      posts = c.new-3.ensures.posts;
      seen = λ p i. absurd (in_none p i);
    }
