-- A replay before its first line.
use Rattle.std.proofs.Common.{◌≡◌, List, refl, sym, subst}
use Rattle.basil_types.specs.declared.party.Party.{Party}
use Rattle.cluster_run.specs.States.{KitValue, Setup, start}
use Rattle.cluster_world.specs.Building as world
use Rattle.cluster_world.specs.Shows.{Shows}
use Rattle.cluster_world.specs.declared.building.Beginning.{Beginning}
use Rattle.message_pool.specs.declared.pool.Room.{Room}
use Rattle.journaled_runs.specs.Journaling.{first_state}
use Rattle.journaled_runs.specs.Shown.{KeepsAll}
use Rattle.replay_kit.specs.Made.{kit_value}
use Rattle.replay_kit.specs.Values.{replay_value}
use Rattle.schedule_replay.specs.Replays.{first_replay, most_bytes, most_messages, no_names, setup_of}
use Rattle.schedule_replay.specs.Roads.{Road}
use Rattle.schedule_replay.specs.Shown.{Stands, opening_of}
use Rattle.schedule_replay.specs.declared.course.Course.{Course}
use Rattle.schedule_replay.specs.declared.replay.Opening as code

pub first_stands : (course : Course) (o : code.Opening) (faulty : List Party) (limits : Room) (kit : KitValue) (road : Road) →
    course.cluster ≡ o.cluster → course.names ≡ no_names → limits.messages ≡ most_messages → limits.bytes ≡ most_bytes →
    kit ≡ replay_value o.cluster o.keys → kit ≡ kit_value course.world.kit →
    (let s = world.setup_of (record { cluster = o.cluster; clock = o.clock; limits = limits }) faulty kit in
    Shows s course.world.core (start s)) →
    ((s : Setup) → s.cluster ≡ o.cluster → s.kit ≡ kit_value course.world.kit → Shows s course.world.core (start s) →
    KeepsAll s (kit_value course.world.kit) course.journals (first_state s o.journal)) →
    Stands course (first_replay (opening_of o) faulty road)
first_stands course o faulty limits kit road cluster names messages bytes made own shows keeps =
    let from : Beginning = record { cluster = o.cluster; clock = o.clock; limits = limits } in
    let same : world.setup_of from faulty kit ≡ setup_of (opening_of o) faulty =
    λ i. record { cluster = o.cluster; faulty = faulty; clock = o.clock; messages = messages i; bytes = bytes i; kit = made i } in
    record {
      cluster = sym cluster;
      names = sym names;
      shows = subst (λ (s : Setup). Shows s course.world.core (start s)) same shows;
      journals =
          subst (λ (s : Setup). KeepsAll s (kit_value course.world.kit) course.journals (first_state s o.journal)) same
          (keeps (world.setup_of from faulty kit) refl own shows);
    }
