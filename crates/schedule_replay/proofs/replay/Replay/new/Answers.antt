use Rattle.std.proofs.Common.{ap, refl, sym, subst}
use Rattle.replay_kit.specs.Made.{kit_value}
use Rattle.schedule_replay.specs.Replays.{first_replay}
use Rattle.schedule_replay.specs.Shown.{Stands, opening_of}
use Rattle.schedule_replay.proofs.Beginnings.{first_stands}
use Rattle.schedule_replay.proofs.replay.Replay.new.Goals as goal

pub returns-clause-stands : goal.returns-clause-stands
returns-clause-stands c =
    let o = c.args.opening.now in
    λ road.
    subst (λ x. Stands x (first_replay (opening_of o) c.args.faulty road)) (sym c.in_ok-new.ensures.ok)
    (first_stands _ o c.args.faulty c.limits.result _ road refl c.new-names.ensures c.limits.ensures.messages c.limits.ensures.bytes
    c.in_ok-kit.ensures.value (ap kit_value (sym c.in_ok-world.ensures.kit)) c.in_ok-world.ensures.shows c.in_ok-journals.ensures)
