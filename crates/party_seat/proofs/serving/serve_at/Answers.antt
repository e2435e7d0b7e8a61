-- It serves at its station, as its replica does.
use Rattle.std.proofs.Common.{rules}
use Rattle.party_seat.proofs.StationLaws.{has_finished, has_stopped, stops_done}
use Rattle.party_seat.proofs.serving.serve_at.Goals as goal

pub returns-in-Ok-clause-all : goal.returns-in-Ok-clause-all
returns-in-Ok-clause-all g c = search rules

pub returns-in-Ok-clause-some : goal.returns-in-Ok-clause-some
returns-in-Ok-clause-some g c s n at begins =
    has_finished _ _ _ _ s at _ _ _ _ _ n begins _ _ c.signs_within_frames.ensures _ (λ h. c.in-Ok.ensures.some n h)

pub returns-in-Ok-clause-stands : goal.returns-in-Ok-clause-stands
returns-in-Ok-clause-stands g c s n at begins =
    stops_done s _ n _ _ _ _ _
    (has_finished _ _ _ _ s at _ _ _ _ _ n begins _ _ c.signs_within_frames.ensures _ (λ h. c.in-Ok.ensures.some n h))

pub returns-in-Err-clause-stands : goal.returns-in-Err-clause-stands
returns-in-Err-clause-stands g c s n at begins =
    has_stopped _ _ _ _ s at _ _ _ _ _ n begins _ _ _ _ c.from.ensures (λ h. c.in-Err.ensures.stopped n h)
