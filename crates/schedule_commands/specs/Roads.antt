-- What links give to a schedule.
use Rattle.std.specs.Prelude.{List, ℕ, ◌++◌, Bool, Option}
use Rattle.basil_types.specs.Links.{LinkState}
use Rattle.schedule_replay.specs.Roads.{Carries, Road, road_with}

-- links gave something, and so it is whatever they would give later
abbrev pub ByGifts : (carried : Bool) → (old new : Option LinkState) → (So : (coming : List (List ℕ)) → Type 0) → Type 0
ByGifts carried old new So = Carries carried old new (λ gave. (later : List (List ℕ)) → So (gave ++ later))

-- so it is of every road that begins with what links gave
abbrev pub ByRoads : (carried : Bool) → (old new : Option LinkState) → (So : Road → Type 0) → Type 0
ByRoads carried old new So = ByGifts carried old new (λ coming. So (road_with carried coming))
