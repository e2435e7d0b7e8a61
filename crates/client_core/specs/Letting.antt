-- What is left of a plan that is let go.
use Rattle.std.specs.Prelude.{◌≡◌, ℕ, false, Option, Some, None, slice_get}
use Rattle.std.specs.Option.{ForSome}
use Rattle.client_core.specs.declared.held.Formed.{Formed}
use Rattle.client_core.specs.declared.held.Held.{Held}
use Rattle.client_core.specs.declared.held.Slot.{Slot}
use Rattle.client_core.specs.declared.work.Work.{Work}
use Rattle.client_core.specs.declared.work.Work.TheVariants.{Nothing, Ask, Pursue, Start, Hold, Reply, Take}

-- no frame is held back in a slot
abbrev pub HoldsNothingBack : Held → ℕ → Type 0
HoldsNothingBack held slot =
    ForSome (slice_get held.slots.items slot) (λ (x : Slot). ForSome x.formed (λ (f : Formed). f.held_back ≡ false))

-- the slot in which a frame is held back that the work takes
abbrev pub takes_in : Work → Option ℕ
takes_in Nothing = None
takes_in (Ask slot asked) = None
takes_in (Pursue slot formed pending) = None
takes_in (Start slot) = None
takes_in (Hold recovered) = None
takes_in (Reply slot read reply) = None
takes_in (Take slot starts) = Some slot

-- the frame that the work would take isn't held back any more
abbrev pub IsLetGo : Held → Work → Type 0
IsLetGo held work = ForSome (takes_in work) (HoldsNothingBack held)
