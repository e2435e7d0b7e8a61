-- What holds of whatever a client shows.
use Rattle.std.specs.Prelude.{◌≡◌, length}
use Rattle.client_core.specs.declared.held.Held.{Held}
use Rattle.client_core.specs.Clients.{ClientValue}
use Rattle.client_core.specs.Showing.{ShowsHeld}

-- the slots that are held are those that are shown
abbrev pub SlotsAreHeld : Type 0
SlotsAreHeld = (held : Held) (v : ClientValue) → ShowsHeld held v → length held.slots.items ≡ length v.slots
