-- What a client sends at frames, of itself: for each transaction its second stage once, and its outcome once.
use Rattle.std.specs.Prelude.{◌≡◌, ◌≤◌, ℕ, ◌+◌, ◌*◌, List, [], ◌∷◌, Option, Some, None, is_some, length, if◌then◌else◌}
use Rattle.basil_types.specs.Setting.{Setting}
use Rattle.client_recover.specs.Pursuits.{outcome}
use Rattle.client_recover.specs.Taken.{PursuitValue}
use Rattle.client_core.specs.Clients.{ClientDone, ClientSelf, ClientValue, SlotValue}
use Rattle.client_laws.specs.Steps.{Frame, step}

-- whether its second stage started, and whether it is decided: how many of the two
abbrev pub said_of : Setting → Option PursuitValue → ℕ
said_of c None = 0
said_of c (Some p) = (if p.second then 1 else 0) + (if is_some (outcome c p) then 1 else 0)

-- for all that are held
abbrev pub said : Setting → List SlotValue → ℕ
said c [] = 0
said c (s ∷ slots) = said_of c s.pursuit + said c slots

-- as many are held, and more is said where anything is sent
pub record Says (c : Setting) (old : ClientValue) (d : ClientDone) : Type 0 where
  pub slots : length d.client.slots ≡ length old.slots
  pub later : said c old.slots ≤ said c d.client.slots
  pub more : 1 ≤ length d.sent → said c old.slots + 1 ≤ said c d.client.slots

-- so at frames a client sends at most twice for each transaction
pub record SpeaksTwice : Type 0 where
  pub says : (me : ClientSelf) (client : ClientValue) (frame : List ℕ) →
      Says me.cluster client (step me client (Frame frame))
  pub most : (c : Setting) (slots : List SlotValue) → said c slots ≤ 2 * length slots
