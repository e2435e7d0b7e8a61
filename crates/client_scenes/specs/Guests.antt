-- A client whose slots are counted.
use Rattle.std.specs.Prelude.{ℕ, ◌≤◌, ◌&&◌, Bool, true, length, nat_le, nat_lt}
use Rattle.node_steps.specs.Pens.{PenValue}
use Rattle.client_core.specs.declared.ask.Ask.{Ask}
use Rattle.client_core.specs.declared.ask.Ask.TheVariants.{Read, Prepare, Settle, Recover, Invoke, Frame}
use Rattle.client_core.specs.declared.held.Held.{Held}
use Rattle.client_core.specs.Clients.{ClientValue}
use Rattle.client_core.specs.Done.{Shows}

-- some client with at least so many slots is shown
abbrev pub HoldsSlots : Held → PenValue → ℕ → Type 0
HoldsSlots held pen slots = (v : ClientValue) × Shows held pen v × (slots ≤ length v.slots)

-- the slot is one of so many, and the signature has a good length
abbrev pub can_ask : ℕ → Ask → Bool
can_ask slots (Read slot key) = nat_lt slot slots
can_ask slots (Prepare slot) = nat_lt slot slots
can_ask slots (Settle slot) = nat_lt slot slots
can_ask slots (Recover t signature) = nat_le 1 (length signature.now) && nat_le (length signature.now) 8192
can_ask slots (Invoke slot) = nat_lt slot slots
can_ask slots (Frame frame) = true
