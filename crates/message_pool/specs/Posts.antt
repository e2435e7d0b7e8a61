-- The messages of a pool.
use Rattle.std.specs.Prelude.{ℕ, ◌+◌, ◌-◌, List, Bool, true, false, not, Option, None, option_map}
use Rattle.std.specs.Prelude.{drop, take, length, map, nat_le, position, slice_get, sum, if◌then◌else◌}
use Rattle.std.specs.List.{list_all}
use Rattle.basil_types.specs.declared.party.Party.{Party}
use Rattle.message_pool.specs.declared.pool.Room.{Room}
use Rattle.message_pool.specs.declared.posted.Fate.{Fate}
use Rattle.message_pool.specs.declared.posted.Fate.TheVariants.{Waiting, Delivered, Lost}
use Rattle.message_pool.specs.declared.posted.Posted.{Posted}

pub record PoolValue : Type 0 where
  pub posts : List Posted
  pub limits : Room

-- a message that was sent now
abbrev pub sent : Party → Party → List ℕ → Posted
sent from to frame = record { from = from; to = to; frame = frame; fate = Waiting }

-- the bytes of all frames
abbrev pub pool_bytes : List Posted → ℕ
pool_bytes pool = sum (map (λ (p : Posted). length p.frame) pool)

-- the message of this number, from 1 on
abbrev pub posted_at : List Posted → ℕ → Option Posted
posted_at pool number = if nat_le 1 number then slice_get pool (number - 1) else None

-- ---- rounds

abbrev pub is_waiting : Fate → Bool
is_waiting Waiting = true
is_waiting Delivered = false
is_waiting Lost = false

-- no message of the first ones waits
abbrev pub have_passed : ℕ → List Posted → Bool
have_passed count pool = list_all (λ (p : Posted). not (is_waiting p.fate)) (take count pool)

-- the number of the first message that waits behind the first ones
abbrev pub waiting_behind : ℕ → List Posted → Option ℕ
waiting_behind before pool =
    option_map (λ place. before + place + 1) (position (λ (p : Posted). is_waiting p.fate) (drop before pool))

-- the least number, of this and later ones, of a message that waits
abbrev pub next_waiting : (from : ℕ) → List Posted → Option ℕ
next_waiting from pool = waiting_behind (from - 1) pool

-- what is lost isn't delivered any more, what was delivered stays so
abbrev pub lost : Fate → Fate
lost Waiting = Lost
lost Delivered = Delivered
lost Lost = Lost
