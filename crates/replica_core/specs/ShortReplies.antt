-- Stored replies.
use Rattle.std.specs.Prelude.{ℕ, List, Bool, true, Option, length, nat_le}
use Rattle.std.specs.Option.{option_map_or}
use Rattle.basil_types.specs.Limits.{signature_limit}

-- a stored reply is short enough for a frame
abbrev pub is_short_reply : Option (List ℕ) → Bool
is_short_reply reply = option_map_or (λ s. nat_le (length s) signature_limit) reply true
