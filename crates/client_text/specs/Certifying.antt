-- What proves a transaction's decision to anybody, as it is told: the frame of its writeback, in hex.
use Rattle.std.specs.Prelude.{ℕ, List, [], ◌∷◌, ◌++◌, Option, Some, None}
use Rattle.std.specs.Option.{option_map_or}
use Rattle.client_core.specs.Clients.{ClientSelf, ClientValue}
use Rattle.client_link.specs.Running.{formed_at, outcome_at}
use Rattle.client_recover.specs.Taken.{DecidedValue}
use Rattle.frame_views.specs.Spelling.{spelling}
use Rattle.frame_views.specs.Values.{SignedValue, WritebackValue, Writeback}
use Rattle.hex.specs.Hex.{encode_lower}

abbrev pub writeback_with : Option SignedValue → Option DecidedValue → Option WritebackValue
writeback_with (Some x) (Some d) = Some (record { transaction = x.transaction; certificate = d.certificate })
writeback_with _ _ = None

-- that of the transaction in a slot, once it is formed and decided
abbrev pub writeback_at : ClientSelf → (slot : ℕ) → ClientValue → Option WritebackValue
writeback_at me slot v = writeback_with (formed_at slot v) (outcome_at me slot v)

abbrev pub writeback_line : WritebackValue → List ℕ
writeback_line m = encode_lower (spelling (Writeback m)) ++ 10 ∷ []

abbrev pub certified : ClientSelf → (slot : ℕ) → ClientValue → List ℕ
certified me slot v = option_map_or writeback_line (writeback_at me slot v) []
