-- A transaction that was formed, as it is handed over: its canonical bytes and its client's signature, both in hex.
use Rattle.std.specs.Prelude.{◌==◌, ◌&&◌, ℕ, nat_le, List, [], ◌∷◌, ◌++◌, length, if◌then◌else◌}
use Rattle.std.specs.Prelude.{Option, Some, None, option_and_then}
use Rattle.std.specs.Option.{option_map_or}
use Rattle.std.specs.Result.{result_ok}
use Rattle.basil_types.specs.Placed.{transaction_from}
use Rattle.basil_types.specs.Transaction.{TransactionValue, canonical}
use Rattle.client_core.specs.Clients.{ClientValue}
use Rattle.client_link.specs.Running.{formed_at}
use Rattle.basil_types.specs.Limits.{signature_limit}
use Rattle.frame_views.specs.Values.{SignedValue}
use Rattle.hex.specs.Hex.{encode_lower}
use Rattle.line_fields.specs.Fields.{hex}
use Rattle.line_fields.specs.Tokens.{Token}

-- ---- told

-- `TRANSACTION SIGNATURE`
abbrev pub signed_line : SignedValue → List ℕ
signed_line x = encode_lower (canonical x.transaction) ++ 32 ∷ encode_lower x.signature ++ 10 ∷ []

-- of the transaction in a slot, once it is formed
abbrev pub handed_over : (slot : ℕ) → ClientValue → List ℕ
handed_over slot v = option_map_or signed_line (formed_at slot v) []

-- ---- read

-- a transaction that begins some bytes, if they end with it
abbrev pub if_whole : (bytes : List ℕ) → TransactionValue → Option TransactionValue
if_whole bytes t = if length (canonical t) == length bytes then Some t else None

abbrev pub transaction_spelled : List ℕ → Option TransactionValue
transaction_spelled bytes = option_and_then (if_whole bytes) (result_ok (transaction_from 0 bytes))

-- a signature has 1 to 8,192 bytes
abbrev pub if_signature : List ℕ → Option (List ℕ)
if_signature bytes = if nat_le 1 (length bytes) && nat_le (length bytes) signature_limit then Some bytes else None

abbrev pub signed_with : Option TransactionValue → Option (List ℕ) → Option SignedValue
signed_with (Some t) (Some signature) = Some (record { transaction = t; signature = signature })
signed_with _ _ = None

abbrev pub signed_of : (transaction signature : Token) → Option SignedValue
signed_of transaction signature =
    signed_with (option_and_then transaction_spelled (result_ok (hex transaction)))
    (option_and_then if_signature (result_ok (hex signature)))
