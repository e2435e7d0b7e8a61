-- What a client reports of a transaction: what became of it, and what it read.
use Rattle.std.specs.Prelude.{ℕ, List, [], ◌∷◌, ◌++◌, codes, Option, Some, None}
use Rattle.std.specs.List.{flat_map}
use Rattle.basil_types.specs.declared.party.Decision.{Decision}
use Rattle.basil_types.specs.declared.party.Decision.TheVariants.{Commit, Abort}
use Rattle.client_core.specs.Clients.{ClientSelf, ClientValue}
use Rattle.client_core.specs.Slots.{ReadStateValue, Found, Own}
use Rattle.client_link.specs.declared.op.Op.{Op}
use Rattle.client_link.specs.declared.op.Op.TheVariants.{Read, Write}
use Rattle.client_link.specs.Running.{outcome_at, value_at}
use Rattle.client_recover.specs.Taken.{DecidedValue}
use Rattle.node_steps.specs.Lists.{by_key, put}
use Rattle.schedule_text.specs.Spelling.{key_token, value_token}
use Rattle.client_text.specs.declared.reporting.ReadKey.{ReadKey}

-- `commit` or `abort`
abbrev pub decision_line : Decision → List ℕ
decision_line Commit = codes "commit" ++ 10 ∷ []
decision_line Abort = codes "abort" ++ 10 ∷ []

abbrev pub fate_line : Option DecidedValue → List ℕ
fate_line None = []
fate_line (Some d) = decision_line d.decision

abbrev pub key_in : ReadKey → List ℕ
key_in k = k.key

-- the keys that are to be read, ascending, each once
abbrev pub with_key : List ReadKey → Op → List ReadKey
with_key keys (Read key) = put (by_key key_in) (record { key = key }) keys
with_key keys (Write key value) = keys

abbrev pub keys_with : List ReadKey → List Op → List ReadKey
keys_with keys [] = keys
keys_with keys (op ∷ ops) = keys_with (with_key keys op) ops

-- a value, or `-` where there is none
abbrev pub state_token : ReadStateValue → List ℕ
state_token (Found writer value) = value_token value
state_token (Own value) = value_token value
state_token _ = codes "-"

-- `read KEY VALUE`
abbrev pub read_line : ClientSelf → (slot : ℕ) → ClientValue → ReadKey → List ℕ
read_line me slot v k =
    codes "read " ++ key_token k.key ++ 32 ∷ state_token (value_at me slot k.key v) ++ 10 ∷ []

abbrev pub report_of : ClientSelf → (slot : ℕ) → List Op → ClientValue → List ℕ
report_of me slot plan v =
    fate_line (outcome_at me slot v) ++ flat_map (read_line me slot v) (keys_with [] plan)
