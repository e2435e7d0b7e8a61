-- The report of a run.
use Rattle.std.specs.Prelude.{ℕ, ◌+◌, List, [], ◌∷◌, ◌++◌, Bool, false, codes}
use Rattle.std.specs.Prelude.{length, Option, Some, None, option_and_then, if◌then◌else◌}
use Rattle.std.specs.List.{flat_map}
use Rattle.std.specs.Option.{option_map_or}
use Rattle.std.specs.Str.{bytes_eq}
use Rattle.basil_types.specs.Replayed.{map_of}
use Rattle.basil_types.specs.Transaction.{TransactionValue, id}
use Rattle.basil_types.specs.declared.party.Decision.{Decision}
use Rattle.basil_types.specs.declared.version.Version.{Version}
use Rattle.client_core.specs.Slots.{ReadStateValue, Absent, Found, Deleted}
use Rattle.cluster_run.specs.States.{State}
use Rattle.cluster_run.specs.Telling.{transaction_at, value_at, decision_at, committed_by_version}
use Rattle.hex.specs.Hex.{encode_lower}
use Rattle.schedule_text.specs.Spelling.{key_token, value_token}
use Rattle.serial_audit.specs.Maps.{pairs_of}
use Rattle.report_lines.specs.Lines.{end_line, fate_line, key_line}
use Rattle.schedule_replay.specs.Names.{keys_of}
use Rattle.schedule_replay.specs.Replays.{NamedValue, ReplayValue}

-- ---- what became of a transaction

-- by the certificates that were seen; nothing of one that isn't formed
abbrev pub decided : State → (tx : ℕ) → Option Decision
decided st tx = option_and_then (λ t. decision_at st (id t)) (transaction_at st tx)

-- ---- what it read

-- whether a transaction is formed and has this id
abbrev pub has_id : State → (named : List ℕ) → (tx : ℕ) → Bool
has_id st named tx = option_map_or (λ (t : TransactionValue). bytes_eq (id t) named) (transaction_at st tx) false

-- the first name of these, from this transaction on, whose formed transaction has this id
abbrev pub first_name : State → (named : List ℕ) → (tx : ℕ) → List NamedValue → Option (List ℕ)
first_name st named tx [] = None
first_name st named tx (n ∷ ns) = if has_id st named tx then Some n.name else first_name st named (tx + 1) ns

-- the writer of a version, by its name, or by its id in hex
abbrev pub writer_token : ReplayValue → Version → List ℕ
writer_token r v = option_map_or (λ (name : List ℕ). name) (first_name r.state v.id 0 r.names.begun) (encode_lower v.id)

-- what stands behind the key of a read that has its choice: `-`, `WRITER VALUE`, or `WRITER` of a deletion
abbrev pub chosen_tokens : ReplayValue → ReadStateValue → Option (List ℕ)
chosen_tokens r Absent = Some (codes "-")
chosen_tokens r (Found writer value) = Some (writer_token r writer ++ 32 ∷ value_token value)
chosen_tokens r (Deleted writer) = Some (writer_token r writer)
chosen_tokens r _ = None

-- `read NAME KEY` and that
abbrev pub read_line : (name key : List ℕ) → Option (List ℕ) → List ℕ
read_line name key None = []
read_line name key (Some tokens) = codes "read " ++ name ++ 32 ∷ key_token key ++ 32 ∷ tokens ++ 10 ∷ []

-- a line for each of the keys that a transaction was to read, where it has its choice
abbrev pub read_lines : ReplayValue → (tx : ℕ) → (name : List ℕ) → List (List ℕ) → List ℕ
read_lines r tx name keys =
    flat_map (λ key. read_line name key (chosen_tokens r (value_at r.setup r.state tx key))) keys

-- the lines of the transactions, from this one on, in the order of their beginning
abbrev pub tx_lines : ReplayValue → (tx : ℕ) → List NamedValue → List ℕ
tx_lines r tx [] = []
tx_lines r tx (n ∷ ns) =
    fate_line n.name (decided r.state tx) ++ read_lines r tx n.name (keys_of r.names tx) ++ tx_lines r (tx + 1) ns

-- ---- what all committed transactions leave

-- ascending by key
abbrev pub key_lines : State → List ℕ
key_lines st = flat_map key_line (pairs_of (map_of (committed_by_version st)))

-- ---- the whole

abbrev pub report : ReplayValue → List ℕ
report r = tx_lines r 0 r.names.begun ++ key_lines r.state ++ end_line (length r.state.pool)
