-- The names of transactions.
use Rattle.std.specs.Prelude.{ℕ, List, [], ◌∷◌, ◌++◌, Bool, false, Option, find}
use Rattle.std.specs.Prelude.{option_and_then, is_some, position, slice_get, slice_set}
use Rattle.std.specs.BTreeSet.{insert_key}
use Rattle.std.specs.Cmp.Lexicographic.{slice_cmp}
use Rattle.std.specs.Option.{option_map_or}
use Rattle.std.specs.Ordering.{nat_cmp}
use Rattle.std.specs.Str.{bytes_eq}
use Rattle.basil_types.specs.Transaction.{TransactionValue}
use Rattle.basil_types.specs.declared.party.Party.TheVariants.{Client}
use Rattle.cluster_run.specs.States.{is_faulty}
use Rattle.cluster_run.specs.Telling.{transaction_at}
use Rattle.schedule_replay.specs.Replays.{NamedValue, NamesValue, ReplayValue}

abbrev pub is_named : List ℕ → NamedValue → Bool
is_named name n = bytes_eq name n.name

-- the number of the transaction that this name began
abbrev pub number_of : List ℕ → NamesValue → Option ℕ
number_of name names = position (is_named name) names.begun

abbrev pub is_begun : NamesValue → List ℕ → Bool
is_begun names name = is_some (number_of name names)

-- the transaction that was formed under this name
abbrev pub formed_as : ReplayValue → List ℕ → Option TransactionValue
formed_as r name = option_and_then (transaction_at r.state) (number_of name r.names)

abbrev pub is_formed : ReplayValue → List ℕ → Bool
is_formed r name = is_some (formed_as r name)

abbrev pub is_of_faulty : ReplayValue → NamedValue → Bool
is_of_faulty r n = is_faulty r.setup (Client n.client)

-- whether the client of the transaction of this name is faulty
abbrev pub is_by_faulty : ReplayValue → List ℕ → Bool
is_by_faulty r name = option_map_or (is_of_faulty r) (find (is_named name) r.names.begun) false

-- ---- what lines add

-- a transaction begins
abbrev pub with_name : (name : List ℕ) → (client : ℕ) → NamesValue → NamesValue
with_name name client names = record {
  begun = names.begun ++ record { name = name; client = client } ∷ [];
  keys = names.keys ++ [] ∷ [];
}

-- the keys that a transaction was to read
abbrev pub keys_of : NamesValue → (tx : ℕ) → List (List ℕ)
keys_of names tx = option_map_or (λ (keys : List (List ℕ)). keys) (slice_get names.keys tx) []

abbrev pub add_key : (key : List ℕ) → (tx : ℕ) → NamesValue → NamesValue
add_key key tx names =
    record names { keys = slice_set names.keys tx (insert_key (slice_cmp nat_cmp) (keys_of names tx) key) }

-- it reads a key
abbrev pub with_key : (name key : List ℕ) → NamesValue → NamesValue
with_key name key names = option_map_or (λ tx. add_key key tx names) (number_of name names) names
