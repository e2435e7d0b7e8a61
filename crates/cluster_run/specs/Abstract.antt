-- A run's state as the argument for agreement sees it.
use Rattle.std.specs.Prelude.{ℕ, Bool, ◌&&◌, cond, List, [], Option, Some, None, filter_map, find}
use Rattle.std.specs.List.{list_any}
use Rattle.std.specs.Option.{option_map_or}
use Rattle.std.specs.Str.{bytes_eq}
use Rattle.basil_types.specs.declared.party.Party.{Party}
use Rattle.basil_types.specs.declared.party.Party.TheVariants.{Replica}
use Rattle.basil_types.specs.declared.party.Decision.TheVariants.{Abort}
use Rattle.basil_types.specs.Transaction.{TransactionValue, id}
use Rattle.basil_types.specs.Words.{SignedWords}
use Rattle.frame_views.specs.Values.{PairValue}
use Rattle.node_steps.specs.Pens.{PenValue}
use Rattle.premise_watch.specs.Breaches.{NotedWords}
use Rattle.replica_core.specs.Replicas.{BookValue, empty_book}
use Rattle.txn_table.specs.Entries.{same_party}
use Rattle.agreement_laws.specs.Words as laws
use Rattle.agreement_laws.specs.Settings as settings
use Rattle.agreement_laws.specs.Runs as runs
use Rattle.cluster_run.specs.Acting.{node}
use Rattle.cluster_run.specs.Headline.{proves}
use Rattle.cluster_run.specs.Settings.{Lookup, setting}
use Rattle.cluster_run.specs.States.{Setup, is_faulty, Standing, standing, State}

-- ---- what each replica signed, and its book

abbrev pub words_by : Party → NotedWords → Option SignedWords
words_by p n = cond (same_party p n.party) (Some n.words) None

abbrev pub signed_by : List NotedWords → Party → List SignedWords
signed_by signed p = filter_map (words_by p) signed

abbrev pub no_pen : PenValue
no_pen = record { spent = 0; left = 0 }

-- a place without a replica has an empty book
abbrev pub book_of : Option Standing → BookValue
book_of None = empty_book no_pen
book_of (Some x) = x.book

abbrev pub book_at : State → (shard index : ℕ) → BookValue
book_at st shard index = book_of (standing st shard index)

-- ---- the abstract state

abbrev pub node_at : State → (shard index : ℕ) → runs.Node
node_at st shard index = node (signed_by st.watch.signed (Replica shard index)) (book_at st shard index)

abbrev pub aborts : laws.Id → PairValue → Bool
aborts x p = bytes_eq x (id p.transaction) && proves Abort p

-- whether an abort certificate of a transaction was seen
abbrev pub aborted_in : State → laws.Id → Bool
aborted_in st x = list_any (aborts x) st.certified

abbrev pub abstract_state : State → runs.State
abstract_state st = record { nodes = node_at st; aborted = aborted_in st }

-- ---- the setting: the cluster, its faulty replicas, and the transactions that were seen

abbrev pub has_id : List ℕ → TransactionValue → Bool
has_id x t = bytes_eq (id t) x

abbrev pub no_transaction : TransactionValue
no_transaction = record { format = 1; time = 0; client = 0; reads = []; writes = [] }

-- the first text with an id; where there is none, the transaction that reads and writes nothing
abbrev pub first_text : List TransactionValue → Lookup
first_text texts x = option_map_or (λ (t : TransactionValue). t) (find (has_id x) texts) no_transaction

-- the transactions that were seen, by id
abbrev pub seen_lookup : State → Lookup
seen_lookup st = first_text st.watch.texts

abbrev pub faulty_replica : Setup → (shard index : ℕ) → Bool
faulty_replica s shard index = is_faulty s (Replica shard index)

-- with the transactions of a look-up
abbrev pub setting_with : Setup → Lookup → settings.Setting
setting_with s tx = setting s.cluster (faulty_replica s) tx

-- with those that were seen
abbrev pub abstract_setting : Setup → State → settings.Setting
abstract_setting s st = setting_with s (seen_lookup st)
