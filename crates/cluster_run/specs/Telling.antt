-- What a run tells of itself.
use Rattle.std.specs.Prelude.{ℕ, List, Bool, Option, option_map}
use Rattle.std.specs.Prelude.{option_and_then, find, slice_get}
use Rattle.std.specs.Option.{option_map_or}
use Rattle.std.specs.Str.{bytes_eq}
use Rattle.basil_types.specs.declared.party.Decision.{Decision}
use Rattle.basil_types.specs.Replayed.{by_version}
use Rattle.basil_types.specs.Transaction.{TransactionValue, id}
use Rattle.certificates.specs.Refusals.{decision_of}
use Rattle.client_core.specs.Clients.{ClientValue}
use Rattle.client_core.specs.Slots.{ReadStateValue, NotRead, value}
use Rattle.frame_views.specs.Values.{PairValue}
use Rattle.node_steps.specs.Lists.{firsts}
use Rattle.message_pool.specs.Posts.{next_waiting}
use Rattle.cluster_run.specs.Headline.{committed}
use Rattle.cluster_run.specs.Parts.{Mail}
use Rattle.cluster_run.specs.States.{Setup, Posted, BegunValue, FormedValue, Standing, State}
use Rattle.cluster_run.specs.States.{posted_at, standing, client_at}

-- ---- messages

-- the least number, of these and later ones, of a message that is neither delivered nor lost
abbrev pub undelivered : State → (from : ℕ) → Option ℕ
undelivered st from = next_waiting from st.pool

abbrev pub as_mail : Posted → Mail
as_mail p = record { from = p.from; to = p.to; frame = p.frame }

-- the sender, the receiver and the frame of a message
abbrev pub mail_at : State → (message : ℕ) → Option Mail
mail_at st message = option_map as_mail (posted_at st message)

-- ---- replicas

-- what the clock of a replica of the cluster shows
abbrev pub moment_at : State → (shard index : ℕ) → Option ℕ
moment_at st shard index = option_map (λ (x : Standing). x.moment) (standing st shard index)

-- ---- transactions

abbrev pub formed_at : State → (tx : ℕ) → Option FormedValue
formed_at st tx = option_and_then (λ (b : BegunValue). b.formed) (slice_get st.begun tx)

abbrev pub transaction_at : State → (tx : ℕ) → Option TransactionValue
transaction_at st tx = option_map (λ (f : FormedValue). f.transaction) (formed_at st tx)

abbrev pub value_in_slot : Setup → List ℕ → (slot : ℕ) → ClientValue → ReadStateValue
value_in_slot s key slot c = option_map_or (λ held. value s.cluster held key) (slice_get c.slots slot) NotRead

abbrev pub value_of : Setup → State → List ℕ → (client slot : ℕ) → ReadStateValue
value_of s st key client slot = option_map_or (value_in_slot s key slot) (client_at st client) NotRead

abbrev pub value_by : Setup → State → List ℕ → BegunValue → ReadStateValue
value_by s st key b = option_map_or (value_of s st key b.client) b.slot NotRead

-- what the client of a begun transaction tells of a key; a faulty one tells nothing
abbrev pub value_at : Setup → State → (tx : ℕ) → List ℕ → ReadStateValue
value_at s st tx key = option_map_or (value_by s st key) (slice_get st.begun tx) NotRead

-- ---- certificates

abbrev pub is_pair_of : List ℕ → PairValue → Bool
is_pair_of named p = bytes_eq (id p.transaction) named

-- the decision of the first certificate that was seen of a transaction
abbrev pub decision_at : State → (named : List ℕ) → Option Decision
decision_at st named =
    option_map (λ (p : PairValue). decision_of p.certificate.body) (find (is_pair_of named) st.certified)

abbrev pub same_transaction : TransactionValue → TransactionValue → Bool
same_transaction t u = bytes_eq (id t) (id u)

-- the committed transactions, each once, by version
abbrev pub committed_by_version : State → List TransactionValue
committed_by_version st = by_version (firsts same_transaction (committed st))
