-- What the argument for agreement speaks of, made from a cluster and a look-up of transactions by id.
use Rattle.std.specs.Prelude.{◌≡◌, ℕ, List, Bool, false, Option, Some, None, filter_map}
use Rattle.basil_types.specs.Setting.{Setting}
use Rattle.basil_types.specs.Transaction.{TransactionValue, id}
use Rattle.basil_types.specs.Words.{SignedWords, TransactionWords, VoteWords, ReadReplyWords}
use Rattle.basil_types.specs.Words.{LogReplyWords, ElectionWords, ProposalWords}
use Rattle.agreement_laws.specs.Words as laws
use Rattle.agreement_laws.specs.Settings as settings
use Rattle.law_joins.specs.Shown.{decision_of as decision_as}
use Rattle.serial_laws.specs.Bases.{Basis, setting_of}

-- the transaction of each id
abbrev pub Lookup : Type 0
Lookup = List ℕ → TransactionValue

-- it has this transaction under its id
abbrev pub Finds : Lookup → TransactionValue → Type 0
Finds tx t = tx (id t) ≡ t

-- agreement asks nothing of clients
abbrev pub basis_of : Setting → (shard-replica : ℕ → ℕ → Bool) → Lookup → Basis
basis_of c faulty tx = record { numbers = c; faulty = faulty; faulty_client = λ _. false; text = tx }

abbrev pub setting : Setting → (shard-replica : ℕ → ℕ → Bool) → Lookup → settings.Setting
setting c faulty tx = setting_of (basis_of c faulty tx)

-- ---- words

-- the words on transactions; a client's and a read reply are none
abbrev pub word_as : SignedWords → Option laws.Word
word_as (TransactionWords id) = None
word_as (VoteWords v) = Some (laws.Vote v.shard v.replica v.id (decision_as v.decision))
word_as (ReadReplyWords r) = None
word_as (LogReplyWords r) = Some (laws.LogReply r.shard r.replica r.id (decision_as r.decision) r.decided r.current)
word_as (ElectionWords w) = Some (laws.Election w.shard w.replica w.id (decision_as w.decision) w.view)
word_as (ProposalWords w) = Some (laws.Proposal w.shard w.replica w.id (decision_as w.decision) w.view)

abbrev pub words_as : List SignedWords → List laws.Word
words_as signed = filter_map word_as signed
