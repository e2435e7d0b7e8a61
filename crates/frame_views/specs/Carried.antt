-- The transactions that a message carries, and its pairs of a transaction and a certificate, in the order of the bytes.
use Rattle.std.specs.Prelude.{List, [], ◌∷◌, ◌++◌, map, Option, Some, None}
use Rattle.basil_types.specs.Transaction.{TransactionValue}
use Rattle.frame_views.specs.Values.{BodyValue, Commits, FastAbort, ConflictAbort, CommittedValue, PairValue}
use Rattle.frame_views.specs.Values.{as_certificate}
use Rattle.frame_views.specs.Values.{MessageValue, Read, ReadReply, St1, Vote, St2, LogReply, Writeback, Recover}
use Rattle.frame_views.specs.Values.{Invoke, Elect, Decide}

-- ---- pairs

-- the rival that a conflict abort names, with its commit certificate
abbrev pub rival_in : BodyValue → List PairValue
rival_in (Commits body) = []
rival_in (FastAbort tally) = []
rival_in (ConflictAbort conflict) =
    record { transaction = conflict.other; certificate = as_certificate conflict.proof } ∷ []

-- a pair, and the one inside of its certificate
abbrev pub pairs_from : PairValue → List PairValue
pairs_from p = p ∷ rival_in p.certificate.body

abbrev pub committed_pairs : Option CommittedValue → List PairValue
committed_pairs None = []
committed_pairs (Some part) = pairs_from part

-- every pair of a message, nested ones too
abbrev pub pairs_in : MessageValue → List PairValue
pairs_in (Read m) = []
pairs_in (ReadReply m) = committed_pairs m.committed
pairs_in (St1 m) = []
pairs_in (Vote m) = committed_pairs m.proof
pairs_in (St2 m) = []
pairs_in (LogReply m) = []
pairs_in (Writeback m) = pairs_from (record { transaction = m.transaction; certificate = m.certificate })
pairs_in (Recover m) = []
pairs_in (Invoke m) = []
pairs_in (Elect m) = []
pairs_in (Decide m) = []

-- ---- transactions

-- the transaction that stands in a message without a certificate: behind the pairs, if there are any
abbrev pub bare_in : MessageValue → Option TransactionValue
bare_in (Read m) = None
bare_in (ReadReply m) = m.prepared
bare_in (St1 m) = Some m.transaction
bare_in (Vote m) = None
bare_in (St2 m) = Some m.transaction
bare_in (LogReply m) = None
bare_in (Writeback m) = None
bare_in (Recover m) = Some m.transaction
bare_in (Invoke m) = None
bare_in (Elect m) = Some m.transaction
bare_in (Decide m) = Some m.transaction

abbrev pub paired : PairValue → TransactionValue
paired p = p.transaction

-- one, or none
abbrev pub maybe_one : {A : Type 0} → Option A → List A
maybe_one None = []
maybe_one (Some a) = a ∷ []

-- every transaction of a message, nested ones too
abbrev pub transactions_in : MessageValue → List TransactionValue
transactions_in m = map paired (pairs_in m) ++ maybe_one (bare_in m)
