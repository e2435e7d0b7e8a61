-- The execution of transactions one after another, and what it serves their reads.
use Rattle.std.specs.Prelude.{◌≡◌, List, [], ◌∷◌}
use Rattle.std.specs.List.{Contains}
use Rattle.basil_types.specs.declared.transaction.parts.ReadPart.{ReadPart}
use Rattle.basil_types.specs.Latest.{at}
use Rattle.basil_types.specs.Replayed.{Replayed, put_writes}
use Rattle.basil_types.specs.Transaction.{TransactionValue, id, version_of}
use Rattle.serial_laws.specs.Bases.{Basis, IsOfCorrectClient}
use Rattle.serial_laws.specs.Reads.{version_found}
use Rattle.serial_laws.specs.Runs.{State}

-- the read finds in the map what the transaction's client was given, at the version that the transaction names
pub record ReadsFrom (b : Basis) (st : State) (map : Replayed) (t : TransactionValue) (r : ReadPart) : Type 0 where
  pub found : at map r.key ≡ st.given (id t) r.key
  pub version : r.version ≡ version_found (at map r.key)

-- where its client is correct, each read of the transaction does so
abbrev pub IsServed : Basis → State → Replayed → TransactionValue → Type 0
IsServed b st map t = IsOfCorrectClient b t → (r : ReadPart) → Contains t.reads r → ReadsFrom b st map t r

-- the transactions run one after another, each on the map that those before it left
abbrev pub AreServed : Basis → State → Replayed → List TransactionValue → Type 0
AreServed b st map [] = Unit {0}
AreServed b st map (t ∷ ts) = IsServed b st map t × AreServed b st (put_writes (version_of t) map t.writes) ts
