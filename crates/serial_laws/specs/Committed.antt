-- Which transactions of a state are committed, and lists of them.
use Rattle.std.specs.Prelude.{◌≡◌, ◌⊎◌, true, List}
use Rattle.std.specs.List.{Contains}
use Rattle.basil_types.specs.declared.transaction.parts.ReadPart.{ReadPart}
use Rattle.basil_types.specs.Transaction.{TransactionValue, id, version_of}
use Rattle.basil_types.specs.Version.{genesis, below}
use Rattle.agreement_laws.specs.Certificates.{CanCommit}
use Rattle.agreement_laws.specs.Runs.{signed_of}
use Rattle.serial_laws.specs.Bases.{Basis, IsText, IsOfCorrectClient, setting_of}
use Rattle.serial_laws.specs.Runs.{State}

-- it can be committed
pub record IsCommitted (b : Basis) (st : State) (t : TransactionValue) : Type 0 where
  pub text : IsText b t
  pub can : CanCommit (setting_of b) (signed_of st.inner) (id t)

-- a commit certificate of it was shown
pub record IsShown (b : Basis) (st : State) (t : TransactionValue) : Type 0 where
  pub text : IsText b t
  pub shown : st.committed (id t) ≡ true

-- and its version is below that of the first
pub record IsCommittedBelow (b : Basis) (st : State) (t u : TransactionValue) : Type 0 where
  pub is : IsCommitted b st u
  pub below : below (version_of u) (version_of t) ≡ true

pub record IsShownBelow (b : Basis) (st : State) (t u : TransactionValue) : Type 0 where
  pub is : IsShown b st u
  pub below : below (version_of u) (version_of t) ≡ true

-- the read is of a transaction of the list, or of genesis
abbrev pub ReadsWithin : List TransactionValue → ReadPart → Type 0
ReadsWithin ts r = (r.version ≡ genesis) ⊎ ((u : TransactionValue) × Contains ts u × (version_of u ≡ r.version))

-- a list of committed transactions, with what each of a correct client read from
pub record AreClosed (b : Basis) (st : State) (ts : List TransactionValue) : Type 0 where
  pub committed : (t : TransactionValue) → Contains ts t → IsCommitted b st t
  pub closed : (t : TransactionValue) → Contains ts t → IsOfCorrectClient b t →
      (r : ReadPart) → Contains t.reads r → ReadsWithin ts r

-- a list of all that have had a commit certificate shown
pub record AreShown (b : Basis) (st : State) (ts : List TransactionValue) : Type 0 where
  pub only : (t : TransactionValue) → Contains ts t → IsShown b st t
  pub every : (t : TransactionValue) → IsShown b st t → Contains ts t
