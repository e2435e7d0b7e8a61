-- What faulty parties sign and send in a world.
use Rattle.std.specs.Prelude.{◌≡◌, ◌<◌, ◌≤◌, ℕ, true, false, length, map, None, Some, Result, Ok, Err, ⊤}
use Rattle.basil_types.specs.Built.{built}
use Rattle.basil_types.specs.declared.party.Party.{Party}
use Rattle.basil_types.specs.Limits.{signature_limit}
use Rattle.basil_types.specs.Transaction.{TransactionValue}
use Rattle.basil_types.specs.Words.{SignedWords}
use Rattle.cluster_run.specs.declared.fault.WorldFault.{WorldFault}
use Rattle.cluster_run.specs.declared.fault.WorldFault.TheVariants as worlds
use Rattle.cluster_run.specs.Faulty.{after_lie, faulty_signature, has_left}
use Rattle.cluster_run.specs.Parts.{enter, mail_of}
use Rattle.cluster_run.specs.States.{BegunValue, Setup, State, is_faulty}
use Rattle.faulty_parties.specs.declared.pens.Pens.{Pens}
use Rattle.faulty_parties.specs.Pens.{left_in, size_in}
use Rattle.faulty_parties.specs.Unsaid.{Unsaid}
use Rattle.keyring.specs.declared.signer.Signer as signers
use Rattle.run_begun.specs.Adding.{forming_fault}
use Rattle.txn_meta.specs.Form.{is_empty}
use Rattle.cluster_world.specs.declared.fault.StepFault.{StepFault}
use Rattle.cluster_world.specs.declared.fault.StepFault.TheVariants as faults

-- a party's pen has a signature left, of so many bytes
pub record HasSignature {S : Type 0} (g : signers.Ghosts S) (pens : Pens S) (p : Party) (bytes : ℕ) : Type 0 where
  pub left : 0 < left_in g pens p
  pub size : bytes ≡ size_in g pens p
  pub some : 1 ≤ bytes
  pub short : bytes ≤ signature_limit

-- in a run it is faulty, and its next signature has so many bytes
pub record CanSay (s : Setup) (st : State) (p : Party) (bytes : ℕ) : Type 0 where
  pub faulty : is_faulty s p ≡ true
  pub left : has_left s st p ≡ true
  pub size : (words : SignedWords) → length (faulty_signature s st p words) ≡ bytes

abbrev pub exhausted : Party → StepFault
exhausted p = faults.World (worlds.Exhausted p)

-- that is so, or it is exhausted
abbrev pub CanLie : Setup → State → Party → Result ℕ StepFault → Type 0
CanLie s st p (Ok bytes) = CanSay s st p bytes
CanLie s st p (Err fault) = (fault ≡ exhausted p) × (has_left s st p ≡ false)

-- a party signs, and what it sends with that signature enters the pool
abbrev pub says_as : Setup → Party → Unsaid → State → Result State WorldFault
says_as s p u st = enter s (map (mail_of p) (u.sent (faulty_signature s st p u.words))) (after_lie st p u.words)

abbrev pub says : Setup → Unsaid → State → Result State WorldFault
says s u st = says_as s u.party u st

-- ---- first stages

-- a faulty client's reads and writes
abbrev pub built_of : BegunValue → TransactionValue
built_of b = built b.time b.client b.reads b.writes

-- it can form this transaction of them
pub record IsFormed (b : BegunValue) (t : TransactionValue) : Type 0 where
  pub can : forming_fault b ≡ None
  pub is : t ≡ built_of b
  pub some : is_empty t ≡ false

-- it can't, by the fault of a call; or memory is wanting
abbrev pub CantForm : BegunValue → StepFault → Type 0
CantForm b (faults.World (worlds.Call fault)) = forming_fault b ≡ Some fault
CantForm b (faults.World (worlds.Broken broken)) = ⊥
CantForm b (faults.World (worlds.PoolFull messages bytes)) = ⊥
CantForm b (faults.World (worlds.Exhausted p)) = ⊥
CantForm b faults.NoMemory = ⊤
