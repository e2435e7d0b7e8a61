-- Where faults lie in the bytes, and the transaction that begins at an offset.
use Rattle.std.specs.Prelude.{ℕ, ◌-◌, List, length, drop, Result, Ok, Err}
use Rattle.basil_types.specs.declared.reading.Fault.{Fault}
use Rattle.basil_types.specs.declared.reading.Fault.TheVariants as left_at
use Rattle.basil_types.specs.declared.transaction.fault.PartFault.{PartFault}
use Rattle.basil_types.specs.declared.transaction.fault.PartFault.TheVariants as offset
use Rattle.basil_types.specs.Transaction.{TransactionValue}
use Rattle.basil_types.specs.Parsed.{transaction_at}

-- the offset, in len bytes, of the field at whose beginning left bytes are left
abbrev pub placed : ℕ → Fault → PartFault
placed len (left_at.Short left) = offset.Short (len - left)
placed len (left_at.Range left) = offset.Range (len - left)
placed len (left_at.Order left) = offset.Order (len - left)

abbrev pub at_offset : {A : Type 0} → ℕ → Result (A × List ℕ) Fault → Result A PartFault
at_offset len (Ok x) = Ok x.0
at_offset len (Err f) = Err (placed len f)

-- the transaction that begins at this offset, whatever follows it, or the first fault
unfoldable pub transaction_from : ℕ → List ℕ → Result TransactionValue PartFault
transaction_from start bytes = at_offset (length bytes) (transaction_at (drop start bytes))
