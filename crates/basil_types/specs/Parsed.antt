-- A transaction read from left to right.
use Rattle.std.specs.Prelude.{ℕ, List, [], Result, Ok, Err, ◌==◌, not, Bool, true, if◌then◌else◌}
use Rattle.std.specs.Int.{w64}
use Rattle.basil_types.specs.declared.reading.Fault.{Fault}
use Rattle.basil_types.specs.declared.transaction.parts.ReadPart.{ReadPart}
use Rattle.basil_types.specs.declared.transaction.parts.WritePart.{WritePart}
use Rattle.basil_types.specs.Steps.{◌>>=◌}
use Rattle.basil_types.specs.Lists.{items_at, is_whole}
use Rattle.basil_types.specs.Reading.{between, flag_at, number_at, next_key_at, value_at, version_at}
use Rattle.basil_types.specs.Transaction.{TransactionValue, key_of_read, key_of_write}

-- the numbers before the lists
pub record Head : Type 0 where
  pub format : ℕ
  pub time : ℕ
  pub client : ℕ

unfoldable pub head_at : List ℕ → Result (Head × List ℕ) Fault
head_at bytes = do
  format ← between 1 3 bytes
  time ← number_at w64 format.1
  client ← between 1 17 time.1
  Ok (record { format = format.0; time = time.0; client = client.0 }, client.1)

unfoldable pub read_at : List ℕ → List ℕ → Result (ReadPart × List ℕ) Fault
read_at before bytes = do
  key ← next_key_at before bytes
  version ← version_at key.1
  flag ← flag_at version.1
  Ok (record { key = key.0; version = version.0; dependency = flag.0 }, flag.1)

-- in format 2 a flag tells whether there is a value
unfoldable pub gives_at : ℕ → List ℕ → Result (Bool × List ℕ) Fault
gives_at format bytes = if format == 1 then Ok (true, bytes) else flag_at bytes

unfoldable pub given_at : Bool → List ℕ → Result (List ℕ × List ℕ) Fault
given_at gives bytes = if gives then value_at bytes else Ok ([], bytes)

unfoldable pub write_at : ℕ → List ℕ → List ℕ → Result (WritePart × List ℕ) Fault
write_at format before bytes = do
  key ← next_key_at before bytes
  gives ← gives_at format key.1
  value ← given_at gives.0 gives.1
  Ok (record { key = key.0; value = value.0; deletes = not gives.0 }, value.1)

-- at most 32 reads behind their number
unfoldable pub reads_at : List ℕ → Result (List ReadPart × List ℕ) Fault
reads_at bytes = do
  count ← between 0 33 bytes
  items_at read_at key_of_read count.0 [] count.1

-- at most 32 writes behind their number
unfoldable pub writes_at : ℕ → List ℕ → Result (List WritePart × List ℕ) Fault
writes_at format bytes = do
  count ← between 0 33 bytes
  items_at (write_at format) key_of_write count.0 [] count.1

-- the format, and the bytes from the number of writes on
unfoldable pub before_writes_at : List ℕ → Result (ℕ × List ℕ) Fault
before_writes_at bytes = do
  head ← head_at bytes
  reads ← reads_at head.1
  Ok (head.0.format, reads.1)

unfoldable pub transaction_at : List ℕ → Result (TransactionValue × List ℕ) Fault
transaction_at bytes = do
  head ← head_at bytes
  reads ← reads_at head.1
  writes ← writes_at head.0.format reads.1
  Ok (
    record { format = head.0.format; time = head.0.time; client = head.0.client; reads = reads.0; writes = writes.0 },
    writes.1,
  )

abbrev pub read_value : Result (TransactionValue × List ℕ) Fault → TransactionValue
read_value (Ok x) = x.0
read_value (Err e) = record { format = 0; time = 0; client = 0; reads = []; writes = [] }

-- the transaction that bytes spell
abbrev pub transaction_in : List ℕ → TransactionValue
transaction_in bytes = read_value (transaction_at bytes)

-- these bytes, whole, spell a transaction
abbrev pub spells_transaction : List ℕ → Bool
spells_transaction bytes = is_whole (transaction_at bytes)
