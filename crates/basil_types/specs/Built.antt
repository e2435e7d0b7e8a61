-- Transactions of owned parts: their format, and which fault comes first.
use Rattle.std.specs.Prelude.{ℕ, ◌+◌, List, [], ◌∷◌, Bool, ◌&&◌, not, nat_le, ◌==◌, length}
use Rattle.std.specs.Prelude.{map, if◌then◌else◌, position, Option, Some, None, option_map}
use Rattle.std.specs.List.{list_any}
use Rattle.basil_types.specs.Limits.{longest_key, longest_value, most_clients, most_keys}
use Rattle.basil_types.specs.declared.transaction.parts.ReadPart.{ReadPart}
use Rattle.basil_types.specs.declared.transaction.parts.WritePart.{WritePart}
use Rattle.basil_types.specs.declared.transaction.fault.BuildFault.{BuildFault}
use Rattle.basil_types.specs.declared.transaction.fault.BuildFault.TheVariants.{ClientOut, TooMany, SizeOut, KeyOrder}
use Rattle.basil_types.specs.Texts.{IsBytes, IsVersion, key_below}
use Rattle.basil_types.specs.Transaction.{TransactionValue, key_of_read, key_of_write}

-- 2 exactly where some write deletes
abbrev pub format_of : List WritePart → ℕ
format_of writes = if list_any (λ w. w.deletes) writes then 2 else 1

abbrev pub built : ℕ → ℕ → List ReadPart → List WritePart → TransactionValue
built time client reads writes =
    record { format = format_of writes; time = time; client = client; reads = reads; writes = writes }

abbrev pub key_fits : List ℕ → Bool
key_fits key = nat_le 1 (length key) && nat_le (length key) longest_key

abbrev pub read_fits : ReadPart → Bool
read_fits r = key_fits r.key

-- a deletion has no value
abbrev pub value_fits : WritePart → Bool
value_fits w = if w.deletes then length w.value == 0 else nat_le (length w.value) longest_value

abbrev pub write_fits : WritePart → Bool
write_fits w = key_fits w.key && value_fits w

-- the first place, counted from this one, whose key isn't above the one before it
abbrev pub order_fault_from : ℕ → List ℕ → List (List ℕ) → Option ℕ
order_fault_from place before [] = None
order_fault_from place before (key ∷ keys) =
    if key_below before key then order_fault_from (place + 1) key keys else Some place

abbrev pub order_fault : List (List ℕ) → Option ℕ
order_fault [] = None
order_fault (key ∷ keys) = order_fault_from 1 key keys

-- the first of two
abbrev pub or_else : {A : Type 0} → Option A → Option A → Option A
or_else (Some a) other = Some a
or_else None other = other

-- places count the reads first, and then the writes
abbrev pub size_fault : List ReadPart → List WritePart → Option ℕ
size_fault reads writes =
    or_else (position (λ r. not (read_fits r)) reads)
    (option_map (λ place. length reads + place) (position (λ w. not (write_fits w)) writes))

abbrev pub key_fault : List ReadPart → List WritePart → Option ℕ
key_fault reads writes =
    or_else (order_fault (map key_of_read reads))
    (option_map (λ place. length reads + place) (order_fault (map key_of_write writes)))

abbrev pub build_fault : ℕ → List ReadPart → List WritePart → Option BuildFault
build_fault client reads writes =
    or_else (if nat_le 1 client && nat_le client most_clients then None else Some ClientOut)
    (or_else (if nat_le (length reads) most_keys && nat_le (length writes) most_keys then None else Some TooMany)
    (or_else (option_map SizeOut (size_fault reads writes)) (option_map KeyOrder (key_fault reads writes))))

-- ---- what the types of the parts alone tell

pub record ReadInRange (r : ReadPart) : Type 0 where
  pub key : IsBytes r.key
  pub version : IsVersion r.version

pub record WriteInRange (w : WritePart) : Type 0 where
  pub key : IsBytes w.key
  pub value : IsBytes w.value
