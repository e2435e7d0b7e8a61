-- The file as a value of JSON: one object with exactly its members, in any order. An object has exactly the named
-- members where it has as many as there are names, and each name stands there: so none is missing, unknown or twice.
use Rattle.std.specs.Prelude.{ℕ, ◌==◌, List, [], ◌∷◌, if◌then◌else◌, codes, bytes_eq}
use Rattle.std.specs.Prelude.{Option, Some, None, option_and_then}
use Rattle.json.specs.Json.{Json}
use Rattle.lms_sign.specs.declared.sets.LmsSet.{LmsSet}
use Rattle.lms_sign.specs.declared.sets.LmsSet.TheVariants.{W4H5, W4H10, W8H5, W8H10}
use Rattle.cluster_file.specs.Values.{ReplicaValue, ClientValue, HeadValue, FileValue}
use Rattle.cluster_file.specs.Members.{member_count, whole, text, list}

-- what follows, where there is a value
infixl 10 ◌>>=◌
abbrev pub ◌>>=◌ : {A B : Type 0} → Option A → (A → Option B) → Option B
o >>= f = option_and_then f o

abbrev pub cons_option : {A : Type 0} → Option A → Option (List A) → Option (List A)
cons_option first rest = do
  x ← first
  xs ← rest
  Some (x ∷ xs)

-- what each of a list is, where each is something
abbrev pub each : {A B : Type 0} → (A → Option B) → List A → Option (List B)
each f [] = Some []
each f (x ∷ xs) = cons_option (f x) (each f xs)

-- a parameter set by its name
abbrev pub set_named : List ℕ → Option LmsSet
set_named name =
    if bytes_eq name (codes "w4h5") then Some W4H5
    else if bytes_eq name (codes "w4h10") then Some W4H10
    else if bytes_eq name (codes "w8h5") then Some W8H5
    else if bytes_eq name (codes "w8h10") then Some W8H10
    else None

abbrev pub replica_made : ℕ → ℕ → List ℕ → List ℕ → ReplicaValue
replica_made shard index address public = record { shard = shard; index = index; address = address; public = public }

abbrev pub replica_of : Json → Option ReplicaValue
replica_of j = do
  shard ← whole (codes "shard") j
  index ← whole (codes "index") j
  address ← text (codes "address") j
  public ← text (codes "public") j
  Some (replica_made shard index address public)

abbrev pub replica_in : Json → Option ReplicaValue
replica_in j = if member_count j == 4 then replica_of j else None

abbrev pub client_made : ℕ → List ℕ → ClientValue
client_made number public = record { number = number; public = public }

abbrev pub client_of : Json → Option ClientValue
client_of j = do
  number ← whole (codes "number") j
  public ← text (codes "public") j
  Some (client_made number public)

abbrev pub client_in : Json → Option ClientValue
client_in j = if member_count j == 2 then client_of j else None

abbrev pub head_made : ℕ → ℕ → ℕ → ℕ → LmsSet → HeadValue
head_made f shards reads delta set = record { f = f; shards = shards; reads = reads; delta = delta; set = set }

abbrev pub head_of : Json → Option HeadValue
head_of j = do
  f ← whole (codes "f") j
  shards ← whole (codes "shards") j
  reads ← whole (codes "reads") j
  delta ← whole (codes "delta") j
  name ← text (codes "set") j
  set ← set_named name
  Some (head_made f shards reads delta set)

abbrev pub file_made : HeadValue → List ReplicaValue → List ClientValue → FileValue
file_made head replicas clients = record { head = head; replicas = replicas; clients = clients }

abbrev pub file_of : Json → Option FileValue
file_of j = do
  head ← head_of j
  replica_items ← list (codes "replicas") j
  replicas ← each replica_in replica_items
  client_items ← list (codes "clients") j
  clients ← each client_in client_items
  Some (file_made head replicas clients)

abbrev pub file_in : Json → Option FileValue
file_in j = if member_count j == 7 then file_of j else None
