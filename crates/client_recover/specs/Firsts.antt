-- The earliest log replies of replicas, and how many replicas have one.
use Rattle.std.specs.Prelude.{◌≡◌, ℕ, Bool, ◌&&◌, ◌==◌, List, Option, filter_map, length}
use Rattle.std.specs.Prelude.{if◌then◌else◌}
use Rattle.std.specs.Bool.{beq}
use Rattle.std.specs.List.{range_with_len}
use Rattle.std.specs.Map.{lookup}
use Rattle.std.specs.Option.{option_map_or}
use Rattle.frame_values.specs.declared.owned.parts.LogPart.{LogPart}

-- whether it is a commit, the view in which that was decided, and the replica
abbrev pub Key : Type 0
Key = Bool × ℕ × ℕ

abbrev pub same_key : Key → Key → Bool
same_key k l = (beq k.0 l.0 && (k.1 == l.1)) && (k.2 == l.2)

-- the same without the replica
abbrev pub Logged : Type 0
Logged = Bool × ℕ

abbrev pub same_logged : Logged → Logged → Bool
same_logged k l = beq k.0 l.0 && (k.1 == l.1)

abbrev pub Parts : Type 0
Parts = List (Key × LogPart)

abbrev pub part_at : Parts → Logged → (replica : ℕ) → Option LogPart
part_at parts p replica = lookup (same_key (p.0, p.1, replica)) parts

-- of how many replicas there is one; a replica's number is a byte
abbrev pub number_of : Parts → Logged → ℕ
number_of parts p = length (filter_map (part_at parts p) (range_with_len 0 256))

abbrev pub count_in : List (Logged × ℕ) → Logged → ℕ
count_in counts p = option_map_or (λ (n : ℕ). n) (lookup (same_logged p) counts) 0

-- these are their numbers
abbrev pub CountsParts : Parts → List (Logged × ℕ) → Type 0
CountsParts parts counts = (p : Logged) → count_in counts p ≡ number_of parts p

-- this is the one of its key, and the others are as they were
abbrev pub IsSet : (old new : Parts) → Key → Option LogPart → Type 0
IsSet old new key part =
    (k : Key) → lookup (same_key k) new ≡ (if same_key key k then part else lookup (same_key k) old)

abbrev pub IsSame : (old new : Parts) → Type 0
IsSame old new = (k : Key) → lookup (same_key k) new ≡ lookup (same_key k) old
