-- Where two ways to one root part, as the code keeps it.
use Rattle.std.specs.Prelude.{◌≡◌, ℕ, zero, suc, List, Option, Some, None, ⊤, if◌then◌else◌}
use Rattle.std.specs.Str.{bytes_eq}
use Rattle.batch_sign.specs.declared.finding.PlaceFault.{PlaceFault}
use Rattle.batch_sign.specs.declared.finding.PlaceFault.TheVariants.{OtherBatch, Collision, NoMemory}
use Rattle.batch_sign.specs.declared.finding.Parted.{Parted}

-- the texts of the nodes at a level; none at that of the leaves
abbrev pub nodes_at : (first second : ℕ → List ℕ) → (level : ℕ) → Option Parted
nodes_at first second zero = None
nodes_at first second (suc level) = Some (record { first = first (suc level); second = second (suc level) })

-- two texts where they differ, else those that differed below
abbrev pub later_of : (first second : List ℕ) → Option Parted → Option Parted
later_of first second last = if bytes_eq first second then last else Some (record { first = first; second = second })

-- these two texts, or want of memory
abbrev pub Shows : (first second : List ℕ) → PlaceFault → Type 0
Shows first second OtherBatch = ⊥
Shows first second (Collision found other) = (found ≡ first) × (other ≡ second)
Shows first second NoMemory = ⊤
