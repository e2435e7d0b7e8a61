-- Chains that go side by side, each in a lane of its own.
use Rattle.std.specs.Prelude.{◌≡◌, ℕ, ◌+◌, ◌-◌, ◌<◌, List, [], slice_index_or}
use Rattle.sha256_lanes.specs.declared.lanes.Lane.{Lane}
use Rattle.sha256_lanes.specs.Chains as chains
use Rattle.sha256_lanes.specs.Chains.{lane_of}
use Rattle.lms_ots.specs.Chains.{Leaf, head}

-- the steps that a lane has still to go
abbrev pub steps_left : Lane → ℕ
steps_left lane = lane.last - lane.place

-- the value in which a lane's chain ends
abbrev pub end_of_lane : Leaf → Lane → List ℕ
end_of_lane leaf lane = chains.end_of_lane (head leaf) lane

-- lane i runs chain i
abbrev pub IsNumbered : List Lane → Type 0
IsNumbered lanes = (i : ℕ) → i < 72 → (lane_of lanes i).chain ≡ i

-- the ends of the eight lanes from one on
abbrev pub HoldsEnds : Leaf → List Lane → ℕ → List (List ℕ) → Type 0
HoldsEnds leaf lanes first ends =
    (k : ℕ) → k < 8 → slice_index_or ends k [] ≡ end_of_lane leaf (lane_of lanes (first + k))

-- the first n lanes end in y
abbrev pub LeadTo : (ℕ → List ℕ) → Leaf → List Lane → ℕ → Type 0
LeadTo y leaf lanes n = (i : ℕ) → i < n → end_of_lane leaf (lane_of lanes i) ≡ y i

-- the end at place i of a table
abbrev pub end_in : List (List ℕ) → ℕ → List ℕ
end_in ends i = slice_index_or ends i []
