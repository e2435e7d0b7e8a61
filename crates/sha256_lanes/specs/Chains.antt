-- Hash chains: each value is the hash of the one before it, with the chain's number and the place (RFC 8554, section
-- 4.3).
use Rattle.std.specs.Prelude.{ℕ, zero, suc, ◌+◌, ◌-◌, List, [], ◌∷◌, ◌++◌, slice_index_or}
use Rattle.std.specs.Int.{w16, w32, to_be_bytes}
use Rattle.sha2.specs.Sha256.{sha256}
use Rattle.sha256_lanes.specs.declared.lanes.Lane.{Lane}

-- I ‖ u32 q, with which each message of a leaf begins
abbrev pub head_of : List ℕ → ℕ → List ℕ
head_of ident q = ident ++ to_be_bytes w32 q

-- the message of chain i's step at place j, 55 bytes after a head of 20 bytes
abbrev pub message_of : List ℕ → ℕ → ℕ → List ℕ → List ℕ
message_of head i j tmp = head ++ to_be_bytes w16 i ++ j ∷ [] ++ tmp

-- the step of chain i at place j
unfoldable pub step_of : List ℕ → ℕ → ℕ → List ℕ → List ℕ
step_of head i j tmp = sha256 (message_of head i j tmp)

-- the first n steps of chain i from a place on
unfoldable pub steps : List ℕ → ℕ → ℕ → ℕ → List ℕ → List ℕ
steps head i from zero tmp = tmp
steps head i from (suc n) tmp = step_of head i (from + n) (steps head i from n tmp)

-- chain i from one place to another
abbrev pub chain : List ℕ → ℕ → ℕ → ℕ → List ℕ → List ℕ
chain head i from to tmp = steps head i from (to - from) tmp

-- the value in which a lane's chain ends
abbrev pub end_of_lane : List ℕ → Lane → List ℕ
end_of_lane head lane = chain head lane.chain lane.place lane.last lane.value

-- what a lane hashes in its next step
abbrev pub message_of_lane : List ℕ → Lane → List ℕ
message_of_lane head lane = message_of head lane.chain lane.place lane.value

-- a lane that has no step to go
abbrev pub idle : Lane
idle = record { chain = 0; place = 0; last = 0; value = [] }

-- lane k
abbrev pub lane_of : List Lane → ℕ → Lane
lane_of lanes k = slice_index_or lanes k idle
