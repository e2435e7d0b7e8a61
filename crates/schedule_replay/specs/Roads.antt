-- How frames get to the nodes that are handed them.
use Rattle.std.specs.Prelude.{◌≡◌, ℕ, ◌++◌, List, [], ◌∷◌, Bool, true, false, Option, option_map}
use Rattle.basil_types.specs.Causes.{Rose}
use Rattle.basil_types.specs.Links.{LinkState, first_of, behind_first}

pub data Road : Type 0 where
  -- a node is handed a message's own bytes
  Direct : Road
  -- a node is handed what links give for them: these are still to come, one for each delivery
  Carried : (coming : List (List ℕ)) → Road

-- what the next delivery of these bytes hands over
abbrev pub handed : Road → (frame : List ℕ) → List ℕ
handed Direct frame = frame
handed (Carried coming) frame = first_of coming

-- the road behind that delivery
abbrev pub behind_one : Road → Road
behind_one Direct = Direct
behind_one (Carried coming) = Carried (behind_first coming)

-- ---- the calls of links

-- links are used exactly where deliveries are carried; these are what they give
abbrev pub road_with : (carried : Bool) → (coming : List (List ℕ)) → Road
road_with false coming = Direct
road_with true coming = Carried coming

-- links gave these, one after another
abbrev pub carries_all : List (List ℕ) → LinkState → LinkState
carries_all gave s = record s { carried = s.carried ++ gave }

-- what one delivery has links give
abbrev pub gift : (carried : Bool) → (given : List ℕ) → List (List ℕ)
gift false given = []
gift true given = given ∷ []

-- deliveries of a call are carried exactly where it says so: its links gave these, and did nothing else, and by a road
-- that begins with them it comes to what it should
pub record Carries (carried : Bool) (old new : Option LinkState)
    (Should : (gave : List (List ℕ)) → Type 0) : Type 0 where
  pub gave : List (List ℕ)
  pub told : new ≡ option_map (carries_all gave) old
  pub own : carried ≡ false → gave ≡ []
  pub should : Should gave

-- links are used only where deliveries are carried, and their count of faults rises exactly where the call failed by
-- them
pub record Uses {L : Type 0} (carried : Bool) (old new : L) (before now : ℕ) (failed : Bool) : Type 0 where
  pub unused : carried ≡ false → new ≡ old
  pub carries : failed ≡ true → carried ≡ true
  pub cause : failed ≡ true → Rose before now
  pub kept : failed ≡ false → now ≡ before
