-- What a disk gives, what it did, and what a stop may leave of it.
use Rattle.std.specs.Prelude.{◌≡◌, ℕ, ◌+◌, ◌-◌, ◌<◌, ◌≤◌, ◌⊎◌, ◌++◌, min, ⊤}
use Rattle.std.specs.Prelude.{List, [], ◌∷◌, length, get_or, take, slice_range, Option, Some, None}

-- it wrote so many bytes at a place, or some of them; or it came to keep what its reads give
pub data Change : Type 0 where
  Wrote : (at count : ℕ) → Change
  Kept : (contents : List ℕ) → Change

-- what its reads give, and what it did, latest first
pub record DiskState : Type 0 where
  pub contents : List ℕ
  pub past : List Change

-- what it kept last
abbrev pub kept : List Change → List ℕ
kept [] = []
kept (Wrote at count ∷ past) = kept past
kept (Kept contents ∷ past) = contents

-- the place lies outside of so many bytes at a place
abbrev pub IsOutside : (at count place : ℕ) → Type 0
IsOutside at count place = (place < at) ⊎ (at + count ≤ place)

-- nothing was written there since it last kept what its reads give
abbrev pub IsUntouched : List Change → ℕ → Type 0
IsUntouched [] place = ⊤
IsUntouched (Wrote at count ∷ past) place = IsOutside at count place × IsUntouched past place
IsUntouched (Kept contents ∷ past) place = ⊤

-- what it kept last stays wherever nothing was written since; all else may be anything
pub record IsTorn (past : List Change) (left : List ℕ) : Type 0 where
  pub as_long : length (kept past) ≤ length left
  pub stays : (place : ℕ) → place < length (kept past) → IsUntouched past place →
      get_or left place 0 ≡ get_or (kept past) place 0

-- a stop may leave this: what was kept, where nothing was written since
abbrev pub MayLeave : List Change → List ℕ → Type 0
MayLeave [] left = ⊤
MayLeave (Kept contents ∷ past) left = left ≡ contents
MayLeave (Wrote at count ∷ past) left = IsTorn (Wrote at count ∷ past) left

-- what its reads give is among what a stop may leave
abbrev pub MayStay : DiskState → Type 0
MayStay s = MayLeave s.past s.contents

-- a stop at some moment from then to now may have left this
pub record MightLeave (then_past now_past : List Change) (left : List ℕ) : Type 0 where
  pub later : List Change
  pub sooner : List Change
  pub since : now_past ≡ later ++ (sooner ++ then_past)
  pub leaves : MayLeave (sooner ++ then_past) left

-- the same outside of so many bytes at a place, and behind the old end
pub record IsSameOutside (at count : ℕ) (old new : List ℕ) : Type 0 where
  pub as_long : length old ≤ length new
  pub same : (place : ℕ) → place < length old → IsOutside at count place → get_or new place 0 ≡ get_or old place 0

-- so many bytes from a place were read to the front of what was asked for: all, or up to the end
pub record Reads (at : ℕ) (count : ℕ) (given : List ℕ) (s : DiskState) : Type 0 where
  pub all : count ≡ min (length given) (length s.contents - at)
  pub bytes : take count given ≡ slice_range s.contents at (at + count)

-- the bytes were written at the place
pub record Writes (at : ℕ) (bytes : List ℕ) (old new : DiskState) : Type 0 where
  pub past : new.past ≡ Wrote at (length bytes) ∷ old.past
  pub there : slice_range new.contents at (at + length bytes) ≡ bytes
  pub elsewhere : IsSameOutside at (length bytes) old.contents new.contents

-- something was written within so many bytes at the place
pub record Tears (at count : ℕ) (old new : DiskState) : Type 0 where
  pub past : new.past ≡ Wrote at count ∷ old.past
  pub elsewhere : IsSameOutside at count old.contents new.contents

-- it keeps what its reads give
abbrev pub keeps : DiskState → DiskState
keeps s = record s { past = Kept s.contents ∷ s.past }

-- one is told where the other is, and then this holds of both
abbrev pub BothTold : (DiskState → DiskState → Type 0) → Option DiskState → Option DiskState → Type 0
BothTold Holds (Some old) (Some new) = Holds old new
BothTold Holds (Some old) None = ⊥
BothTold Holds None (Some new) = ⊥
BothTold Holds None None = ⊤

-- it holds where it is told
abbrev pub OnTold : (DiskState → Type 0) → Option DiskState → Type 0
OnTold Holds (Some s) = Holds s
OnTold Holds None = ⊤
