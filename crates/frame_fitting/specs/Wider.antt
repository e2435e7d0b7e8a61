-- What fits one cluster and what fits any.
use Rattle.std.specs.Prelude.{◌≤◌, length}
use Rattle.basil_types.specs.Setting.{Setting, IsSetting}
use Rattle.frame_views.specs.declared.bounds.Bounds.{Bounds}
use Rattle.frame_views.specs.Fitting.{bounds_of, widest, FitsMessage}
use Rattle.frame_views.specs.Frames.{frame_limit}
use Rattle.frame_views.specs.Spelling.{spelling}
use Rattle.frame_views.specs.Values.{MessageValue}

-- what fits a cluster fits all that one byte can number
abbrev pub Widens : {A : Type 0} → (Bounds → A → Type 0) → Type 0
Widens {A} Fits = (cluster : Setting) (a : A) → IsSetting cluster → Fits (bounds_of cluster) a → Fits widest a

-- a message breaks no rule, the limit on its frame's length included
abbrev pub IsFit : Bounds → MessageValue → Type 0
IsFit b m = FitsMessage b m × (length (spelling m) ≤ frame_limit)
