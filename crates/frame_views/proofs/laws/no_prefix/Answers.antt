use Rattle.std.proofs.Common.{◌∙◌, sym, ap, ◌++◌, List, ℕ}
use Rattle.frame_views.specs.Fitting.{bounds_of}
use Rattle.frame_views.proofs.FrameLaws.{prefix-is}
use Rattle.frame_views.proofs.laws.no_prefix.Goals as goal

pub returns : goal.returns
returns c =
    λ cluster frame rest m n a b. (prefix-is (bounds_of cluster) m n rest a.fits b.fits
    (ap (λ (z : List ℕ). z ++ rest) (sym a.spelled) ∙ b.spelled)).1
