use Rattle.std.proofs.Common.{◌∙◌, sym, []}
use Rattle.std.proofs.lemmas.List.{append-nil}
use Rattle.frame_views.specs.Fitting.{bounds_of}
use Rattle.frame_views.specs.Spelling.{spelling}
use Rattle.frame_views.proofs.FrameLaws.{prefix-is}
use Rattle.frame_views.proofs.laws.one_message.Goals as goal

pub returns : goal.returns
returns c =
    λ cluster frame m n a b. (prefix-is (bounds_of cluster) m n [] a.fits b.fits (append-nil (spelling m) ∙ sym a.spelled ∙ b.spelled)).0
