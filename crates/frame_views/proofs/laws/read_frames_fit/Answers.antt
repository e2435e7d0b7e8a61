use Rattle.std.specs.Prelude.{Ok}
use Rattle.frame_views.specs.Values.{MessageValue}
use Rattle.frame_views.proofs.FrameLaws.{is_found}
use Rattle.frame_views.proofs.laws.read_frames_fit.Goals as goal

pub returns : goal.returns
returns c = λ cluster frame m bytes read. is_found (λ (m : MessageValue). m) cluster frame (Ok m) bytes read
