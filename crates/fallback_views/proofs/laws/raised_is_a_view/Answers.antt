use Rattle.fallback_views.proofs.ViewLaws.{raised_is_view}
use Rattle.fallback_views.proofs.laws.raised_is_a_view.Goals as goal

pub returns : goal.returns
returns c = raised_is_view
