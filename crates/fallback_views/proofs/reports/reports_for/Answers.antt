use Rattle.std.proofs.Common.{rules}
use Rattle.fallback_views.proofs.reports.reports_for.Goals as goal

pub returns : goal.returns
returns c = search rules
