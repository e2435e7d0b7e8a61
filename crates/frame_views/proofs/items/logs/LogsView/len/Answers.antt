use Rattle.basil_types.proofs.ListLaws.{whole-count}
use Rattle.frame_views.specs.Fitting.{after_log, widest}
use Rattle.frame_views.specs.Grammar.{log_at}
use Rattle.frame_views.proofs.items.logs.LogsView.len.Goals as goal

pub returns : goal.returns
returns c = whole-count (log_at widest 0) after_log c.args.self.now.count 0 c.args.self.now.bytes.now c.args.self.now.whole
