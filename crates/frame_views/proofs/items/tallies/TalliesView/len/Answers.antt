use Rattle.basil_types.proofs.ListLaws.{whole-count}
use Rattle.frame_views.specs.Fitting.{after_tally, widest}
use Rattle.frame_views.specs.Grammar.{tally_at}
use Rattle.frame_views.proofs.items.tallies.TalliesView.len.Goals as goal

pub returns : goal.returns
returns c = whole-count (tally_at widest) after_tally c.args.self.now.count 0 c.args.self.now.bytes.now c.args.self.now.whole
