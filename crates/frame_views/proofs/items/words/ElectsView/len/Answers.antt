use Rattle.basil_types.proofs.ListLaws.{whole-count}
use Rattle.frame_views.specs.Fitting.{after_word, widest}
use Rattle.frame_views.specs.Grammar.{word_at}
use Rattle.frame_views.proofs.items.words.ElectsView.len.Goals as goal

pub returns : goal.returns
returns c = whole-count (word_at widest) after_word c.args.self.now.count 0 c.args.self.now.bytes.now c.args.self.now.whole
