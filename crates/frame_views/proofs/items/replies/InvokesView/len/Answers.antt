use Rattle.basil_types.proofs.ListLaws.{whole-count}
use Rattle.frame_views.specs.Fitting.{after_reply, widest}
use Rattle.frame_views.specs.Grammar.{reply_at}
use Rattle.frame_views.proofs.items.replies.InvokesView.len.Goals as goal

pub returns : goal.returns
returns c = whole-count (reply_at widest) after_reply c.args.self.now.count 0 c.args.self.now.bytes.now c.args.self.now.whole
