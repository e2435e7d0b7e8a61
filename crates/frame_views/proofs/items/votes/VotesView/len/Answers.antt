use Rattle.basil_types.proofs.ListLaws.{whole-count}
use Rattle.frame_views.specs.Fitting.{after_vote, widest}
use Rattle.frame_views.specs.Grammar.{vote_at}
use Rattle.frame_views.proofs.items.votes.VotesView.len.Goals as goal

pub returns : goal.returns
returns c = whole-count (vote_at widest) after_vote c.args.self.now.count 0 c.args.self.now.bytes.now c.args.self.now.whole
