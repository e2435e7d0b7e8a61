use Rattle.frame_views.specs.Fitting.{widest, after_vote, FitsVote}
use Rattle.frame_values.specs.Owned.{vote_value}
use Rattle.frame_writing.proofs.PartLaws.{each_fits}
use Rattle.frame_writing.proofs.lists.write_votes.Goals as goal

pub write_vote-requires : goal.write_vote-requires
write_vote-requires c =
    rw c.part-item.is
    (each_fits (FitsVote widest) after_vote vote_value c.args.votes.now c.requires c.loop-part.part-index _ c.loop-part-test.true)
