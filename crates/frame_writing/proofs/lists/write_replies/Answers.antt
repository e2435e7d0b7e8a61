use Rattle.frame_views.specs.Fitting.{widest, after_reply, FitsReply}
use Rattle.frame_values.specs.Owned.{reply_value}
use Rattle.frame_writing.proofs.PartLaws.{each_fits}
use Rattle.frame_writing.proofs.lists.write_replies.Goals as goal

pub write_reply-requires : goal.write_reply-requires
write_reply-requires c =
    rw c.part-item.is
    (each_fits (FitsReply widest) after_reply reply_value c.args.replies.now c.requires c.loop-part.part-index _ c.loop-part-test.true)
