use Rattle.frame_views.specs.Fitting.{widest, after_log, FitsLog}
use Rattle.frame_values.specs.Owned.{log_value}
use Rattle.frame_writing.proofs.PartLaws.{each_fits}
use Rattle.frame_writing.proofs.lists.write_logs.Goals as goal

pub write_log-requires : goal.write_log-requires
write_log-requires c =
    rw c.part-item.is
    (each_fits (FitsLog widest 0) after_log log_value c.args.logs.now c.requires c.loop-part.part-index _ c.loop-part-test.true)
