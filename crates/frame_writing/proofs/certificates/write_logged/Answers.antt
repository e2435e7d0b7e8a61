use Rattle.std.proofs.Common.{map}
use Rattle.frame_views.specs.Fitting.{widest}
use Rattle.frame_values.specs.Owned.{log_value}
use Rattle.frame_writing.proofs.PartLaws.{any_view}
use Rattle.frame_writing.proofs.certificates.write_logged.Goals as goal

pub write_logs-requires : goal.write_logs-requires
write_logs-requires c = any_view widest c.args.decided (map log_value c.args.logs.now) c.requires.logs
