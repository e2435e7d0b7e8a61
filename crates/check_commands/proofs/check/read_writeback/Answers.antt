use Rattle.std.proofs.Common.{subst}
use Rattle.frame_views.specs.Fitting.{FitsMessage, bounds_of}
use Rattle.frame_views.specs.Shown.{message_of}
use Rattle.frame_views.specs.declared.frames.views.MessageView.{MessageView}
use Rattle.check_commands.proofs.check.read_writeback.Goals as goal

pub returns-in-Ok-Writeback-clause-fits : goal.returns-in-Ok-Writeback-clause-fits
returns-in-Ok-Writeback-clause-fits c =
    subst (λ (v : MessageView). FitsMessage (bounds_of c.args.cluster.now) (message_of v))
    c.in-Ok-Writeback.field-0-is c.in-Ok-Writeback.ensures.found.fits
