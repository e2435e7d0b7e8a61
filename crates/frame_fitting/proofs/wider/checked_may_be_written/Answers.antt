use Rattle.frame_views.specs.Fitting.{bounds_of, widest}
use Rattle.frame_views.specs.Shown.{message_of}
use Rattle.frame_fitting.proofs.WiderLaws.{in_widest, wider_message}
use Rattle.frame_fitting.proofs.wider.checked_may_be_written.Goals as goal

pub returns : goal.returns
returns c = wider_message (bounds_of c.args.cluster.now) widest
    (in_widest c.args.cluster.now c.n-in_range.ensures.in_range) (message_of c.args.m.now) c.requires
