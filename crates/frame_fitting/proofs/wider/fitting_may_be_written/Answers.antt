use Rattle.frame_values.specs.Owned.{message_value}
use Rattle.frame_fitting.proofs.wider.fitting_may_be_written.Goals as goal

pub returns : goal.returns
returns c = c.may_be_written.ensures.message c.args.cluster.now (message_value c.args.m.now) c.n-in_range.ensures.in_range c.requires
