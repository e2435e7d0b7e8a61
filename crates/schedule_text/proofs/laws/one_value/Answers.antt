use Rattle.schedule_text.proofs.LineTakes.{one-value}
use Rattle.schedule_text.proofs.laws.one_value.Goals as goal

pub returns : goal.returns
returns c = one-value
