use Rattle.schedule_text.proofs.LineLaws.{spelling-is-read}
use Rattle.schedule_text.proofs.laws.spelling_is_read.Goals as goal

pub returns : goal.returns
returns c = spelling-is-read
