use Rattle.schedule_text.proofs.LineTakes.{grammar-is-read}
use Rattle.schedule_text.proofs.laws.grammar_is_read.Goals as goal

pub returns : goal.returns
returns c = grammar-is-read
