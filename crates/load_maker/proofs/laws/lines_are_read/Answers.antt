use Rattle.load_maker.proofs.FitLaws.{lines-are-read}
use Rattle.load_maker.proofs.laws.lines_are_read.Goals as goal

pub returns : goal.returns
returns c = lines-are-read c.spelling_is_read.ensures
