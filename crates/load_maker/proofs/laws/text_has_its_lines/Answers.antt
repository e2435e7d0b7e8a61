use Rattle.load_maker.proofs.TextLaws.{text-has-its-lines}
use Rattle.load_maker.proofs.laws.text_has_its_lines.Goals as goal

pub returns : goal.returns
returns c = text-has-its-lines
