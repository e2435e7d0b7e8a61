use Rattle.basil_types.proofs.WordsLaws.{words_tell}
use Rattle.basil_types.proofs.words.words_tell_fields.Goals as goal

pub returns : goal.returns
returns c = words_tell
