use Rattle.node_journal.proofs.TakenLaws.{words-kept}
use Rattle.node_journal.proofs.laws.words_are_kept.Goals as goal

pub returns : goal.returns
returns c = words-kept
