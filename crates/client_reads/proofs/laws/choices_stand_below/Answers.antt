use Rattle.client_reads.proofs.ChoiceLaws.{replies_stand_below, choices_stand_below}
use Rattle.client_reads.proofs.laws.choices_stand_below.Goals as goal

pub returns-clause-replies : goal.returns-clause-replies
returns-clause-replies c = replies_stand_below

pub returns-clause-choices : goal.returns-clause-choices
returns-clause-choices c = choices_stand_below
