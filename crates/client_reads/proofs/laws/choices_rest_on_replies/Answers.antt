use Rattle.client_reads.proofs.ChoiceLaws.{choices_carried, none_above}
use Rattle.client_reads.proofs.laws.choices_rest_on_replies.Goals as goal

pub returns-clause-carried : goal.returns-clause-carried
returns-clause-carried c = choices_carried

pub returns-clause-greatest : goal.returns-clause-greatest
returns-clause-greatest c = none_above
