use Rattle.law_joins.proofs.Taking.{choices_are_taken}
use Rattle.law_joins.proofs.choices.choices_are_taken.Goals as goal

pub returns : goal.returns
returns c = choices_are_taken c.versions_are_told_apart.ensures c.choices_rest_on_replies.ensures.carried
