use Rattle.std.proofs.Common.{◌∙◌, ap}
use Rattle.std.specs.Prelude.{is_some}
use Rattle.client_recover.specs.Owned.{shown_outcome}
use Rattle.client_core.proofs.StepLaws.{some_map}
use Rattle.client_core.proofs.held.Formed.is_decided.Goals as goal

pub returns : goal.returns
returns c = λ p h. c.is_some.ensures ∙ some_map shown_outcome c.outcome.result ∙ ap is_some (c.outcome.ensures.value p h)
