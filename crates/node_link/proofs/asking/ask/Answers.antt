-- An address was opened and its connection talked over, or it wasn't opened.
use Rattle.std.proofs.Common.{◌∙◌}
use Rattle.node_link.proofs.AskingLaws.{asked_open_if, opened}
use Rattle.node_link.proofs.asking.ask.Goals as goal

pub returns-in-Ok-clause-asked : goal.returns-in-Ok-clause-asked
returns-in-Ok-clause-asked g c s at =
    asked_open_if _ _ _ _ s _ _ _ _ (λ given. given.items) c.talk_once.result c.in-Ok.ensures.cause.kept
    (c.deref.ensures.value ∙ c.in_ok-envelope.ensures)
    (c.talk_once.ensures.talked _ _ (opened s _ _ _ at c.in-Ok.ensures.opened.done))
