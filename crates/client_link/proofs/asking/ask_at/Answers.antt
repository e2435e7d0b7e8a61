-- An address is asked.
use Rattle.std.proofs.Common.{rules}
use Rattle.client_link.proofs.AskLaws.{asked_at_if}
use Rattle.client_link.proofs.asking.ask_at.Goals as goal

pub returns-in-Some-clause-asked : goal.returns-in-Some-clause-asked
returns-in-Some-clause-asked g c s at =
    asked_at_if _ c.args.number c.args.message.now s _ _ _ (λ given. given.items) c.ask.result c.in-Some.address.now _ _
    (search rules) (search rules) (search rules) (c.ask.ensures.asked s at)
