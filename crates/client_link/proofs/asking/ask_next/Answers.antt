-- The first message that waits is asked, and its answer taken.
use Rattle.std.proofs.Common.{rules, ◌≡◌, ◌+◌, Some, refl}
use Rattle.std.specs.Prelude.{slice_get}
use Rattle.client_link.specs.declared.errands.Errands.{Errands}
use Rattle.client_link.proofs.AskLaws.{has_asked_one, next_at, next_is, on_ok}
use Rattle.client_link.proofs.asking.ask_next.Goals as goal

pub returns-in-Ok-clause-asked : goal.returns-in-Ok-clause-asked
returns-in-Ok-clause-asked g c t at =
    let asked = c.in-Ok.ensures.asked t.links at.links in
    let e : Errands = c.args.errands.now in
    let next : Errands = record e { asked = e.asked + 1 } in
    let is : slice_get e.out.messages.items e.asked ≡ Some c.message_at-message.result.now = search rules in
    let there = next_at c.args.client.now _ _ _ e next t _ _ _ _ _ at asked is c.requires.waits refl refl refl c.requires.number
    c.requires.cluster in
    on_ok c.take_all.result
    (λ sent taken. has_asked_one c.args.client.now _ _ _ _ t _ sent _ _ asked.fate _ c.take_all.ensures.own refl
    (next_is c.args.client.now _ _ _ e next t _ _ _ _ _ at asked is c.requires.waits refl refl refl c.requires.number
    c.requires.cluster) taken asked.failed)
    (c.take_all.ensures.taken _ _ there)
