use Rattle.std.proofs.Common.{◌∙◌}
use Rattle.client_core.proofs.ShowingLaws.{slots_count}
use Rattle.client_core.proofs.client.Client.slots.Goals as goal

pub returns-clause-shown : goal.returns-clause-shown
returns-clause-shown g c = λ v h.
    let me = c.args.self.now in
    c.count.ensures ∙ slots_count me.held.slots.items v.slots h.shows.slots
