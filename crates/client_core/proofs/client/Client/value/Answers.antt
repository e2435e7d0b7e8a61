use Rattle.std.proofs.Common.{◌∙◌, sym, ap}
use Rattle.client_core.specs.Clients.{SlotValue}
use Rattle.client_core.specs.Slots.{value}
use Rattle.client_core.proofs.HeldLaws.{got}
use Rattle.client_core.proofs.ReadingLaws.{shown_at}
use Rattle.client_core.proofs.client.Client.value.Goals as goal

pub returns : goal.returns
returns g c = λ v s h at.
    let held = c.args.self.now.held in
    let x = c.index.result.now in
    let shows = shown_at held v c.args.slot x s h.shows (got held.slots.items c.args.slot x c.requires c.index.ensures) at in
    c.value.ensures s.reads s.pursuit shows.reads
    ∙ ap (λ (t : SlotValue). value c.args.self.now.seat.cluster t c.args.key.now) (sym shows.value)
