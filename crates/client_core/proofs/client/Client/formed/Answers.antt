use Rattle.client_core.proofs.HeldLaws.{got}
use Rattle.client_core.proofs.ReadingLaws.{shown_at}
use Rattle.client_core.proofs.client.Client.formed.Goals as goal

pub returns-clause-parts : goal.returns-clause-parts
returns-clause-parts g c = λ v s h at.
    let held = c.args.self.now.held in
    let x = c.index.result.now in
    c.formed_parts.ensures.parts s.pursuit
    (shown_at held v c.args.slot x s h.shows (got held.slots.items c.args.slot x c.requires c.index.ensures) at).formed
