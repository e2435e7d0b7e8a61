use Rattle.std.proofs.Common.{subst}
use Rattle.basil_types.specs.Setting.{Setting}
use Rattle.client_core.specs.Clusters.{IsOf}
use Rattle.client_core.proofs.HeldLaws.{got}
use Rattle.client_core.proofs.ReadingLaws.{shown_at}
use Rattle.client_core.proofs.client.Client.outcome.Goals as goal

pub returns-clause-value : goal.returns-clause-value
returns-clause-value g c = λ v s h at.
    let held = c.args.self.now.held in
    let x = c.index.result.now in
    let found = got held.slots.items c.args.slot x c.requires c.index.ensures in
    c.outcome.ensures.value c.args.self.now.seat.cluster s.pursuit
    (subst (λ (k : Setting). IsOf k x.formed) c.args.self.now.same (held.clusters c.args.slot x found))
    (shown_at held v c.args.slot x s h.shows found at).formed
