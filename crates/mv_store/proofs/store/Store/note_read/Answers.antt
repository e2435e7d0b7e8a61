use Rattle.mv_store.proofs.NotedLaws.{stands_noted}
use Rattle.mv_store.proofs.store.Store.note_read.Goals as goal

pub returns-clause-noted : goal.returns-clause-noted
returns-clause-noted c =
    λ held noted s. stands_noted c.args.self.now _ c.args.key.now c.args.time c.args.client held noted c.note_read.ensures s
