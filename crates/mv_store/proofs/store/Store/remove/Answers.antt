use Rattle.basil_types.specs.Shown.{transaction_of}
use Rattle.mv_store.proofs.StandsLaws.{stands_removed}
use Rattle.mv_store.proofs.store.Store.remove.Goals as goal

pub returns-clause-removed : goal.returns-clause-removed
returns-clause-removed c =
    λ held noted s alone. stands_removed c.args.self.now _ (transaction_of c.args.t) held noted c.tell.ensures s alone
