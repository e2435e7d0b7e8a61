use Rattle.std.proofs.Common.{sym, ap, ◌∙◌}
use Rattle.basil_types.specs.Shown.{transaction_of}
use Rattle.txn_meta.specs.Conflicts.{is_crossed_in, conflict_in}
use Rattle.mv_store.specs.declared.hits.Hits.{Hits}
use Rattle.mv_store.specs.Hits.{joined}
use Rattle.mvtso_check.specs.Crossings.{writes_under}
use Rattle.mvtso_check.proofs.CrossingLaws.{searches_conflict}
use Rattle.mvtso_check.proofs.SearchLaws.{hits_either, hits_alike}
use Rattle.mvtso_check.proofs.crossings.conflicting.Goals as goal

pub returns : goal.returns
returns c held noted s =
    let home = c.args.home.now in
    let t = transaction_of c.args.t in
    c.join.ensures
    ∙ ap (λ (a : Hits). joined a c.across_writes.result) (c.between_reads.ensures held noted s)
    ∙ ap (joined _) (c.across_writes.ensures held noted s)
    ∙ sym (hits_either (λ h. is_crossed_in home.cluster home.shard t h.transaction) (λ h. writes_under home t h.transaction) held)
    ∙ hits_alike _ (λ h. conflict_in home.cluster home.shard t h.transaction) held (λ h. searches_conflict home t h.transaction)
