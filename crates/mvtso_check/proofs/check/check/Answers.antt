use Rattle.std.proofs.Common.{Bool, cond, refl, sym, ap, ◌∙◌}
use Rattle.basil_types.specs.Shown.{transaction_of}
use Rattle.mvtso_check.specs.declared.verdict.Verdict.TheVariants.{Wait, Commit}
use Rattle.mvtso_check.specs.Book.{held_in}
use Rattle.mvtso_check.specs.Verdict.{must_wait, aborted_by}
use Rattle.mvtso_check.proofs.VerdictLaws.{is_told}
use Rattle.mvtso_check.proofs.check.check.Goals as goal

pub returns-then-must_abort : goal.returns-then-must_abort
returns-then-must_abort c noted s =
    c.aborted_by.ensures
    ∙ sym (ap (λ (b : Bool). cond b (aborted_by c.conflicting-conflicts.result.committed)
    (cond (must_wait (record { cluster = c.args.cluster.now; shard = c.args.shard })
    (record { entries = c.args.table.now.entries; noted = noted }) (transaction_of c.args.t)) Wait Commit)) c.if-must_abort.true)
    ∙ is_told (record { cluster = c.args.cluster.now; shard = c.args.shard }) c.args.now
    (record { entries = c.args.table.now.entries; noted = noted }) (transaction_of c.args.t)
    c.conflicting-conflicts.result c.must_abort.result _ (c.conflicting-conflicts.ensures (held_in c.args.table.now.entries) noted s)
    (c.must_abort.ensures (held_in c.args.table.now.entries) noted s) refl

pub returns-then-has_open : goal.returns-then-has_open
returns-then-has_open c noted s =
    sym (ap (λ (b : Bool). cond b (aborted_by c.conflicting-conflicts.result.committed) (cond c.has_open.result Wait Commit))
    c.if-must_abort.false ∙ ap (λ (b : Bool). cond b Wait Commit) c.if-has_open.true)
    ∙ is_told (record { cluster = c.args.cluster.now; shard = c.args.shard }) c.args.now
    (record { entries = c.args.table.now.entries; noted = noted }) (transaction_of c.args.t) c.conflicting-conflicts.result
    c.must_abort.result c.has_open.result (c.conflicting-conflicts.ensures (held_in c.args.table.now.entries) noted s)
    (c.must_abort.ensures (held_in c.args.table.now.entries) noted s) c.has_open.ensures

pub returns-else-has_open : goal.returns-else-has_open
returns-else-has_open c noted s =
    sym (ap (λ (b : Bool). cond b (aborted_by c.conflicting-conflicts.result.committed) (cond c.has_open.result Wait Commit))
    c.if-must_abort.false ∙ ap (λ (b : Bool). cond b Wait Commit) c.if-has_open.false)
    ∙ is_told (record { cluster = c.args.cluster.now; shard = c.args.shard }) c.args.now
    (record { entries = c.args.table.now.entries; noted = noted }) (transaction_of c.args.t) c.conflicting-conflicts.result
    c.must_abort.result c.has_open.result (c.conflicting-conflicts.ensures (held_in c.args.table.now.entries) noted s)
    (c.must_abort.ensures (held_in c.args.table.now.entries) noted s) c.has_open.ensures
