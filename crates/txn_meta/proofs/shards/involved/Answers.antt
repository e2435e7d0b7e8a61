use Rattle.std.proofs.Common.{ap, ◌∙◌, arith}
use Rattle.std.specs.Prelude.{◌||◌}
use Rattle.basil_types.specs.Shown.{transaction_of}
use Rattle.txn_meta.specs.Places.{involves, reads_of, writes_of}
use Rattle.txn_meta.proofs.MarkLaws.{marks_are, both, unmarked}
use Rattle.txn_meta.proofs.shards.involved.Goals as goal

pub returns : goal.returns
returns c =
    let n = c.args.cluster.now in
    let t = transaction_of c.args.t in
    marks_are c.mark_writes.new.marks (involves n t) (omega arith)
    (λ s below. c.mark_writes.ensures s ∙ ap (λ b. writes_of n t s || b)
    (c.mark_reads.ensures s ∙ ap (λ b. reads_of n t s || b) (unmarked s)) ∙ both (reads_of n t s) (writes_of n t s))
