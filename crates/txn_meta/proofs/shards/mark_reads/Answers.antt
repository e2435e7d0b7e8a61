use Rattle.std.proofs.Common.{ℕ, sym, ap, ◌∙◌}
use Rattle.std.specs.Prelude.{◌==◌, ◌||◌}
use Rattle.std.specs.List.{list_any}
use Rattle.basil_types.specs.Shown.{reads_left, read_of}
use Rattle.txn_meta.specs.Places.{shard_of, is_marked}
use Rattle.txn_meta.proofs.MarkLaws.{moved}
use Rattle.txn_meta.proofs.shards.mark_reads.Goals as goal

pub loop-item-preserved : goal.loop-item-preserved
loop-item-preserved c s =
    let n = c.args.cluster.now in
    let item = read_of c.in-Some.item in
    let rest = list_any (λ x. shard_of n x.key == s) (reads_left c.next.new.self) in
    c.loop-item.invariant s
    ∙ ap (λ xs. list_any (λ x. shard_of n x.key == s) xs || is_marked c.loop-item.marks s) c.in-Some.ensures.steps
    ∙ moved (shard_of n item.key == s) rest (is_marked c.loop-item.marks s)
    ∙ ap (λ b. rest || b) (ap (λ (k : ℕ). k == s || is_marked c.loop-item.marks s) (sym c.shard_of.ensures.value) ∙ sym (c.mark.ensures s))

pub returns : goal.returns
returns c s =
    sym (c.loop-item.invariant s ∙ ap
    (λ xs. list_any (λ x. shard_of c.args.cluster.now x.key == s) xs || is_marked c.loop-item.marks s) c.in-None.ensures.steps.0)
