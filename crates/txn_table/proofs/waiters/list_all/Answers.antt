use Rattle.std.proofs.Common.{ℕ, List, sym, ap, ◌∙◌, cond}
use Rattle.std.specs.List.{list_any}
use Rattle.basil_types.specs.Shown.{reads_left, read_of}
use Rattle.txn_table.specs.Waiters.{listed, with_place, reads_on}
use Rattle.txn_table.proofs.Listing.{absorbs}
use Rattle.txn_table.proofs.waiters.list_all.Goals as goal

pub loop-item-preserved : goal.loop-item-preserved
loop-item-preserved c =
    let p = c.args.place in
    let rest = reads_left c.next.new.self in
    let old = c.loop-item.waiters in
    record {
      whole = λ w. c.loop-item.invariant.whole (c.add_read.ensures.whole w);
      places =
          λ w id.
          c.loop-item.invariant.places (c.add_read.ensures.whole w) id
          ∙ ap (λ xs. cond (list_any (reads_on id) xs) (with_place p (listed old id)) (listed old id)) c.in-Some.ensures.steps
          ∙ absorbs (reads_on id (read_of c.in-Some.item)) (list_any (reads_on id) rest) p (listed old id)
          ∙ ap (λ (l : List ℕ). cond (list_any (reads_on id) rest) (with_place p l) l) (sym (c.add_read.ensures.places w id));
    }

pub returns : goal.returns
returns c =
    let new = c.loop-item.waiters in
    record {
      whole = c.loop-item.invariant.whole;
      places =
          λ w id.
          sym (c.loop-item.invariant.places w id
          ∙ ap (λ xs. cond (list_any (reads_on id) xs) (with_place c.args.place (listed new id)) (listed new id))
          c.in-None.ensures.steps.0);
    }
