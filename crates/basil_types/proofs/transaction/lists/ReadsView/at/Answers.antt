use Rattle.std.proofs.Common.{[], arith, sym}
use Rattle.std.proofs.lemmas.Option.{slice_get_past}
use Rattle.basil_types.specs.Parsed.{read_at}
use Rattle.basil_types.specs.Transaction.{key_of_read}
use Rattle.basil_types.proofs.ListLaws.{begins, goes_on, met, never_ends, read-count}
use Rattle.basil_types.proofs.transaction.lists.ReadsView.at.Goals as goal

pub loop-i-init : goal.loop-i-init
loop-i-init c = record { items = begins _ _ _ _ _; earlier = omega arith }

pub loop-i-preserved : goal.loop-i-preserved
loop-i-preserved c =
    record {
      items = goes_on _ _ c.args.self.now.count c.loop-i.i c.loop-i.before.now
          c.loop-i.rest.now _ c.in-Ok.after.now _ c.loop-i-test.true c.in-Ok.ensures c.loop-i.invariant.items;
      earlier = omega arith;
    }

pub returns-then-i-place : goal.returns-then-i-place
returns-then-i-place c =
    let found =
    met read_at key_of_read c.args.self.now.count c.loop-i.i c.loop-i.before.now
    c.loop-i.rest.now _ c.in-Ok.after.now _ c.loop-i-test.true c.in-Ok.ensures c.loop-i.invariant.items c.args.self.now.begins in
    rw (← c.if-i-place.true) found

pub returns-in-Err : goal.returns-in-Err
returns-in-Err c =
    absurd (never_ends read_at key_of_read c.args.self.now.count c.loop-i.i c.loop-i.before.now
    c.loop-i.rest.now c.in-Err.field-0 _ c.loop-i-test.true c.in-Err.ensures c.loop-i.invariant.items c.args.self.now.begins)

pub returns : goal.returns
returns c =
    let len = read-count read_at key_of_read c.args.self.now.count [] c.args.self.now.bytes.now c.args.self.now.begins in
    sym (slice_get_past _ c.args.place (omega (arith, len)))
