use Rattle.std.proofs.Common.{◌≡◌, Ok, ap, sym, [], ◌∙◌, List}
use Rattle.std.proofs.lemmas.Result.{err_from_is_err_and}
use Rattle.basil_types.specs.Items.{write_of}
use Rattle.basil_types.specs.Lists.{items_at, list_of, is_read}
use Rattle.basil_types.specs.Parsed.{write_at}
use Rattle.basil_types.specs.Transaction.{key_of_write}
use Rattle.basil_types.specs.declared.transaction.parts.WritePart.{WritePart}
use Rattle.basil_types.proofs.ListLaws.{begins, goes_on, ends, is_done}
use Rattle.basil_types.proofs.transaction.parse.some_writes.Goals as goal

pub loop-init : goal.loop-init
loop-init c = begins _ _ _ _ _

pub loop-preserved : goal.loop-preserved
loop-preserved c =
    goes_on _ _ c.args.count c.loop.counter c.loop.before.now c.loop.rest.now
    (write_of c.in_ok-item.item) c.in_ok-item.after.now _ c.loop-test.true c.in_ok-item.ensures c.loop.invariant

pub returns-in_err-item : goal.returns-in_err-item
returns-in_err-item c =
    let p = err_from_is_err_and c.from_residual.result c.from_residual.ensures.1 in
    rw (p.1, p.2)
    (ends _ _ c.args.count c.loop.counter
    c.loop.before.now c.loop.rest.now c.in_err-item.field-0.0 _ c.loop-test.true c.in_err-item.ensures c.loop.invariant)

pub new-requires : goal.new-requires
new-requires c =
    let t : items_at (write_at c.args.format) key_of_write c.args.count [] c.args.bytes.now ≡ Ok (c.loop.invariant.front, c.loop.rest.now) =
    is_done _ _ c.args.count c.loop.counter c.loop.before.now c.loop.rest.now _ c.loop-test.false c.loop.invariant in
    ap is_read t

pub returns : goal.returns
returns c =
    let t : items_at (write_at c.args.format) key_of_write c.args.count [] c.args.bytes.now ≡ Ok (c.loop.invariant.front, c.loop.rest.now) =
    is_done _ _ c.args.count c.loop.counter c.loop.before.now c.loop.rest.now _ c.loop-test.false c.loop.invariant in
    t ∙ ap (λ (vs : List WritePart). Ok (vs, c.loop.rest.now)) (sym (ap list_of t) ∙ sym c.new.ensures)
