use Rattle.std.proofs.Common.{Ok, arith, sym, ap, ◌∙◌}
use Rattle.basil_types.specs.Transaction.{TransactionValue}
use Rattle.basil_types.specs.Inner.{whole_of}
use Rattle.basil_types.proofs.TransactionLaws.{cut-is, cut-spells}
use Rattle.basil_types.proofs.transaction.parse.first.Goals as goal

pub slice_bounds-of-count : goal.slice_bounds-of-count
slice_bounds-of-count c =
    (cut-is c.args.bytes.now (whole_of c.in-Ok._parts, c.in-Ok.rest.now) (λ i. omega (arith, c.type_inv.bytes i)) c.in-Ok.ensures).0

pub of-requires : goal.of-requires
of-requires c =
    (cut-spells c.args.bytes.now (whole_of c.in-Ok._parts, c.in-Ok.rest.now) (λ i. omega (arith, c.type_inv.bytes i)) c.in-Ok.ensures).0

pub returns-in-Ok : goal.returns-in-Ok
returns-in-Ok c =
    let t = (cut-spells c.args.bytes.now (whole_of c.in-Ok._parts, c.in-Ok.rest.now)
    (λ i. omega (arith, c.type_inv.bytes i)) c.in-Ok.ensures).1 in
    c.in-Ok.ensures ∙ ap (λ (v : TransactionValue). Ok (v, c.in-Ok.rest.now)) (sym t ∙ sym c.of.ensures)
