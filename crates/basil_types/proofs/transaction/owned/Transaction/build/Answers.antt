use Rattle.std.proofs.Common.{◌∙◌, ap, sym}
use Rattle.basil_types.specs.Built.{built}
use Rattle.basil_types.specs.Id.{id_of}
use Rattle.basil_types.specs.Transaction.{IsTransaction}
use Rattle.basil_types.specs.Parsed.{transaction_in, spells_transaction}
use Rattle.basil_types.proofs.BuildLaws.{built-is}
use Rattle.basil_types.proofs.TransactionLaws.{again-spells}
use Rattle.basil_types.proofs.transaction.owned.Transaction.build.Goals as goal

pub invariant_of-result : goal.invariant_of-result
invariant_of-result c =
    let t = built c.args.time c.args.client c.args.reads.now c.args.writes.now in
    let is : IsTransaction t =
    built-is c.args.time c.args.client c.args.reads.now c.args.writes.now
    (sym c.in-None.ensures.first) c.spell.ensures.time c.in_ok-bytes-in-None.ensures.reads c.in_ok-bytes-in-None.ensures.writes in (
      ap spells_transaction c.in_ok-bytes-in-None.ensures.spelled ∙ (again-spells t is).0,
      c.id_of-id.ensures
          ∙ ap id_of c.as_slice.ensures.value,
    )

pub returns-in_ok-bytes-in-None-clause-value : goal.returns-in_ok-bytes-in-None-clause-value
returns-in_ok-bytes-in-None-clause-value c =
    let t = built c.args.time c.args.client c.args.reads.now c.args.writes.now in
    let is : IsTransaction t =
    built-is c.args.time c.args.client c.args.reads.now c.args.writes.now
    (sym c.in-None.ensures.first) c.spell.ensures.time c.in_ok-bytes-in-None.ensures.reads c.in_ok-bytes-in-None.ensures.writes in
    ap transaction_in c.in_ok-bytes-in-None.ensures.spelled ∙ (again-spells t is).1
