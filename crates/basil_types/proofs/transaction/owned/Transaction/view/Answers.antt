use Rattle.std.proofs.Common.{subst}
use Rattle.basil_types.specs.Texts.{IsBytes}
use Rattle.basil_types.specs.Transaction.{IsTransaction}
use Rattle.basil_types.proofs.TransactionLaws.{spells-canonical}
use Rattle.basil_types.proofs.transaction.owned.Transaction.view.Goals as goal

pub returns-clause-in_range : goal.returns-clause-in_range
returns-clause-in_range c =
    let bytes : IsBytes c.self.inside.bytes.items = subst IsBytes c.as_slice.ensures.value c.in_range.ensures.in_range in
    subst IsTransaction c.self.view_is (spells-canonical c.self.inside.bytes.items bytes c.self.invariant.0).1
