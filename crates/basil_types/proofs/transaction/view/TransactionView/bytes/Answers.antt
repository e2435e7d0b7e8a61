use Rattle.std.proofs.Common.{◌∙◌}
use Rattle.basil_types.proofs.TransactionLaws.{spells-canonical}
use Rattle.basil_types.proofs.transaction.view.TransactionView.bytes.Goals as goal

pub returns-clause-spelled : goal.returns-clause-spelled
returns-clause-spelled c =
    c.in_range.ensures.same ∙ (spells-canonical c.args.self.now.bytes.now c.in_range.ensures.in_range c.args.self.now.whole).0

pub returns-clause-in_range : goal.returns-clause-in_range
returns-clause-in_range c = (spells-canonical c.args.self.now.bytes.now c.in_range.ensures.in_range c.args.self.now.whole).1
