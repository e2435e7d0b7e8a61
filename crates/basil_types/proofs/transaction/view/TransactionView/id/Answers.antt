use Rattle.std.proofs.Common.{ap, ◌∙◌}
use Rattle.basil_types.specs.Id.{id_of}
use Rattle.basil_types.proofs.TransactionLaws.{spells-canonical}
use Rattle.basil_types.proofs.transaction.view.TransactionView.id.Goals as goal

pub returns : goal.returns
returns c =
    c.args.self.now.named ∙ ap id_of (spells-canonical c.args.self.now.bytes.now c.in_range.ensures.in_range c.args.self.now.whole).0
