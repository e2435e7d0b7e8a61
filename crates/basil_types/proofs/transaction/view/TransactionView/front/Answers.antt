use Rattle.std.proofs.Common.{ap, sym, ◌∙◌}
use Rattle.basil_types.specs.Inner.{head_of}
use Rattle.basil_types.specs.Parsed.{head_at}
use Rattle.basil_types.proofs.TransactionLaws.{head-never, head-is, spells-canonical}
use Rattle.basil_types.proofs.transaction.view.TransactionView.front.Goals as goal

pub unreachable-requires : goal.unreachable-requires
unreachable-requires c =
    head-never c.args.self.now.bytes.now c.in-Err.field-0 c.args.self.now.whole
    (ap head_at (sym c.in_range.ensures.same) ∙ c.in-Err.ensures)

pub returns-clause-shown : goal.returns-clause-shown
returns-clause-shown c =
    head-is c.args.self.now.bytes.now (head_of c.in-Ok.front, c.in-Ok._rest.now) c.args.self.now.whole
    (ap head_at (sym c.in_range.ensures.same) ∙ c.in-Ok.ensures)

pub returns-clause-in_range : goal.returns-clause-in_range
returns-clause-in_range c = (spells-canonical c.args.self.now.bytes.now c.in_range.ensures.in_range c.args.self.now.whole).1
