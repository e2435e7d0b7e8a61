use Rattle.std.proofs.Common.{◌∙◌}
use Rattle.basil_types.specs.Inner.{head_of}
use Rattle.basil_types.proofs.TransactionLaws.{head-never, reads-never, reads-found}
use Rattle.basil_types.proofs.transaction.view.TransactionView.read_list.Goals as goal

pub new-requires : goal.new-requires
new-requires c =
    (reads-found c.args.self.now.bytes.now (head_of c.in-Ok._front, c.in-Ok.rest.now)
    (c.in-Ok-between.count, c.in-Ok-between.items.now) c.args.self.now.whole c.in-Ok.ensures c.in-Ok-between.ensures).is

pub unreachable-requires : goal.unreachable-requires
unreachable-requires c =
    reads-never c.args.self.now.bytes.now
    (head_of c.in-Ok._front, c.in-Ok.rest.now) c.in-Err-between.field-0 c.args.self.now.whole c.in-Ok.ensures c.in-Err-between.ensures

pub unreachable-requires-in-Err : goal.unreachable-requires-in-Err
unreachable-requires-in-Err c = head-never c.args.self.now.bytes.now c.in-Err.field-0 c.args.self.now.whole c.in-Err.ensures

pub returns : goal.returns
returns c =
    c.new.ensures ∙
    (reads-found c.args.self.now.bytes.now (head_of c.in-Ok._front, c.in-Ok.rest.now)
    (c.in-Ok-between.count, c.in-Ok-between.items.now) c.args.self.now.whole c.in-Ok.ensures c.in-Ok-between.ensures).shows
