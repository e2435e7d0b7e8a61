use Rattle.std.proofs.Common.{◌∙◌}
use Rattle.basil_types.proofs.TransactionLaws.{before-never, writes-never, writes-found}
use Rattle.basil_types.proofs.transaction.view.TransactionView.write_list.Goals as goal

pub new-requires : goal.new-requires
new-requires c =
    (writes-found c.args.self.now.bytes.now (c.in-Ok.format, c.in-Ok.rest.now)
    (c.in-Ok-between.count, c.in-Ok-between.items.now) c.args.self.now.whole c.in-Ok.ensures c.in-Ok-between.ensures).is

pub unreachable-requires : goal.unreachable-requires
unreachable-requires c =
    writes-never c.args.self.now.bytes.now
    (c.in-Ok.format, c.in-Ok.rest.now) c.in-Err-between.field-0 c.args.self.now.whole c.in-Ok.ensures c.in-Err-between.ensures

pub unreachable-requires-in-Err : goal.unreachable-requires-in-Err
unreachable-requires-in-Err c = before-never c.args.self.now.bytes.now c.in-Err.field-0 c.args.self.now.whole c.in-Err.ensures

pub returns : goal.returns
returns c =
    c.new.ensures ∙
    (writes-found c.args.self.now.bytes.now (c.in-Ok.format, c.in-Ok.rest.now)
    (c.in-Ok-between.count, c.in-Ok-between.items.now) c.args.self.now.whole c.in-Ok.ensures c.in-Ok-between.ensures).shows
