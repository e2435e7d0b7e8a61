use Rattle.std.proofs.Common.{sym, subst}
use Rattle.basil_types.specs.Transaction.{IsTransaction}
use Rattle.client_steps.proofs.sending.writeback_frame.Goals as goal

pub put_writeback_parts-requires : goal.put_writeback_parts-requires
put_writeback_parts-requires c = record {
  transaction = subst IsTransaction (sym c.view.ensures.value) c.view.ensures.in_range;
  certificate = c.requires;
}
