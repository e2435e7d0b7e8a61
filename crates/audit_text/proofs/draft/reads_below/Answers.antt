use Rattle.std.proofs.Common.{rules}
use Rattle.audit_text.proofs.draft.reads_below.Goals as goal

pub loop-item-preserved : goal.loop-item-preserved
loop-item-preserved c = search rules
