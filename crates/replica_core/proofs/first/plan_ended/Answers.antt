use Rattle.std.proofs.Common.{sym}
use Rattle.frame_views.specs.Stored.{spells_certificate}
use Rattle.txn_table.specs.Entries.{outcome_of}
use Rattle.txn_table.specs.Shown.{entry_of}
use Rattle.replica_core.specs.Whole.{is_signature}
use Rattle.replica_core.proofs.first.plan_ended.Goals as goal

pub plan_outcome-requires : goal.plan_outcome-requires
plan_outcome-requires c = (c.stored_ones_stay.ensures is_signature spells_certificate).proven c.args.known.now.table.entries
    c.in_ok-place.place (entry_of c.entry-entry.result.now) (outcome_of c.in-Some.field-0-0 c.in-Some.certificate.now)
    c.args.known.now.whole c.entry-entry.ensures.entry (sym c.in-Some.ensures)
