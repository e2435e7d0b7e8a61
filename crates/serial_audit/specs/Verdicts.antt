-- What an audit finds.
use Rattle.std.specs.Prelude.{List, Option, Some, None}
use Rattle.basil_types.specs.Transaction.{TransactionValue}
use Rattle.serial_audit.specs.Strays.{Stray, first_stray}
use Rattle.serial_audit.specs.declared.audit.Verdict.{Verdict}
use Rattle.serial_audit.specs.declared.audit.Verdict.TheVariants as verdict

abbrev pub verdict_with : Option Stray → Verdict
verdict_with None = verdict.Serial
verdict_with (Some s) = verdict.Stray s.place s.key s.found s.expected

abbrev pub verdict_of : List TransactionValue → Verdict
verdict_of ts = verdict_with (first_stray ts)
