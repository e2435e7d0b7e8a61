use Rattle.std.proofs.Common.{rules}
use Rattle.report_lines.proofs.fault.ends.Goals as goal

pub returns-in-Err-Broken : goal.returns-in-Err-Broken
returns-in-Err-Broken c = search rules
