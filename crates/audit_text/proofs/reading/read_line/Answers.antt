use Rattle.std.proofs.Common.{rules}
use Rattle.audit_text.specs.Grammar.{line_at}
use Rattle.audit_text.proofs.reading.read_line.Goals as goal

pub returns-in-Err : goal.returns-in-Err
unfolding line_at
returns-in-Err c = search rules
