use Rattle.std.proofs.Common.{rules}
use Rattle.batch_text.proofs.reading.read_kept.Goals as goal

pub returns-in_err-add_lines : goal.returns-in_err-add_lines
returns-in_err-add_lines c = search rules

pub returns : goal.returns
returns c = search rules
