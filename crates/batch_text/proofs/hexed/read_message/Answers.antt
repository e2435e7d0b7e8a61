use Rattle.std.proofs.Common.{rules}
use Rattle.batch_text.proofs.hexed.read_message.Goals as goal

pub returns-then-as_slice-gt-LONGEST_MESSAGE : goal.returns-then-as_slice-gt-LONGEST_MESSAGE
returns-then-as_slice-gt-LONGEST_MESSAGE c = search rules
