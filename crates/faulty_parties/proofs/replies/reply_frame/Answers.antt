use Rattle.std.proofs.Common.{rules}
use Rattle.faulty_parties.proofs.replies.reply_frame.Goals as goal

pub returns : goal.returns
returns c = search rules
