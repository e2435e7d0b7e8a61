use Rattle.client_laws.proofs.Gathering.{reads_shown}
use Rattle.client_laws.proofs.reads.reads_were_shown.Goals as goal

pub returns : goal.returns
returns c = reads_shown c.choices_rest_on_replies.ensures.carried c.replies_exactly.ensures c.read_frames_fit.ensures
