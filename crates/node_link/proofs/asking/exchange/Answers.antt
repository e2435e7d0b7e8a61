-- A call that fails behind the envelope fails behind all of it.
use Rattle.node_link.proofs.AnsweringLaws.{on_err}
use Rattle.node_link.proofs.AskingLaws.{cut_read, written_left}
use Rattle.node_link.proofs.asking.exchange.Goals as goal

pub returns-in-Ok-clause-cut : goal.returns-in-Ok-clause-cut
returns-in-Ok-clause-cut g c s bytes left =
    on_err c.read_answer.result
    (cut_read s _ c.args.envelope.now
    (c.read_answer.ensures.stays _ bytes (written_left s _ _ bytes c.args.envelope.now left c.in-Ok.ensures.all)))
