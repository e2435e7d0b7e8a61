-- The number of messages has four bytes.
use Rattle.node_link.proofs.SizeLaws.{few_messages}
use Rattle.node_link.proofs.answer.put_answer.Goals as goal

pub put_count-requires-clause-few : goal.put_count-requires-clause-few
put_count-requires-clause-few c = few_messages c.args.sent.now c.requires.short
