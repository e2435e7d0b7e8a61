-- Behind the count its envelopes are read.
use Rattle.node_link.proofs.AskingLaws.{answer_none_by, answer_of, counted_by}
use Rattle.node_link.proofs.asking.read_answer.Goals as goal

pub returns-in-Ok-Some-clause-answer : goal.returns-in-Ok-Some-clause-answer
returns-in-Ok-Some-clause-answer g c s bytes left =
    let behind = counted_by c.args.cluster bytes _ c.in-Ok-Some.count s _ (c.in-Ok-Some.ensures.count s bytes left)
    c.in-Ok-Some.field-0-is in
    answer_of _ _ _ _ _ _ (λ given. given.items) c.read_envelopes.result behind.answer c.min-wanted.ensures
    (c.read_envelopes.ensures.given s behind.rest behind.left) (c.read_envelopes.ensures.stays s behind.rest behind.left)

pub returns-in-Ok-Some-clause-stays : goal.returns-in-Ok-Some-clause-stays
returns-in-Ok-Some-clause-stays g c s bytes left =
    let behind = counted_by c.args.cluster bytes _ c.in-Ok-Some.count s _ (c.in-Ok-Some.ensures.count s bytes left)
    c.in-Ok-Some.field-0-is in
    c.read_envelopes.ensures.stays s behind.rest behind.left

pub returns-in-Ok-None-clause-answer : goal.returns-in-Ok-None-clause-answer
returns-in-Ok-None-clause-answer g c s bytes left =
    answer_none_by _ bytes _ s _ _ c.new.ensures.items (c.in-Ok-None.ensures.count s bytes left) c.in-Ok-None.field-0-is
