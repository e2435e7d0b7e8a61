use Rattle.faulty_parties.proofs.ListLaws.{next_vote}
use Rattle.faulty_parties.proofs.listing.votes_of.Goals as goal

pub loop-word-preserved : goal.loop-word-preserved
loop-word-preserved c =
    next_vote c.loop-word.votes.items c.push.new.self.items c.in-Some.word c.loop-word.word-iterator.rest.items _ _
    c.in-Some.ensures.steps.0 c.in_ok-push.ensures.items c.loop-word.invariant
