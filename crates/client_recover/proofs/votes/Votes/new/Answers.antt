use Rattle.std.proofs.Common.{rules, refl}
use Rattle.client_recover.proofs.VoterLaws.{no_voters}
use Rattle.client_recover.proofs.votes.Votes.new.Goals as goal

pub invariant_of-result : goal.invariant_of-result
invariant_of-result c = (search rules, search rules, no_voters c.new.result.items _ c.new.ensures.items refl)
