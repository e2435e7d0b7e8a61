use Rattle.std.proofs.Common.{rules, subst, sym}
use Rattle.frame_views.specs.Fitting.{FitsVotes, widest}
use Rattle.faulty_parties.proofs.ListLaws.{votes_counted}
use Rattle.faulty_parties.proofs.seconds.tally.Goals as goal

pub returns-clause-fits : goal.returns-clause-fits
returns-clause-fits g c = subst (FitsVotes widest) (sym c.in_ok-votes.ensures) (votes_counted _ c.in_ok-words-2.ensures.counted)

pub returns-clause-tally : goal.returns-clause-tally
returns-clause-tally g c = search rules
