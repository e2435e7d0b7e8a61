use Rattle.std.proofs.Common.{◌∙◌}
use Rattle.basil_types.specs.Shown.{transaction_of}
use Rattle.faulty_parties.specs.Unsaid.{unsaid_vote}
use Rattle.faulty_parties.proofs.SaidLaws.{lie_says, vote_waits}
use Rattle.faulty_parties.proofs.votes.vote.Goals as goal

pub returns-clause-says : goal.returns-clause-says
returns-clause-says c =
    let place = c.args.place in
    let p = c.in_ok-pending.pending in
    let t = transaction_of c.args.t in
    lie_says c.of.result p (unsaid_vote place.shard place.index t c.args.decision c.args.client) c.of.ensures.pending
    (vote_waits place.shard place.index t c.args.decision c.args.client c.id-id.result c.in_ok-frame.frame.items p
    (c.id-id.ensures) (c.in_ok-pending.ensures.words ∙ c.vote-words.ensures)
    c.in_ok-pending.ensures.fronts c.in_ok-frame.ensures c.signatures_end_frames.ensures.votes)
