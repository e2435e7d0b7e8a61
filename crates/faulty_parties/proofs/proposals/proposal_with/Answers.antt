use Rattle.std.proofs.Common.{◌∙◌, map}
use Rattle.basil_types.specs.Shown.{transaction_of}
use Rattle.frame_values.specs.Owned.{word_value}
use Rattle.faulty_parties.specs.Unsaid.{unsaid_proposal}
use Rattle.faulty_parties.proofs.SaidLaws.{lie_says, proposal_waits}
use Rattle.faulty_parties.proofs.proposals.proposal_with.Goals as goal

pub returns-clause-says : goal.returns-clause-says
returns-clause-says c =
    let place = c.args.place in
    let said = c.args.said in
    let p = c.in_ok-pending.pending in
    let t = transaction_of c.args.t in
    let words = map word_value c.args.words.now in
    lie_says c.of.result p (unsaid_proposal place.shard place.index t said.decision said.view c.args.to words) c.of.ensures.pending
    (proposal_waits place.shard place.index t said.decision said.view c.args.to words c.id-id.result c.in_ok-frame.frame.items p
    (c.id-id.ensures) (c.in_ok-pending.ensures.words ∙ c.proposal-words.ensures)
    c.in_ok-pending.ensures.fronts c.in_ok-frame.ensures c.signatures_end_frames.ensures.decides)
