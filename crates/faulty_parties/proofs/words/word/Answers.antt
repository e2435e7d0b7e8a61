use Rattle.std.proofs.Common.{◌∙◌}
use Rattle.basil_types.specs.Shown.{transaction_of}
use Rattle.faulty_parties.specs.Unsaid.{unsaid_word}
use Rattle.faulty_parties.proofs.SaidLaws.{lie_says, word_waits}
use Rattle.faulty_parties.proofs.words.word.Goals as goal

pub returns-clause-says : goal.returns-clause-says
returns-clause-says c =
    let place = c.args.place in
    let p = c.in_ok-pending.pending in
    let t = transaction_of c.args.t in
    lie_says c.of.result p (unsaid_word c.args.cluster.now place.shard place.index t c.args.decision c.args.view) c.of.ensures.pending
    (word_waits c.args.cluster.now place.shard place.index t c.args.decision c.args.view c.id-id.result c.in_ok-frame.frame.items
    c.leads-to.result p
    (c.id-id.ensures) c.leads-to.ensures
    (c.in_ok-pending.ensures.words ∙ c.election-words.ensures)
    c.in_ok-pending.ensures.fronts c.in_ok-frame.ensures c.signatures_end_frames.ensures.elects)
