use Rattle.std.proofs.Common.{◌∙◌, ap, map}
use Rattle.basil_types.specs.Shown.{transaction_of}
use Rattle.node_steps.specs.Pendings.{front_of}
use Rattle.faulty_parties.specs.Fronts.{fronts_in}
use Rattle.faulty_parties.specs.Unsaid.{unsaid_first}
use Rattle.faulty_parties.proofs.SaidLaws.{first_waits, lie_says}
use Rattle.faulty_parties.proofs.firsts.first_stage.Goals as goal

pub returns-clause-says : goal.returns-clause-says
returns-clause-says c =
    let cl = c.args.cluster.now in
    let p = c.in_ok-pending.pending in
    let t = transaction_of c.args.t in
    lie_says c.of.result p (unsaid_first cl t) c.of.ensures.pending
    (first_waits cl t c.id-id.result c.in_ok-frame.frame.items p
    (c.id-id.ensures) (c.in_ok-pending.ensures.words ∙ c.transaction.ensures)
    (ap (λ us. map front_of us.items) c.in_ok-pending.ensures.frames ∙ c.in_ok-frames.ensures.fronts
    ∙ ap (λ b. fronts_in cl b t) c.as_slice.ensures.value)
    c.in_ok-frame.ensures c.signatures_end_frames.ensures.first_stages)
