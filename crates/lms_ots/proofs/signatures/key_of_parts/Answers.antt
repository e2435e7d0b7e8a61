use Rattle.std.proofs.Common.{◌∙◌}
use Rattle.lms_ots.specs.Chains.{leaf_of}
use Rattle.lms_ots.specs.Signatures.{end_from}
use Rattle.lms_ots.specs.Lanes.{end_in}
use Rattle.lms_ots.proofs.ChainLaws.{key-same}
use Rattle.lms_ots.proofs.LaneLaws.{chains-low}
use Rattle.lms_ots.proofs.signatures.key_of_parts.Goals as goal

pub returns : goal.returns
returns c =
    let set = c.args.set in
    let leaf = leaf_of c.args.ident.now c.args.q in
    c.key_of_chains.ensures
    ∙ key-same set leaf (end_in c.run_all.result) (end_from set leaf c.args.string.now c.args.signature.now)
    (λ i lt. c.run_all.ensures i (chains-low set i lt) ∙ c.candidate_lanes-lanes.ensures.ends leaf i lt)
