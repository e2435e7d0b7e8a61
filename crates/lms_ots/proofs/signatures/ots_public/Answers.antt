use Rattle.std.proofs.Common.{◌∙◌}
use Rattle.lms_ots.specs.Chains.{leaf_of, end_of}
use Rattle.lms_ots.specs.Lanes.{end_in}
use Rattle.lms_ots.proofs.ChainLaws.{key-same}
use Rattle.lms_ots.proofs.LaneLaws.{chains-low}
use Rattle.lms_ots.proofs.signatures.ots_public.Goals as goal

pub returns : goal.returns
returns c =
    let set = c.args.set in
    let leaf = leaf_of c.args.ident.now c.args.q in
    c.key_of_chains.ensures
    ∙ key-same set leaf (end_in c.run_all.result) (end_of set leaf c.args.seed.now)
    (λ i lt. c.run_all.ensures i (chains-low set i lt) ∙ c.key_lanes-lanes.ensures.ends i lt)
