use Rattle.std.proofs.Common.{◌∙◌, arith}
use Rattle.std.proofs.lemmas.List.{take_all}
use Rattle.sha256_lanes.specs.Chains.{lane_of}
use Rattle.sha256_lanes.proofs.LaneLaws.{below_eight}
use Rattle.sha256_lanes.proofs.WordLaws.{bytes-words}
use Rattle.sha256_lanes.proofs.lanes.values_in.Goals as goal

pub returns : goal.returns
returns c k lt =
    let value = (lane_of c.args.lanes.now k).value in
    let size = c.words_in.ensures.size k lt in
    bytes-words value _ (c.words_in.ensures.bytes k lt) 8 (omega arith)
    (below_eight _ (c.words_in.ensures.words k lt)
    (c.words_in-2.ensures.words k lt) (c.words_in-3.ensures.words k lt) (c.words_in-4.ensures.words k lt)
    (c.words_in-5.ensures.words k lt) (c.words_in-6.ensures.words k lt) (c.words_in-7.ensures.words k lt) (c.words_in-8.ensures.words k lt))
    ∙ take_all 32 value (omega arith)
