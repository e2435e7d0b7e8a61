use Rattle.std.proofs.Common.{◌≡◌, ◌+◌, ◌%◌, arith, refl}
use Rattle.sha256_lanes.proofs.LaneLaws.{slice_index-block, block-set}
use Rattle.sha256_lanes.proofs.compression.next_word.Goals as goal

pub returns-clause-value : goal.returns-clause-value
returns-clause-value c k lt =
    let w = c.args.window.now in
    let place = c.args.place in
    let at : place % 16 ≡ place = omega arith in
    rw (
      slice_index-block w k ((place + 14) % 16) (omega arith),
      slice_index-block w k ((place + 9) % 16) (omega arith),
      slice_index-block w k ((place + 1) % 16) (omega arith),
      at,
      slice_index-block w k place c.requires,
      c.add-word.ensures k lt,
      c.add-far.ensures k lt,
      c.add-near.ensures k lt,
      c.small_sigma1.ensures k lt,
      c.small_sigma0.ensures k lt,
    ) refl

pub returns-clause-written : goal.returns-clause-written
returns-clause-written c k lt =
    block-set c.args.window.now c.add-word.result k c.args.place c.requires (omega arith)
