use Rattle.std.proofs.Common.{ap, List, ℕ, ◌∙◌}
use Rattle.sha2.specs.Sha256.{add_state, compress, rounds, schedule}
use Rattle.sha256_lanes.specs.Lanes.{state_of}
use Rattle.sha256_lanes.proofs.compression.compress.Goals as goal

pub returns : goal.returns
unfolding compress
returns c k b lt block =
    let start = c.initial_state-start.ensures k lt in
    let working = c.all_rounds.ensures k b lt block in
    rw (
      c.add.ensures k lt,
      c.add-2.ensures k lt,
      c.add-3.ensures k lt,
      c.add-4.ensures k lt,
      c.add-5.ensures k lt,
      c.add-6.ensures k lt,
      c.add-7.ensures k lt,
      c.add-8.ensures k lt,
    ) (ap (λ (v : List ℕ). add_state (state_of k c.initial_state-start.result) v) working
    ∙ ap (λ (h : List ℕ). add_state h (rounds h (schedule b 48) 64)) start)
