use Rattle.std.proofs.Common.{◌≡◌, ◌+◌, ◌*◌, ◌%◌, ℕ, ap, ◌∙◌, arith}
use Rattle.txn_meta.proofs.Sums.{sum_by_rests}
use Rattle.txn_meta.proofs.places.leader_of.Goals as goal

pub returns-clause-value : goal.returns-clause-value
returns-clause-value c =
    let n : c.from-n.result ≡ 5 * c.args.cluster.now.f + 1 = omega arith in
    sum_by_rests c.args.time c.args.view c.from-n.result ∙ ap (λ (m : ℕ). (c.args.time + c.args.view) % m) n
