use Rattle.std.proofs.Common.{Bool, ℕ, ap, arith, ◌∙◌}
use Rattle.std.specs.Prelude.{nat_le}
use Rattle.basil_types.specs.Decision.{is_commit}
use Rattle.quorum_laws.specs.Numbers.{log_quorum, replicas}
use Rattle.client_recover.specs.Firsts.{number_of}
use Rattle.client_recover.proofs.FirstLaws.{number_below}
use Rattle.client_recover.proofs.logs.Logs.has_quorum.Goals as goal

pub returns : goal.returns
returns c =
    let f = c.args.cluster.now.f in
    let parts = c.args.self.now.earliest in
    ap (λ (k : ℕ). nat_le k c.number.result) (c.from.ensures ∙ c.log_quorum.ensures)
    ∙ ap (nat_le (log_quorum f))
    (c.number.ensures
    ∙ ap (λ (b : Bool). number_of parts (b, c.args.decided)) c.is_commit.ensures
    ∙ number_below parts (is_commit c.args.decision, c.args.decided) (replicas f) (omega (arith, c.n.ensures.in_range.faulty))
    (c.requires c.args.decision c.args.decided))
