use Rattle.std.proofs.Math.Logic.{∥∥₁_elim, ∥∥₁_map}
use Rattle.node_steps.specs.Pens.{pen_value}
use Rattle.replica_core.specs.Leads.{kept_next}
use Rattle.replica_core.proofs.Stepping.{shown_then}
use Rattle.replica_core.proofs.Words.{said_by}
use Rattle.replica_core.proofs.replica.Replica.commit.Goals as goal
use native.Mathlib.Nat.{ℕ_set}

pub invariant_of-self : goal.invariant_of-self
invariant_of-self g c =
    let me = c.args.self.now in
    let pen = pen_value (g.S.Signer.spent c.perform.new.pen) (g.S.Signer.left_of c.perform.new.pen) in
    record {
      shown = ∥∥₁_map me.shown (λ x. shown_then c.perform.new.parts pen c.perform.new.out _
          (c.perform.ensures.performs x.0 x.1.noted));
    }

pub returns-clause-words : goal.returns-clause-words
returns-clause-words g c =
    let me = c.args.self.now in
    ∥∥₁_elim me.shown (ℕ_set _ _) (λ x.
    said_by (g.S.Signer.fixed me.pen) (kept_next me.parts.leading) _ c.args.plan.work _ (c.perform.ensures.performs x.0 x.1.noted).signed
    c.requires.unsigned)
