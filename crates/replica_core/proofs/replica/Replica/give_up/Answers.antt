use Rattle.std.proofs.Common.{refl, ap}
use Rattle.std.proofs.Math.Logic.{∥∥₁_map}
use Rattle.node_steps.specs.Pens.{pen_value}
use Rattle.replica_core.specs.Leads.{LeadingValue}
use Rattle.replica_core.specs.declared.parts.Parts.{Parts}
use Rattle.replica_core.proofs.Stepping.{still_shown}
use Rattle.replica_core.proofs.replica.Replica.give_up.Goals as goal

pub invariant_of-self : goal.invariant_of-self
invariant_of-self g c =
    let me = c.args.self.now in
    let pen = pen_value (g.S.Signer.spent me.pen) (g.S.Signer.left_of me.pen) in
    let new : Parts = record (me.parts) { leading = c.give_up.new.self } in
    record {
      shown = ∥∥₁_map me.shown (still_shown me.parts new pen (record {
        entries = refl;
        noted = λ _ s. s;
        logged = refl;
        kept = ap (λ (l : LeadingValue). l.kept) c.give_up.ensures;
      }));
    }

pub returns-clause-let_go : goal.returns-clause-let_go
returns-clause-let_go g c = ap (λ (l : LeadingValue). l.next) c.give_up.ensures
