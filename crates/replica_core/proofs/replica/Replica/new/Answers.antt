use Rattle.std.proofs.Common.{ap}
use Rattle.node_steps.specs.Pens.{pen_value}
use Rattle.replica_core.specs.Leads.{LeadingValue}
use Rattle.replica_core.specs.Replicas.{empty_book}
use Rattle.txn_table.specs.Tables.{TableValue}
use Rattle.replica_core.proofs.Stepping.{shown_new}
use Rattle.replica_core.proofs.replica.Replica.new.Goals as goal

pub invariant_of-result : goal.invariant_of-result
invariant_of-result g c =
    let pen = pen_value (g.S.Signer.spent c.args.signer) (g.S.Signer.left_of c.args.signer) in
    record {
      shown = ∣ (
        empty_book pen,
        shown_new c.new.result pen (ap (λ (t : TableValue). t.entries) c.new.ensures.table)
            c.new.ensures.logged (ap (λ (l : LeadingValue). l.kept) c.new.ensures.kept) c.new.ensures.noted,
      ) ∣₁;
    }

pub returns-clause-shown : goal.returns-clause-shown
returns-clause-shown g c =
    let pen = pen_value (g.S.Signer.spent c.args.signer) (g.S.Signer.left_of c.args.signer) in
    shown_new c.new.result pen (ap (λ (t : TableValue). t.entries) c.new.ensures.table)
    c.new.ensures.logged (ap (λ (l : LeadingValue). l.kept) c.new.ensures.kept) c.new.ensures.noted
