use Rattle.std.proofs.Common.{refl}
use Rattle.node_steps.specs.Pens.{pen_value}
use Rattle.client_core.specs.Clients.{empty_client}
use Rattle.client_core.proofs.client.Client.new.Goals as goal

pub invariant_of-result : goal.invariant_of-result
invariant_of-result g c =
    let pen = pen_value (g.S.Signer.spent c.args.signer) (g.S.Signer.left_of c.args.signer) in
    record {
      same = c.new.ensures.cluster;
      shown = ∣ (empty_client pen, record { shows = c.new.ensures.shown pen; place = refl }) ∣₁;
    }

pub returns-clause-shown : goal.returns-clause-shown
returns-clause-shown g c = record {
  shows = c.new.ensures.shown (pen_value (g.S.Signer.spent c.args.signer) (g.S.Signer.left_of c.args.signer));
  place = refl;
}
