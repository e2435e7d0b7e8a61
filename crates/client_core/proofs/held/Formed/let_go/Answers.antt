use Rattle.std.proofs.Common.{subst}
use Rattle.client_core.specs.Showing.{StandsNow}
use Rattle.client_core.proofs.held.Formed.let_go.Goals as goal

pub returns-clause-shown : goal.returns-clause-shown
returns-clause-shown c = λ p h.
    record {
      stands = c.undo.ensures.now p (subst (λ b. StandsNow b c.args.self.now.pursuit p) c.if-not-self.false h.stands);
      second = h.second;
    }
