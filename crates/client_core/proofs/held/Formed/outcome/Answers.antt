use Rattle.std.proofs.Common.{subst}
use Rattle.client_core.specs.Showing.{StandsNow}
use Rattle.client_core.proofs.held.Formed.outcome.Goals as goal

pub returns-then-self-clause-value : goal.returns-then-self-clause-value
returns-then-self-clause-value c = λ p h.
    c.outcome_before.ensures.value p (subst (λ b. StandsNow b c.args.self.now.pursuit p) c.if-self.true h.stands)

pub returns-else-self-clause-value : goal.returns-else-self-clause-value
returns-else-self-clause-value c = λ p h.
    c.outcome.ensures.value p (subst (λ b. StandsNow b c.args.self.now.pursuit p) c.if-self.false h.stands)
