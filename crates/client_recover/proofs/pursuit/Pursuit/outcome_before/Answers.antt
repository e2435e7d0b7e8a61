use Rattle.client_recover.proofs.TakeLaws.{stands_back}
use Rattle.client_recover.proofs.pursuit.Pursuit.outcome_before.Goals as goal

pub returns-in-Same-clause-value : goal.returns-in-Same-clause-value
returns-in-Same-clause-value c p h = c.outcome.ensures.value p (stands_back c.args.self.now p c.in-Same.is h)
