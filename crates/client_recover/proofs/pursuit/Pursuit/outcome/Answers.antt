use Rattle.client_recover.proofs.pursuit.Pursuit.outcome.Goals as goal

pub returns-in-Some-clause-fits : goal.returns-in-Some-clause-fits
returns-in-Some-clause-fits c = c.args.self.now.outcome_fits c.in-Some.certificate c.in-Some.is
