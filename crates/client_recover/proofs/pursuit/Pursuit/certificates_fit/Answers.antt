use Rattle.client_recover.proofs.pursuit.Pursuit.certificates_fit.Goals as goal

pub returns : goal.returns
returns c = λ x fits. c.may_be_written.ensures.certificate c.args.self.now.cluster x c.n.ensures.in_range fits
