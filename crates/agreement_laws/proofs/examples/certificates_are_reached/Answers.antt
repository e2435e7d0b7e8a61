use Rattle.agreement_laws.proofs.ExampleRun.{reached}
use Rattle.agreement_laws.proofs.examples.certificates_are_reached.Goals as goal

pub returns : goal.returns
returns c = reached
