use Rattle.run_begun.proofs.AddingLaws.{forming}
use Rattle.run_begun.proofs.laws.forming_is_refused.Goals as goal

pub returns : goal.returns
returns c = forming
