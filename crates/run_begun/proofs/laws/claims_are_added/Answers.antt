use Rattle.run_begun.proofs.AddingLaws.{claims}
use Rattle.run_begun.proofs.laws.claims_are_added.Goals as goal

pub returns : goal.returns
returns c = claims
