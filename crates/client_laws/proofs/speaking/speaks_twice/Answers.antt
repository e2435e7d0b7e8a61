use Rattle.client_laws.proofs.SayingLaws.{speaks}
use Rattle.client_laws.proofs.speaking.speaks_twice.Goals as goal

pub returns : goal.returns
returns c = speaks
