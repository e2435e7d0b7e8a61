use Rattle.journal_records.proofs.StopLaws.{stops-divide}
use Rattle.journal_records.proofs.laws.stops_divide.Goals as goal

pub returns : goal.returns
returns c = stops-divide
