use Rattle.std.proofs.Common.{rules}
use Rattle.batch_text.proofs.finding.find_place.Goals as goal

pub returns-in-Err-OtherBatch : goal.returns-in-Err-OtherBatch
returns-in-Err-OtherBatch c = search rules
