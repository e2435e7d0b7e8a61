use Rattle.lms_sign.proofs.PartLaws.{length-made, length-public, length-ident}
use Rattle.lms_sign.proofs.laws.has_its_size.Goals as goal

pub returns : goal.returns
returns c = record { signature = length-made; public = length-public; ident = length-ident }
