use Rattle.lms_sign.proofs.PathLaws.{path-to_root}
use Rattle.lms_sign.proofs.laws.path_leads_to_root.Goals as goal

pub returns : goal.returns
returns c = path-to_root
