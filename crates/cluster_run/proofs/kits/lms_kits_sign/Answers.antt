use Rattle.cluster_run.proofs.KitLaws as kits
use Rattle.cluster_run.proofs.kits.lms_kits_sign.Goals as goal

pub returns : goal.returns
returns c = kits.lms_kits_sign c.has_its_size.ensures
