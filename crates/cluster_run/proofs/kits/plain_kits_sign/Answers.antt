use Rattle.cluster_run.proofs.KitLaws as kits
use Rattle.cluster_run.proofs.kits.plain_kits_sign.Goals as goal

pub returns : goal.returns
returns c = kits.plain_kits_sign
