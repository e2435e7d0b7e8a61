use Rattle.std.proofs.Common.{arith}
use Rattle.basil_types.specs.Setting.{Setting, IsSetting}
use Rattle.frame_views.specs.Fitting.{bounds_of, Within, widest}
use Rattle.frame_views.proofs.CertificateLaws.{again-spells}
use Rattle.frame_views.proofs.laws.kept_certificate.Goals as goal

within : (cluster : Setting) → IsSetting cluster → Within (bounds_of cluster) widest
within cluster is = record { shards = omega (arith, is.few); replicas = omega (arith, is.faulty) }

pub returns-clause-spells : goal.returns-clause-spells
returns-clause-spells c = λ cluster v is fits. (again-spells (bounds_of cluster) (within cluster is) v fits).0

pub returns-clause-same : goal.returns-clause-same
returns-clause-same c = λ cluster v is fits. (again-spells (bounds_of cluster) (within cluster is) v fits).1
