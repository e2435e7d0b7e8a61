use Rattle.frame_views.specs.Fitting.{bounds_of, widest}
use Rattle.frame_fitting.proofs.WiderLaws.{in_widest, wider_message, wider_certificate}
use Rattle.frame_fitting.proofs.wider.may_be_written.Goals as goal

pub returns-clause-message : goal.returns-clause-message
returns-clause-message c = λ cluster m is fits. wider_message (bounds_of cluster) widest (in_widest cluster is) m fits

pub returns-clause-certificate : goal.returns-clause-certificate
returns-clause-certificate c = λ cluster m is fits. wider_certificate (bounds_of cluster) widest (in_widest cluster is) m fits
