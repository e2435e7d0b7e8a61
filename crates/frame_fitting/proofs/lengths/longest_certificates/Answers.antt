use Rattle.frame_fitting.proofs.LengthLaws.{longest_commit, longest_certificate}
use Rattle.frame_fitting.proofs.lengths.longest_certificates.Goals as goal

pub returns-clause-commit : goal.returns-clause-commit
returns-clause-commit c = λ cluster v is fits short. longest_commit cluster is v fits short

pub returns-clause-any : goal.returns-clause-any
returns-clause-any c = λ cluster v is fits short. longest_certificate cluster is v fits short
