-- What `audit` leads to.
use Rattle.std.specs.Prelude.{[], ◌∷◌, ◌++◌, codes}
use Rattle.audit_text.specs.declared.finding.Finding.{Finding}
use Rattle.audit_text.specs.declared.finding.Finding.TheVariants as finding
use Rattle.command_ends.specs.Outcome.{Outcome, BadLine, Written, Stray}

abbrev pub audited : Finding → Outcome
audited (finding.BadLine line reason) = BadLine line reason
audited finding.Serial = Written (codes "serial" ++ 10 ∷ [])
audited (finding.Stray line) = Stray line
