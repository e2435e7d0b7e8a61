-- The two decisions.
use Rattle.std.specs.Prelude.{Bool, true, false}
use Rattle.basil_types.specs.declared.party.Decision.{Decision}
use Rattle.basil_types.specs.declared.party.Decision.TheVariants.{Commit, Abort}

abbrev pub is_commit : Decision → Bool
is_commit Commit = true
is_commit Abort = false

abbrev pub is_abort : Decision → Bool
is_abort Commit = false
is_abort Abort = true

abbrev pub same_decision : Decision → Decision → Bool
same_decision Commit d = is_commit d
same_decision Abort d = is_abort d
