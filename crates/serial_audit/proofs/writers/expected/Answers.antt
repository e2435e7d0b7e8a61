use Rattle.std.proofs.Common.{[], ap, ◌∙◌}
use Rattle.basil_types.specs.Replayed.{by_version}
use Rattle.serial_audit.specs.Parts.{all_told}
use Rattle.serial_audit.proofs.Expecting.{version_told, told_expected}
use Rattle.serial_audit.proofs.writers.expected.Goals as goal

pub returns-in-Some : goal.returns-in-Some
returns-in-Some c ts st =
    ap version_told (c.in-Some.ensures (all_told (by_version ts)) [] st) ∙ told_expected ts c.args.reader.now c.args.key.now

pub returns-in-None : goal.returns-in-None
returns-in-None c ts st =
    c.genesis.ensures ∙ ap version_told (c.in-None.ensures (all_told (by_version ts)) [] st)
    ∙ told_expected ts c.args.reader.now c.args.key.now
