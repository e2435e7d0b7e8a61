use Rattle.std.proofs.Common.{rules}
use Rattle.run_kit.proofs.equipping.equip.Goals as goal

pub returns-clause-owner : goal.returns-clause-owner
returns-clause-owner g c = search rules

pub returns-clause-kit : goal.returns-clause-kit
returns-clause-kit g c = search rules
