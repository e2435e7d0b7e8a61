use Rattle.std.proofs.Common.{sym, ◌∙◌}
use Rattle.command_input.proofs.Counts.{leaf_fits}
use Rattle.party_commands.proofs.node.read_first_leaf.Goals as goal

pub overflow_cast-result : goal.overflow_cast-result
overflow_cast-result c = leaf_fits c.as_bytes.result.now c.in-Ok.leaf (sym c.read_number_in.ensures ∙ c.in-Ok.is)
