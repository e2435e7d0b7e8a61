use Rattle.std.proofs.Common.{sym, ◌∙◌}
use Rattle.command_input.proofs.Counts.{byte_fits}
use Rattle.party_commands.proofs.node.read_byte.Goals as goal

pub overflow_cast-result : goal.overflow_cast-result
overflow_cast-result c = byte_fits c.as_bytes.result.now c.in-Ok.number (sym c.read_number_in.ensures ∙ c.in-Ok.is)
