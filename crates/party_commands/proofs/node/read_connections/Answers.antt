use Rattle.std.proofs.Common.{sym, ◌∙◌}
use Rattle.command_input.proofs.Counts.{in_bound}
use Rattle.party_commands.proofs.node.read_connections.Goals as goal

pub returns-in-Ok-clause-few : goal.returns-in-Ok-clause-few
returns-in-Ok-clause-few c =
    in_bound 1 1000000 c.as_bytes.result.now c.in-Ok.connections (sym c.read_number_in.ensures ∙ c.in-Ok.is)
