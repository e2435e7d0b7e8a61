use Rattle.std.proofs.Common.{sym, ◌∙◌}
use Rattle.basil_types.specs.Limits.{most_clients}
use Rattle.command_input.proofs.Counts.{client_fits, in_bound, in_least}
use Rattle.party_commands.proofs.client.read_client_number.Goals as goal

pub overflow_cast-result : goal.overflow_cast-result
overflow_cast-result c = client_fits c.as_bytes.result.now c.in-Ok.number (sym c.read_number_in.ensures ∙ c.in-Ok.is)

pub returns-in-Ok-clause-range : goal.returns-in-Ok-clause-range
returns-in-Ok-clause-range c = (
  in_least 1 most_clients c.as_bytes.result.now c.in-Ok.number (sym c.read_number_in.ensures ∙ c.in-Ok.is),
  in_bound 1 most_clients c.as_bytes.result.now c.in-Ok.number (sym c.read_number_in.ensures ∙ c.in-Ok.is),
)
