use Rattle.std.proofs.Common.{arith}
use Rattle.std.specs.Prelude.{string_bytes}
use Rattle.party_commands.proofs.ClientLaws.{too_few}
use Rattle.party_commands.proofs.client.read_client_call.Goals as goal

pub returns-in_default-clause-value : goal.returns-in_default-clause-value
returns-in_default-clause-value c =
    let few = c.in_default.len_below in
    too_few string_bytes c.args.name.now c.args.arguments.now (omega (arith, few))
