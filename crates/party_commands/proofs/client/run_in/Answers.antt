-- The client of the seat runs.
use Rattle.party_commands.proofs.ClientLaws.{sits_in}
use Rattle.party_commands.proofs.client.run_in.Goals as goal

pub returns-in-Ok-clause-ran : goal.returns-in-Ok-clause-ran
returns-in-Ok-clause-ran g c s moments state e ticks told =
    c.run_at.ensures.ran s moments state (sits_in c.in-Ok.seated c.args.file.now c.args.call.now.seat s c.in-Ok.ensures.sits e) ticks told
