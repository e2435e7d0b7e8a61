use Rattle.cluster_file.specs.Text.{cluster_in}
use Rattle.party_commands.proofs.ClientLaws.{client_idle_in, client_in_file}
use Rattle.party_commands.proofs.client.run_file.Goals as goal

pub returns-in-Ok-clause-idle : goal.returns-in-Ok-clause-idle
returns-in-Ok-clause-idle g c =
    client_idle_in c.args.call.now.seat (cluster_in c.args.bytes.now) c.in-Ok.file c.in-Ok.ensures.found _ c.run_in.ensures.idle

pub returns-in-Ok-clause-still : goal.returns-in-Ok-clause-still
returns-in-Ok-clause-still g c =
    client_idle_in c.args.call.now.seat (cluster_in c.args.bytes.now) c.in-Ok.file c.in-Ok.ensures.found _ c.run_in.ensures.still

pub returns-in-Ok-clause-ran : goal.returns-in-Ok-clause-ran
returns-in-Ok-clause-ran g c s moments state e ticks told =
    c.run_in.ensures.ran s moments state
    (client_in_file c.args.call.now.seat (cluster_in c.args.bytes.now) c.in-Ok.file c.in-Ok.ensures.found s e) ticks told
