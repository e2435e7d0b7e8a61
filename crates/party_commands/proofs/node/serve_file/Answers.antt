use Rattle.std.proofs.Common.{refl}
use Rattle.cluster_file.specs.Text.{cluster_in}
use Rattle.party_commands.proofs.NodeLaws.{idle_in, in_file, not_begun}
use Rattle.party_commands.proofs.node.serve_file.Goals as goal

pub returns-in-Ok-clause-idle : goal.returns-in-Ok-clause-idle
returns-in-Ok-clause-idle g c =
    idle_in c.args.call.now.seat (cluster_in c.args.bytes.now) c.in-Ok.file c.in-Ok.ensures.found _ c.serve_in.ensures.idle

pub returns-in-Ok-clause-still : goal.returns-in-Ok-clause-still
returns-in-Ok-clause-still g c =
    idle_in c.args.call.now.seat (cluster_in c.args.bytes.now) c.in-Ok.file c.in-Ok.ensures.found _ c.serve_in.ensures.still

pub returns-in-Ok-clause-served : goal.returns-in-Ok-clause-served
returns-in-Ok-clause-served g c s n e b =
    c.serve_in.ensures.served s n
    (in_file c.args.call.now.seat (cluster_in c.args.bytes.now) c.in-Ok.file c.in-Ok.ensures.found s e) b

pub returns-in-Ok-clause-whole : goal.returns-in-Ok-clause-whole
returns-in-Ok-clause-whole g c s n e b still =
    c.serve_in.ensures.whole s n
    (in_file c.args.call.now.seat (cluster_in c.args.bytes.now) c.in-Ok.file c.in-Ok.ensures.found s e) b still

pub returns-in-Err-NoMemory-clause-stands : goal.returns-in-Err-NoMemory-clause-stands
returns-in-Err-NoMemory-clause-stands g c s n e b = not_begun s _ _ _ n _ _ refl b
