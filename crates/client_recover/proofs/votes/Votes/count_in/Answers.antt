use Rattle.std.proofs.Common.{arith}
use Rattle.client_recover.proofs.CountLaws.{either}
use Rattle.client_recover.proofs.votes.Votes.count_in.Goals as goal

pub returns : goal.returns
returns c =
    let both = either c.args.self.now c.args.shard in
    omega (arith, c.from.ensures, c.from-2.ensures, c.count_so-commits.ensures, c.count_so-aborts.ensures, both)
