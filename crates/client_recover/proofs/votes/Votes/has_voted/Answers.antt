use Rattle.std.proofs.Common.{ap, ◌∙◌}
use Rattle.client_recover.specs.Kept.{has_voted}
use Rattle.client_recover.proofs.VoterLaws.{voted}
use Rattle.client_recover.proofs.votes.Votes.has_voted.Goals as goal

pub returns : goal.returns
returns c =
    voted c.self.inside.list.items c.self.inside.voters c.self.invariant.2 c.args.shard c.args.replica c.place_of.result c.small_of.result
    c.requires c.place_of.ensures c.small_of.ensures ∙ ap (has_voted c.args.shard c.args.replica) c.self.view_is
