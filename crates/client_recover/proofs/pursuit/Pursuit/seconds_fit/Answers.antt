use Rattle.std.proofs.Common.{sym, subst}
use Rattle.client_recover.proofs.FitLaws.{AreShards, involved_shards, second_fits}
use Rattle.client_recover.proofs.pursuit.Pursuit.seconds_fit.Goals as goal

pub returns : goal.returns
returns c =
    let u = c.args.self.now in
    second_fits u.cluster c.n.ensures.in_range u.transaction u.signature u.shards
    (subst AreShards (sym u.involves) (involved_shards u.cluster u.transaction)) u.votes u.votes_signed
    c.view.ensures.in_range u.signed
