use Rattle.basil_types.specs.Shown.{transaction_of}
use Rattle.faulty_parties.proofs.SecondLaws.{second_is}
use Rattle.faulty_parties.proofs.seconds.second.Goals as goal

pub returns : goal.returns
returns g c s st f cluster accepted posts transaction signature =
    second_is s st f c.args.decision c.args.replica (g.V.Verifier.accepted c.args.keys.now) c.args.cluster.now c.args.pool.now.posts
    (transaction_of c.args.t) c.args.signature.now c.in_ok-list.list.items c.as_slice.result.now c.in_ok-frame.frame.items
    c.from_vec.result c.log_shard.result cluster accepted posts transaction signature c.in_ok-list.ensures.tallies
    c.as_slice.ensures.value c.in_ok-frame.ensures c.from_vec.ensures c.log_shard.ensures.value
