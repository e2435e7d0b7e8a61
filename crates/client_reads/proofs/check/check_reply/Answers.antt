use Rattle.frame_views.specs.Shown.{read_reply_of}
use Rattle.client_reads.proofs.FaultLaws.{ok_exactly, only_contents}
use Rattle.client_reads.proofs.check.check_reply.Goals as goal

pub returns-clause-valid : goal.returns-clause-valid
returns-clause-valid g c =
    ok_exactly c.refuse.result _ _ c.refuse.ensures
    (c.replies_exactly.ensures (g.V.Verifier.accepted c.args.keys.now) c.args.cluster.now (record {
      key = c.args.key.now;
      time = c.args.time;
      client = c.args.client;
    }) (read_reply_of c.args.reply.now) c.n.ensures.in_range c.requires)

pub returns-clause-only : goal.returns-clause-only
returns-clause-only g c =
    only_contents (g.V.Verifier.accepted c.args.keys.now) c.args.cluster.now (record {
      key = c.args.key.now;
      time = c.args.time;
      client = c.args.client;
    }) (read_reply_of c.args.reply.now) c.refuse.result c.refuse.ensures
