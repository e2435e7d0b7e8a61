use Rattle.std.proofs.Common.{sym, subst}
use Rattle.client_reads.specs.Choosing.{NoneAbove}
use Rattle.client_reads.proofs.ChoiceLaws.{choice_rests, none_above}
use Rattle.client_reads.proofs.choice.choose.Goals as goal

pub returns-clause-carried : goal.returns-clause-carried
returns-clause-carried c =
    choice_rests c.args.cluster.now c.args.replies.now
    c.chosen-version.result c.is_committed.result c.chosen-version.ensures c.is_committed.ensures

pub returns-clause-greatest : goal.returns-clause-greatest
returns-clause-greatest c =
    subst (NoneAbove c.args.cluster.now c.args.replies.now)
    (sym c.chosen-version.ensures) (none_above c.args.cluster.now c.args.replies.now)
