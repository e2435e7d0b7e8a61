use Rattle.std.proofs.Common.{◌∙◌, ap, sym}
use Rattle.node_journal.specs.Opening.{self_in}
use Rattle.node_steps.specs.Pens.{pen_value}
use Rattle.replica_core.specs.Replicas.{ReplicaSelf}
use Rattle.run_journals.proofs.StopLaws.{going-again, keeps-same, self-same}
use Rattle.run_journals.proofs.journal.RunJournal.start_again.Goals as goal

pub returns-in-Ok-clause-going : goal.returns-in-Ok-clause-going
returns-in-Ok-clause-going g c me begun x left of =
    let old = c.args.self.now in
    let accepts = g.V.Verifier.accepted c.args.keys in
    let signing = g.S.Signer.fixed c.args.signer in
    let pen = pen_value (g.S.Signer.spent c.args.signer) (g.S.Signer.left_of c.args.signer) in
    let same = self-same me old.cluster old.shard old.index accepts signing
    (sym (ap (λ (m : ReplicaSelf). m.home.cluster) left.own) ∙ old.cluster_is)
    (sym (ap (λ (m : ReplicaSelf). m.home.shard) left.own) ∙ old.shard_is)
    (sym (ap (λ (m : ReplicaSelf). m.index) left.own) ∙ old.index_is) of.accepted of.signed in
    going-again c.start_again.new.self me (self_in old.cluster old.shard old.index accepts signing) begun pen old.journaled.disk.stops
    x same of.begins c.in-Ok.ensures.own
    (c.in-Ok.ensures.good x.taken
    (keeps-same me (self_in old.cluster old.shard old.index accepts signing) begun pen x.taken old.journaled.disk.disk.contents same
    of.begins left.keeps)) c.in-Ok.ensures.stops left.happened
