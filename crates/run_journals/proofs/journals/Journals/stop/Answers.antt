use Rattle.std.proofs.Common.{sym, ◌∙◌}
use Rattle.node_journal.specs.Steps.{handed}
use Rattle.node_steps.specs.Pens.{pen_value}
use Rattle.run_journals.specs.Kept.{AreOf}
use Rattle.run_journals.proofs.PairLaws.{its, put-nowhere, stopped-there, took-nowhere, took-there}
use Rattle.run_journals.proofs.journals.Journals.stop.Goals as goal

pub returns-in_default-clause-took : goal.returns-in_default-clause-took
returns-in_default-clause-took g c who begun values h =
    took-nowhere g.V.Verifier g.S.Signer who begun c.args.shard c.args.index c.args.self.now.journals.items values h
    (handed c.args.now c.args.from c.args.frame.now) (sym c.in_default.ensures)

pub returns-in_default-clause-journals : goal.returns-in_default-clause-journals
returns-in_default-clause-journals g c who begun values h of =
    put-nowhere g.V.Verifier g.S.Signer who begun c.args.shard c.args.index c.args.self.now.journals.items values h _
    (sym c.in_default.ensures)

pub stop-requires-clause-party : goal.stop-requires-clause-party
stop-requires-clause-party g c =
    c.requires.party
    ∙ its g.V.Verifier g.S.Signer c.args.shard c.args.index c.args.self.now.journals.items c.in-Some.place c.index_mut.result.now
    (sym c.in-Some.ensures) c.index_mut.ensures.value

pub returns-clause-took : goal.returns-clause-took
returns-clause-took g c who begun values h =
    took-there g.V.Verifier g.S.Signer who begun c.args.shard c.args.index c.args.self.now.journals.items values h
    c.in-Some.place c.index_mut.result.now c.stop.new.self (sym c.in-Some.ensures) c.index_mut.ensures.value
    (handed c.args.now c.args.from c.args.frame.now) c.stop.result c.stop.ensures.took

pub returns-clause-journals : goal.returns-clause-journals
returns-clause-journals g c who begun values h of =
    stopped-there g.V.Verifier g.S.Signer who begun c.args.shard c.args.index c.args.self.now.journals.items values h
    c.in-Some.place c.index_mut.result.now c.stop.new.self (sym c.in-Some.ensures) c.index_mut.ensures.value
    (handed c.args.now c.args.from c.args.frame.now) c.args.stop
    (λ me pen. AreOf me pen (g.V.Verifier.accepted c.args.keys) (g.S.Signer.fixed c.args.signer)
    (pen_value (g.S.Signer.spent c.args.signer) (g.S.Signer.left_of c.args.signer)))
    c.stop.result of c.stop.ensures.journal
