use Rattle.std.proofs.Common.{sym}
use Rattle.node_journal.specs.Steps.{handed}
use Rattle.run_journals.proofs.PairLaws.{put-nowhere, taken-there, took-nowhere, took-there}
use Rattle.run_journals.proofs.journals.Journals.take.Goals as goal

pub returns-in_default-clause-took : goal.returns-in_default-clause-took
returns-in_default-clause-took g c who begun values h =
    took-nowhere g.V.Verifier g.S.Signer who begun c.args.shard c.args.index c.args.self.now.journals.items values h
    (handed c.args.now c.args.from c.args.frame.now) (sym c.in_default.ensures)

pub returns-in_default-clause-journals : goal.returns-in_default-clause-journals
returns-in_default-clause-journals g c who begun values h =
    put-nowhere g.V.Verifier g.S.Signer who begun c.args.shard c.args.index c.args.self.now.journals.items values h _
    (sym c.in_default.ensures)

pub returns-clause-took : goal.returns-clause-took
returns-clause-took g c who begun values h =
    took-there g.V.Verifier g.S.Signer who begun c.args.shard c.args.index c.args.self.now.journals.items values h
    c.in-Some.place c.index_mut.result.now c.take.new.self (sym c.in-Some.ensures) c.index_mut.ensures.value
    (handed c.args.now c.args.from c.args.frame.now) c.take.result c.take.ensures.took

pub returns-clause-journals : goal.returns-clause-journals
returns-clause-journals g c who begun values h =
    taken-there g.V.Verifier g.S.Signer who begun c.args.shard c.args.index c.args.self.now.journals.items values h
    c.in-Some.place c.index_mut.result.now c.take.new.self (sym c.in-Some.ensures) c.index_mut.ensures.value
    (handed c.args.now c.args.from c.args.frame.now) c.take.result c.take.ensures.journal
