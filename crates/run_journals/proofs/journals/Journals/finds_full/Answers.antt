use Rattle.std.proofs.Common.{ap, sym}
use Rattle.node_journal.specs.Steps.{handed}
use Rattle.run_journals.specs.Journals.{fullness}
use Rattle.run_journals.proofs.PairLaws.{full-there, same-there, took-nowhere}
use Rattle.run_journals.proofs.journals.Journals.finds_full.Goals as goal

pub returns-in_default-clause-full : goal.returns-in_default-clause-full
returns-in_default-clause-full g c who begun values h =
    ap fullness (took-nowhere g.V.Verifier g.S.Signer who begun c.args.shard c.args.index c.args.self.now.journals.items values h
    (handed c.args.now c.args.from c.args.frame.now) (sym c.in_default.ensures))

pub returns-clause-full : goal.returns-clause-full
returns-clause-full g c who begun values h =
    full-there g.V.Verifier g.S.Signer who begun c.args.shard c.args.index c.args.self.now.journals.items values h
    c.in-Some.place c.index_mut.result.now c.finds_full.new.self (sym c.in-Some.ensures) c.index_mut.ensures.value
    (handed c.args.now c.args.from c.args.frame.now) c.finds_full.result c.finds_full.ensures.full

pub returns-clause-journals : goal.returns-clause-journals
returns-clause-journals g c who begun values h =
    same-there g.V.Verifier g.S.Signer who begun c.args.shard c.args.index c.args.self.now.journals.items values h
    c.in-Some.place c.index_mut.result.now c.finds_full.new.self (sym c.in-Some.ensures) c.index_mut.ensures.value
    c.finds_full.result c.finds_full.ensures.journal
