use Rattle.std.proofs.Common.{sym}
use Rattle.run_journals.proofs.PairLaws.{disk-nowhere, disk-there}
use Rattle.run_journals.proofs.journals.Journals.disk.Goals as goal

pub returns-in_default : goal.returns-in_default
returns-in_default g c who begun values h =
    disk-nowhere g.V.Verifier g.S.Signer who begun c.args.shard c.args.index c.args.self.now.journals.items values h
    (sym c.in_default.ensures)

pub returns : goal.returns
returns g c who begun values h =
    disk-there g.V.Verifier g.S.Signer who begun c.args.shard c.args.index c.args.self.now.journals.items values h
    c.in-Some.place c.index.result.now c.index.result.now (sym c.in-Some.ensures) c.index.ensures c.disk.result.now c.disk.ensures
