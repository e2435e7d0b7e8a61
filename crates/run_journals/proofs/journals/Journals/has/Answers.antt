use Rattle.std.proofs.Common.{◌∙◌, ap, is_some}
use Rattle.run_journals.proofs.PairLaws.{has-same}
use Rattle.run_journals.proofs.journals.Journals.has.Goals as goal

pub returns : goal.returns
returns g c who begun values h =
    c.is_some.ensures ∙ ap is_some c.place_of.ensures
    ∙ has-same g.V.Verifier g.S.Signer who begun c.args.shard c.args.index c.args.self.now.journals.items values h
