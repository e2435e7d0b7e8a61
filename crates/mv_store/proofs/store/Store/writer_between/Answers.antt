use Rattle.std.proofs.Common.{◌∙◌, sym, ap}
use Rattle.std.specs.Option.{option_copied}
use Rattle.mv_store.proofs.SearchLaws.{writers_found, no_writers}
use Rattle.mv_store.proofs.store.Store.writer_between.Goals as goal

pub returns-in-Some : goal.returns-in-Some
returns-in-Some c =
    λ held noted s. c.writers_between.ensures.value
    ∙ writers_found c.args.self.now c.args.key.now held noted s c.in-Some.index.now c.args.low.now c.args.high.now (sym c.find.ensures
    ∙ ap option_copied c.in-Some.is) c.writers_between.ensures.ordered

pub returns-in-None : goal.returns-in-None
returns-in-None c =
    λ held noted s. c.none.ensures
    ∙ no_writers c.args.self.now c.args.key.now held noted s c.args.low.now c.args.high.now (sym c.find.ensures
    ∙ ap option_copied c.in-None.is)
