use Rattle.std.proofs.Common.{◌∙◌, sym, ap}
use Rattle.std.specs.Option.{option_copied}
use Rattle.mv_store.proofs.SearchLaws.{readers_found, no_readers}
use Rattle.mv_store.proofs.store.Store.reader_across.Goals as goal

pub returns-in-Some : goal.returns-in-Some
returns-in-Some c =
    λ held noted s. c.readers_across.ensures.value
    ∙ readers_found c.args.self.now c.args.key.now held noted s c.in-Some.index.now c.args.at.now (sym c.find.ensures
    ∙ ap option_copied c.in-Some.is) c.readers_across.ensures.ordered

pub returns-in-None : goal.returns-in-None
returns-in-None c =
    λ held noted s. c.none.ensures
    ∙ no_readers c.args.self.now c.args.key.now held noted s c.args.at.now (sym c.find.ensures ∙ ap option_copied c.in-None.is)
