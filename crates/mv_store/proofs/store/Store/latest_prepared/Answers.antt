use Rattle.std.proofs.Common.{◌≡◌, ◌∙◌, false, None, sym, ap, rules}
use Rattle.std.specs.Option.{option_copied}
use Rattle.mv_store.proofs.SearchLaws.{latest_found, no_latest}
use Rattle.mv_store.proofs.store.Store.latest_prepared.Goals as goal

pub returns-in_err-find : goal.returns-in_err-find
returns-in_err-find c =
    λ held noted s. let none : c.from_residual.result ≡ None = search rules in none
    ∙ no_latest c.args.self.now c.args.key.now held noted s false c.args.below.now (sym c.find.ensures
    ∙ ap option_copied c.in_err-find.was)

pub returns : goal.returns
returns c =
    λ held noted s. c.latest.ensures.value
    ∙ latest_found c.args.self.now c.args.key.now held noted s (c.in_ok-find.field-0).now false c.args.below.now (sym c.find.ensures
    ∙ ap option_copied c.in_ok-find.was) c.latest.ensures.ordered
