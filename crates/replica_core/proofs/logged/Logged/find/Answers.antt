use Rattle.std.proofs.Common.{ap, ◌∙◌}
use Rattle.std.specs.Prelude.{option_map}
use Rattle.replica_core.specs.Known.{logged_with}
use Rattle.replica_core.specs.Logs.{LoggedValue, logged_as}
use Rattle.replica_core.proofs.LoggedLaws.{copied, found}
use Rattle.replica_core.proofs.logged.Logged.find.Goals as goal

pub returns : goal.returns
returns c =
    copied (logged_as c.args.id.now) c.get.result ∙ ap (option_map (logged_as c.args.id.now)) c.get.ensures.value
    ∙ found c.args.id.now c.self.inside.logs.entries ∙ ap (λ (l : LoggedValue). logged_with l.entries c.args.id.now) c.self.view_is
