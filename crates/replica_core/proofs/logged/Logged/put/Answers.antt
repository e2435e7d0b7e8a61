use Rattle.std.proofs.Common.{map, ap, ◌∙◌}
use Rattle.replica_core.specs.Known.{put_logged}
use Rattle.replica_core.specs.Logs.{LoggedValue, logged_as}
use Rattle.replica_core.proofs.LoggedLaws.{put_in}
use Rattle.replica_core.proofs.logged.Logged.put.Goals as goal

pub returns : goal.returns
returns c =
    ap (map (λ e. logged_as e.0 e.1)) c.in-Ok.ensures.entries ∙ put_in c.args.id c.args.log c.self.inside.logs.entries
    ∙ ap (λ (l : LoggedValue). put_logged (logged_as c.args.id c.args.log) l.entries) c.self.view_is
