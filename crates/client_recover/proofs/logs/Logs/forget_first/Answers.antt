use Rattle.std.proofs.Common.{None, cond, refl, ap, ◌∙◌}
use Rattle.basil_types.specs.Decision.{is_commit}
use Rattle.client_recover.specs.Firsts.{same_key}
use Rattle.client_recover.specs.Replies.{earliest_at}
use Rattle.client_recover.proofs.logs.Logs.forget_first.Goals as goal

pub returns : goal.returns
returns c = record {
  earliest = λ e v r.
      c.forget.ensures (is_commit e, v, r)
      ∙ ap (λ b. cond (same_key (b, c.args.decided, c.args.replica) (is_commit e, v, r)) None
      (earliest_at c.args.self.now e v r)) c.is_commit.ensures;
  latest = λ n. refl;
  count = refl;
}
