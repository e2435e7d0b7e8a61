use Rattle.std.proofs.Common.{ap, ◌∙◌, arith}
use Rattle.std.specs.Prelude.{◌-◌}
use Rattle.message_pool.specs.Posts.{PoolValue, waiting_behind}
use Rattle.message_pool.proofs.PoolLaws.{behind_same}
use Rattle.message_pool.proofs.pool.Pool.next_waiting.Goals as goal

pub returns-then-before-self : goal.returns-then-before-self
returns-then-before-self c =
    let below = c.if-before-self.true in
    c.number_in.ensures ∙ ap (waiting_behind c.self.inside.passed) c.deref.ensures.value
    ∙ behind_same _ c.self.inside.passed c.self.inside.posts.items (omega (arith, below)) c.self.inside.passes
    ∙ ap (λ n. waiting_behind n c.self.inside.posts.items) c.saturating_sub-before.ensures
    ∙ ap (λ (p : PoolValue). waiting_behind (c.args.from - 1) p.posts) c.self.view_is
