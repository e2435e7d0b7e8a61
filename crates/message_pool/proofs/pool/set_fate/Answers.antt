use Rattle.std.proofs.Common.{refl}
use Rattle.message_pool.proofs.PoolLaws.{bytes_kept_at, passes_kept}
use Rattle.message_pool.proofs.pool.set_fate.Goals as goal

pub returns-clause-bytes : goal.returns-clause-bytes
returns-clause-bytes c =
    bytes_kept_at c.args.posts.now c.args.place c.index-posts-place.result _ c.requires refl

pub returns-clause-passes : goal.returns-clause-passes
returns-clause-passes c count fate h = passes_kept count c.args.posts.now c.args.place _ fate h
