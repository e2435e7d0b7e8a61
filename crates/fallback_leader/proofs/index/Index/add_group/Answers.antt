use Rattle.std.proofs.Common.{◌≡◌, false, Option, None, Some, refl, sym, ◌∙◌}
use Rattle.std.specs.Prelude.{is_some}
use Rattle.fallback_leader.specs.Index.{group_at}
use Rattle.fallback_leader.proofs.IndexLaws.{new_group}
use Rattle.fallback_leader.proofs.index.Index.add_group.Goals as goal

nothing : {A : Type 0} (o : Option A) → is_some o ≡ false → o ≡ None
nothing None e = refl
nothing (Some x) e = absurd cc

pub returns-clause-same : goal.returns-clause-same
returns-clause-same c =
    let none : group_at c.args.self.now c.args.id.now c.args.view ≡ None =
    nothing _ (sym c.contains_key.ensures ∙ c.if-contains_key.false) in
    new_group c.args.self.now (record { groups = c.insert.new.self; alloc = c.args.self.now.alloc })
    c.args.id.now c.args.view c.new.result none c.new.ensures.items (λ i v. c.in_ok-insert.ensures.updates.0 (i, v))
