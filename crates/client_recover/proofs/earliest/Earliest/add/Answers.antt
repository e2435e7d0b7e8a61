use Rattle.std.proofs.Common.{Some, arith, ap, cond, refl, sym, ◌∙◌}
use Rattle.std.specs.Map.{lookup}
use Rattle.client_recover.specs.Firsts.{Parts, number_of, part_at, same_key, same_logged}
use Rattle.client_recover.proofs.FirstLaws.{counts_more, counts_same, number_few, set_back}
use Rattle.client_recover.proofs.earliest.Earliest.add.Goals as goal

pub invariant_of-self : goal.invariant_of-self
invariant_of-self c =
    counts_same c.self.inside.parts.entries c.insert.new.self.entries c.self.inside.counts.entries _ c.self.invariant
    (λ k. ap (λ (es : Parts). lookup (same_key k) es) c.in_err-insert.ensures.err) (λ q. refl)

pub overflow_add-number : goal.overflow_add-number
overflow_add-number c = omega (arith, number_few c.args.self.now c.args.logged, c.number-number.ensures)

pub invariant_of-self-in-Ok : goal.invariant_of-self-in-Ok
invariant_of-self-in-Ok c =
    counts_more c.self.inside.parts.entries c.insert.new.self.entries c.self.inside.counts.entries c.insert-2.new.self.entries c.args.logged
    c.args.replica c.args.part c.number-number.result c.self.invariant (omega (arith, c.ranges.replica.fits))
    (ap (λ (ps : Parts). part_at ps c.args.logged c.args.replica) c.self.view_is ∙ c.requires)
    (c.number-number.ensures ∙ sym (ap (λ (ps : Parts). number_of ps c.args.logged) c.self.view_is)) c.in_ok-insert.ensures.updates.0
    c.in-Ok.ensures.updates.0

pub invariant_of-self-in-Err : goal.invariant_of-self-in-Err
invariant_of-self-in-Err c =
    counts_same c.self.inside.parts.entries c.swap_remove.new.self.entries c.self.inside.counts.entries _ c.self.invariant
    (set_back c.self.inside.parts.entries c.insert.new.self.entries c.swap_remove.new.self.entries c.args.logged c.args.replica c.args.part
    (ap (λ (ps : Parts). part_at ps c.args.logged c.args.replica) c.self.view_is ∙ c.requires) c.in_ok-insert.ensures.updates.0
    c.swap_remove.ensures.updates.0)
    (λ q. ap (λ es. lookup (same_logged q) es) c.in-Err.ensures.err)

pub returns-in-Ok-clause-added : goal.returns-in-Ok-clause-added
returns-in-Ok-clause-added c k =
    c.in_ok-insert.ensures.updates.0 k
    ∙ ap (λ (es : Parts). cond (same_key (c.args.logged.0, c.args.logged.1, c.args.replica) k) (Some c.args.part) (lookup (same_key k) es))
    c.self.view_is

pub returns-in-Err-clause-as_before : goal.returns-in-Err-clause-as_before
returns-in-Err-clause-as_before c k =
    set_back c.self.inside.parts.entries c.insert.new.self.entries c.swap_remove.new.self.entries c.args.logged c.args.replica c.args.part
    (ap (λ (ps : Parts). part_at ps c.args.logged c.args.replica) c.self.view_is ∙ c.requires) c.in_ok-insert.ensures.updates.0
    c.swap_remove.ensures.updates.0 k
    ∙ ap (λ (es : Parts). lookup (same_key k) es) c.self.view_is
