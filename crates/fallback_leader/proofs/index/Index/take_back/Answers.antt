use Rattle.std.proofs.Common.{rules, ◌≡◌, Some, sym, ap, ◌∙◌}
use Rattle.std.specs.Prelude.{is_some}
use Rattle.std.specs.Option.{option_copied_mut}
use Rattle.fallback_leader.specs.Index.{group_at}
use Rattle.fallback_leader.proofs.IndexLaws.{takes_back}
use Rattle.fallback_leader.proofs.index.Index.take_back.Goals as goal

pub returns-in-Some : goal.returns-in-Some
returns-in-Some c =
    let found : group_at c.args.self.now c.args.id.now c.args.view ≡ Some c.in-Some.places.now = sym c.get_mut.ensures.value
    ∙ ap option_copied_mut c.in-Some.is in
    takes_back c.args.self.now (record { groups = c.get_mut.follows.lender c.pop.new.self; alloc = c.args.self.now.alloc })
    c.args.id.now c.args.view c.in-Some.places.now c.pop.new.self found (search rules)
    (λ i v. ((c.get_mut.follows.holds c.pop.new.self).3 (ap is_some found)).0 (i, v))
