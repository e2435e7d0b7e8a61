use Rattle.std.proofs.Common.{rules, ◌≡◌, [], ◌∷◌, ◌++◌, cond, Some, sym, ap, ◌∙◌}
use Rattle.std.specs.Prelude.{is_some}
use Rattle.std.specs.Option.{option_copied_mut}
use Rattle.fallback_leader.specs.Index.{group_at, same_key, IsSame}
use Rattle.fallback_leader.proofs.IndexLaws.{adds, same_items}
use Rattle.fallback_leader.proofs.index.Index.add.Goals as goal

pub returns-in_err-push-in-Some-clause-as_before : goal.returns-in_err-push-in-Some-clause-as_before
returns-in_err-push-in-Some-clause-as_before c =
    let middle = c.add_group.new.self in
    let found : group_at middle c.args.id.now c.args.view ≡ Some c.in-Some.places.now = sym c.get_mut.ensures.value
    ∙ ap option_copied_mut c.in-Some.is in
    let same : IsSame c.args.self.now
    (record { groups = c.get_mut.follows.lender c.push.new.self; alloc = c.add_group.new.self.alloc }) = λ i v.
    same_items middle (record { groups = c.get_mut.follows.lender c.push.new.self; alloc = c.add_group.new.self.alloc })
    c.args.id.now c.args.view c.in-Some.places.now c.push.new.self found c.in_err-push-in-Some.ensures.items
    (λ i v. ((c.get_mut.follows.holds c.push.new.self).3 (ap is_some found)).0 (i, v)) i v
    ∙ c.add_group.ensures.same i v in
    search (rules, same)

pub returns-clause-added : goal.returns-clause-added
returns-clause-added c i v =
    let middle = c.add_group.new.self in
    let found : group_at middle c.args.id.now c.args.view ≡ Some c.in-Some.places.now = sym c.get_mut.ensures.value
    ∙ ap option_copied_mut c.in-Some.is in
    adds middle (record { groups = c.get_mut.follows.lender c.push.new.self; alloc = c.add_group.new.self.alloc })
    c.args.id.now c.args.view c.args.place c.in-Some.places.now c.push.new.self found c.in_ok-push-in-Some.ensures.items
    (λ i v. ((c.get_mut.follows.holds c.push.new.self).3 (ap is_some found)).0 (i, v)) i v
    ∙ ap (λ ps. ps ++ cond (same_key c.args.id.now c.args.view i v) (c.args.place ∷ []) []) (c.add_group.ensures.same i v)
