use Rattle.std.proofs.Common.{rules, ◌≡◌, ◌∙◌, ◌<◌, length, sym, ap}
use Rattle.std.specs.Prelude.{slice_index_or}
use Rattle.std.specs.Ordering.{nat_cmp}
use Rattle.std.specs.Cmp.Lexicographic.{slice_cmp}
use Rattle.std.specs.declared.cmp.Ordering.TheVariants.{Equal}
use Rattle.node_steps.specs.Lists.{by_key}
use Rattle.client_core.proofs.PlacingLaws.{put_equal}
use Rattle.client_core.proofs.ordered.place_of.Goals as goal

pub returns-in-Equal-clause-placed : goal.returns-in-Equal-clause-placed
returns-in-Equal-clause-placed g c = λ item same.
    let x = c.index-items-i.result in
    let within : c.loop-i.i < length c.args.items.now = search rules in
    let at : slice_index_or c.args.items.now c.loop-i.i x ≡ x = search rules in
    let equal : slice_cmp nat_cmp c.args.key.now c.key.result.now ≡ Equal = search rules in
    put_equal (by_key g.T.Keyed.key_of) item x c.args.items.now c.loop-i.i within at (c.loop-i.invariant item same)
    (ap (λ k. slice_cmp nat_cmp k (g.T.Keyed.key_of x)) same ∙ ap (slice_cmp nat_cmp c.args.key.now) (sym c.key.ensures) ∙ equal)
