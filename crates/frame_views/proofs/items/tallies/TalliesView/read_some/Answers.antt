use Rattle.std.proofs.Common.{◌≡◌, ◌-◌, length, Ok, arith, sym, ap, take, [], ◌∙◌, List}
use Rattle.std.proofs.lemmas.Result.{err_from_is_err_and}
use Rattle.basil_types.specs.Lists.{items_at, is_whole}
use Rattle.basil_types.proofs.ListLaws.{begins, goes_on, ends, is_done, is_shorter, reads-cut, cut-shows}
use Rattle.frame_views.specs.Values.{TallyValue}
use Rattle.frame_views.specs.Spelling.{tally_bytes}
use Rattle.frame_views.specs.Fitting.{FitsTally, after_tally, widest}
use Rattle.frame_views.specs.Grammar.{tally_at}
use Rattle.frame_views.specs.Items.{tally_of}
use Rattle.frame_views.proofs.GrammarLaws.{reads_tallies}
use Rattle.frame_views.proofs.items.tallies.TalliesView.read_some.Goals as goal

pub loop-init : goal.loop-init
loop-init c = begins _ _ _ _ _

pub loop-preserved : goal.loop-preserved
loop-preserved c =
    goes_on _ _ c.args.count c.loop.counter c.loop.floor c.loop.rest.now
    (tally_of c.in_ok-item.item) c.in_ok-item.after.now _ c.loop-test.true c.in_ok-item.ensures c.loop.invariant

pub returns-in_err-item : goal.returns-in_err-item
returns-in_err-item c =
    let p = err_from_is_err_and c.from_residual.result c.from_residual.ensures.1 in
    rw (p.1, p.2) (ends _ _ c.args.count c.loop.counter c.loop.floor c.loop.rest.now c.in_err-item.field-0.0 _ c.loop-test.true
    c.in_err-item.ensures c.loop.invariant)

total : (c : goal.After-loop) → items_at (tally_at c.args.bounds) after_tally c.args.count 0 c.args.bytes.now ≡ Ok
    (c.loop.invariant.front, c.loop.rest.now)
total c = is_done _ _ c.args.count c.loop.counter c.loop.floor c.loop.rest.now _ c.loop-test.false c.loop.invariant

cut : (c : goal.After-loop) → items_at (tally_at widest) after_tally c.args.count 0
    (take (length c.args.bytes.now - length c.loop.rest.now) c.args.bytes.now) ≡ Ok (c.loop.invariant.front, [])
cut c =
    reads-cut (tally_at c.args.bounds) after_tally (tally_at widest) tally_bytes (FitsTally c.args.bounds)
    (reads_tallies c.args.bounds widest c.requires) c.args.count 0 c.args.bytes.now (c.loop.invariant.front, c.loop.rest.now)
    (λ i. omega (arith, c.type_inv.bytes i)) (total c)

pub slice_bounds-new-count : goal.slice_bounds-new-count
slice_bounds-new-count c =
    is_shorter (tally_at c.args.bounds) after_tally (tally_at widest) tally_bytes (FitsTally c.args.bounds)
    (reads_tallies c.args.bounds widest c.requires) c.args.count 0 c.args.bytes.now (c.loop.invariant.front, c.loop.rest.now)
    (λ i. omega (arith, c.type_inv.bytes i)) (total c)

pub new-requires : goal.new-requires
new-requires c = ap is_whole (cut c)

pub returns : goal.returns
returns c =
    cut-shows (tally_at c.args.bounds) after_tally (tally_at widest) tally_bytes (FitsTally c.args.bounds)
    (reads_tallies c.args.bounds widest c.requires) c.args.count c.loop.counter 0 c.loop.floor c.args.bytes.now c.loop.rest.now
    (λ i. omega (arith, c.type_inv.bytes i)) c.loop-test.false c.loop.invariant
    ∙ ap (λ (vs : List TallyValue). Ok (vs, c.loop.rest.now)) (sym c.new.ensures)
