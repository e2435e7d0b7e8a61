use Rattle.std.proofs.Common.{◌≡◌, ◌-◌, length, Ok, arith, sym, ap, take, [], ◌∙◌, List}
use Rattle.std.proofs.lemmas.Result.{err_from_is_err_and}
use Rattle.basil_types.specs.Lists.{items_at, is_whole}
use Rattle.basil_types.proofs.ListLaws.{begins, goes_on, ends, is_done, is_shorter, reads-cut, cut-shows}
use Rattle.frame_views.specs.Values.{LogValue}
use Rattle.frame_views.specs.Spelling.{log_bytes}
use Rattle.frame_views.specs.Fitting.{FitsLog, after_log, widest}
use Rattle.frame_views.specs.Grammar.{log_at}
use Rattle.frame_views.specs.Items.{log_of}
use Rattle.frame_views.proofs.GrammarLaws.{reads_logs}
use Rattle.frame_views.proofs.items.logs.LogsView.read_some.Goals as goal

pub loop-init : goal.loop-init
loop-init c = begins _ _ _ _ _

pub loop-preserved : goal.loop-preserved
loop-preserved c =
    goes_on _ _ c.args.count c.loop.counter c.loop.floor c.loop.rest.now
    (log_of c.in_ok-item.item) c.in_ok-item.after.now _ c.loop-test.true c.in_ok-item.ensures c.loop.invariant

pub returns-in_err-item : goal.returns-in_err-item
returns-in_err-item c =
    let p = err_from_is_err_and c.from_residual.result c.from_residual.ensures.1 in
    rw (p.1, p.2) (ends _ _ c.args.count c.loop.counter c.loop.floor c.loop.rest.now c.in_err-item.field-0.0 _ c.loop-test.true
    c.in_err-item.ensures c.loop.invariant)

total : (c : goal.After-loop) → items_at (log_at c.args.bounds c.args.decided) after_log c.args.count 0 c.args.bytes.now ≡ Ok
    (c.loop.invariant.front, c.loop.rest.now)
total c = is_done _ _ c.args.count c.loop.counter c.loop.floor c.loop.rest.now _ c.loop-test.false c.loop.invariant

cut : (c : goal.After-loop) → items_at (log_at widest 0) after_log c.args.count 0
    (take (length c.args.bytes.now - length c.loop.rest.now) c.args.bytes.now) ≡ Ok (c.loop.invariant.front, [])
cut c =
    reads-cut (log_at c.args.bounds c.args.decided) after_log (log_at widest 0) log_bytes (FitsLog c.args.bounds c.args.decided)
    (reads_logs c.args.bounds widest c.requires c.args.decided 0 (omega arith)) c.args.count 0 c.args.bytes.now
    (c.loop.invariant.front, c.loop.rest.now) (λ i. omega (arith, c.type_inv.bytes i)) (total c)

pub slice_bounds-new-count : goal.slice_bounds-new-count
slice_bounds-new-count c =
    is_shorter (log_at c.args.bounds c.args.decided) after_log (log_at widest 0) log_bytes (FitsLog c.args.bounds c.args.decided)
    (reads_logs c.args.bounds widest c.requires c.args.decided 0 (omega arith)) c.args.count 0 c.args.bytes.now
    (c.loop.invariant.front, c.loop.rest.now) (λ i. omega (arith, c.type_inv.bytes i)) (total c)

pub new-requires : goal.new-requires
new-requires c = ap is_whole (cut c)

pub returns : goal.returns
returns c =
    cut-shows (log_at c.args.bounds c.args.decided) after_log (log_at widest 0) log_bytes (FitsLog c.args.bounds c.args.decided)
    (reads_logs c.args.bounds widest c.requires c.args.decided 0
    (omega arith)) c.args.count c.loop.counter 0 c.loop.floor c.args.bytes.now c.loop.rest.now
    (λ i. omega (arith, c.type_inv.bytes i)) c.loop-test.false c.loop.invariant
    ∙ ap (λ (vs : List LogValue). Ok (vs, c.loop.rest.now)) (sym c.new.ensures)
