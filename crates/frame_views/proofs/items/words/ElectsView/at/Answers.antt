use Rattle.std.proofs.Common.{arith, sym}
use Rattle.std.proofs.lemmas.Option.{slice_get_past}
use Rattle.basil_types.proofs.ListLaws.{begins, goes_on, met, never_ends, whole-count, whole-read}
use Rattle.frame_views.specs.Fitting.{after_word, widest}
use Rattle.frame_views.specs.Grammar.{word_at}
use Rattle.frame_views.proofs.items.words.ElectsView.at.Goals as goal

pub loop-i-init : goal.loop-i-init
loop-i-init c = record { reads = begins _ _ _ _ _; before = omega arith }

pub loop-i-preserved : goal.loop-i-preserved
loop-i-preserved c =
    record {
      reads = goes_on _ _ c.args.self.now.count c.loop-i.i c.loop-i.floor c.loop-i.rest.now _ c.in-Ok.after.now _ c.loop-i-test.true
          c.in-Ok.ensures c.loop-i.invariant.reads;
      before = omega arith;
    }

pub returns-then-i-place : goal.returns-then-i-place
returns-then-i-place c =
    let found = met
    (word_at widest) after_word c.args.self.now.count c.loop-i.i c.loop-i.floor c.loop-i.rest.now _ c.in-Ok.after.now _
    c.loop-i-test.true c.in-Ok.ensures c.loop-i.invariant.reads
    (whole-read (word_at widest) after_word c.args.self.now.count 0 c.args.self.now.bytes.now c.args.self.now.whole) in
    rw (← c.if-i-place.true) found

pub returns-in-Err : goal.returns-in-Err
returns-in-Err c =
    absurd (never_ends
    (word_at widest) after_word c.args.self.now.count c.loop-i.i c.loop-i.floor c.loop-i.rest.now c.in-Err.field-0 _ c.loop-i-test.true
    c.in-Err.ensures c.loop-i.invariant.reads (whole-read
    (word_at widest) after_word c.args.self.now.count 0 c.args.self.now.bytes.now c.args.self.now.whole))

pub returns : goal.returns
returns c =
    let len = whole-count (word_at widest) after_word c.args.self.now.count 0 c.args.self.now.bytes.now c.args.self.now.whole in
    sym (slice_get_past _ c.args.place (omega (arith, len)))
