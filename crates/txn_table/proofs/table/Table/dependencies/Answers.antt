use Rattle.std.proofs.Common.{◌≡◌, Some, List, take, filter, sym, ap, ◌∙◌, arith}
use Rattle.std.specs.Prelude.{slice_get, ◌||◌, ◌&&◌}
use Rattle.basil_types.specs.Shown.{transaction_of, read_of}
use Rattle.basil_types.specs.declared.transaction.parts.ReadPart.{ReadPart}
use Rattle.txn_table.specs.declared.released.Dependencies.{Dependencies}
use Rattle.txn_table.specs.Released.{is_dependency, is_place, is_aborted, is_committed, place_read}
use Rattle.txn_table.specs.Released.{outcome_read, depends, some_aborted, all_committed}
use Rattle.txn_table.proofs.Reading.{passed_more, passed_same, any_more, all_more, take_short}
use Rattle.txn_table.proofs.table.Table.dependencies.Goals as goal
use Rattle.txn_table.proofs.table.Table.dependencies.Goals.{then-is_dependency, else-is_dependency}

pub loop-place-preserved : goal.loop-place-preserved
loop-place-preserved c =
    let s = c.args.supposed.now in
    let es = c.args.self.now.entries in
    let q = is_dependency c.args.home.now in
    let reads = (transaction_of c.args.t).reads in
    let i = c.loop-place.place in
    let r = read_of c.in-Some.item in
    let at : slice_get reads i ≡ Some r = sym c.in-Some.ensures in
    let was = filter q (take i reads) in
    elim c.if-is_dependency.branch [
      | then-is_dependency w ↦
          let more = passed_more q reads i r at (sym c.is_dependency.ensures ∙ w.if-is_dependency.true) in
          record {
            here =
                ap (λ (d : Dependencies). d.here) w.found-is ∙ w.with-found.ensures.here
                ∙ ap (λ b. b || is_place s.place (place_read es r)) c.loop-place.invariant.here
                ∙ sym (ap (depends s es) more ∙ any_more (λ r. is_place s.place (place_read es r)) was r);
            aborted =
                ap (λ (d : Dependencies). d.aborted) w.found-is ∙ w.with-found.ensures.aborted
                ∙ ap (λ b. b || is_aborted (outcome_read s es r)) c.loop-place.invariant.aborted
                ∙ sym (ap (some_aborted s es) more ∙ any_more (λ r. is_aborted (outcome_read s es r)) was r);
            committed =
                ap (λ (d : Dependencies). d.committed) w.found-is ∙ w.with-found.ensures.committed
                ∙ ap (λ b. b && is_committed (outcome_read s es r)) c.loop-place.invariant.committed
                ∙ sym (ap (all_committed s es) more ∙ all_more (λ r. is_committed (outcome_read s es r)) was r);
          }
      | else-is_dependency w ↦
          let more = passed_same q reads i r at (sym c.is_dependency.ensures ∙ w.if-is_dependency.false) in
          record {
            here = ap (λ (d : Dependencies). d.here) w.found-is ∙ c.loop-place.invariant.here ∙ sym (ap (depends s es) more);
            aborted = ap (λ (d : Dependencies). d.aborted) w.found-is ∙ c.loop-place.invariant.aborted ∙ sym (ap (some_aborted s es) more);
            committed = ap (λ (d : Dependencies). d.committed) w.found-is ∙ c.loop-place.invariant.committed
                ∙ sym (ap (all_committed s es) more);
          }
    ]

pub returns-clause-here : goal.returns-clause-here
returns-clause-here c =
    let reads = (transaction_of c.args.t).reads in
    let all : take c.loop-place.place reads
    ≡ reads = take_short reads c.loop-place.place (omega (arith, c.bytes.ensures.in_range.few_reads)) in
    c.loop-place.invariant.here
    ∙ ap (λ (rs : List ReadPart). depends c.args.supposed.now c.args.self.now.entries (filter (is_dependency c.args.home.now) rs)) all

pub returns-clause-aborted : goal.returns-clause-aborted
returns-clause-aborted c =
    let reads = (transaction_of c.args.t).reads in
    let all : take c.loop-place.place reads
    ≡ reads = take_short reads c.loop-place.place (omega (arith, c.bytes.ensures.in_range.few_reads)) in
    c.loop-place.invariant.aborted
    ∙ ap (λ (rs : List ReadPart). some_aborted c.args.supposed.now c.args.self.now.entries (filter (is_dependency c.args.home.now) rs)) all

pub returns-clause-committed : goal.returns-clause-committed
returns-clause-committed c =
    let reads = (transaction_of c.args.t).reads in
    let all : take c.loop-place.place reads
    ≡ reads = take_short reads c.loop-place.place (omega (arith, c.bytes.ensures.in_range.few_reads)) in
    c.loop-place.invariant.committed
    ∙ ap (λ (rs : List ReadPart). all_committed c.args.supposed.now c.args.self.now.entries (filter (is_dependency c.args.home.now) rs)) all
