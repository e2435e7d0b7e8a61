use Rattle.std.proofs.Common.{◌≡◌, ◌∙◌, ap, sym, List, [], Option}
use Rattle.basil_types.specs.declared.version.Version.{Version}
use Rattle.mv_store.specs.declared.index.Entered.{Entered}
use Rattle.mv_store.specs.Index.{writer_hit, walked, slots_between}
use Rattle.mv_store.proofs.HitLaws.{walk_finds}
use Rattle.mv_store.proofs.VersionLaws.{nothing_between, empty_filter}
use Rattle.mv_store.proofs.index.KeyIndex.writers_between.Goals as goal

pub returns-then-not-is_below-clause-value : goal.returns-then-not-is_below-clause-value
returns-then-not-is_below-clause-value c =
    let slots = slots_between c.args.low.now c.args.high.now c.args.self.now.writers.map.entries in
    let nothing : slots ≡ [] =
    empty_filter _ (λ e. nothing_between c.args.low.now c.args.high.now e.0 (sym c.is_below.ensures
    ∙ c.if-not-is_below.true)) c.args.self.now.writers.map.entries in
    c.none.ensures ∙ sym (ap (λ (xs : List (Version × Option Entered)). walked writer_hit xs) nothing)
    ∙ walk_finds (λ (e : Version × Option Entered). writer_hit e.1) slots

pub returns-clause-value : goal.returns-clause-value
returns-clause-value c =
    c.walked_between.ensures
    ∙ walk_finds (λ (e : Version
    × Option Entered). writer_hit e.1) (slots_between c.args.low.now c.args.high.now c.args.self.now.writers.map.entries)
