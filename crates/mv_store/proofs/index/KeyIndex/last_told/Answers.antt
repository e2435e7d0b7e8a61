use Rattle.std.proofs.Common.{◌≡◌, ◌∙◌, ap, option_map, rules, tests, Option, None, Some}
use Rattle.std.specs.Prelude.{MatchOption, IsSomeAnd}
use Rattle.std.specs.Map.Iter.{deref_pair}
use Rattle.std.proofs.lemmas.Iterator.Search.{find_from_yields_List}
use Rattle.mv_store.specs.Index
use Rattle.mv_store.specs.Index.{is_told, slots_below}
use Rattle.mv_store.proofs.Backwards.{YieldsList-from_last}
use Rattle.mv_store.proofs.index.KeyIndex.last_told.Goals as goal

mapped : {A B : Type 0} {P : A → B → Type 0} (shows : A → B) (o : Option A) (r : Option B)
    → MatchOption o (r ≡ None) (λ x. IsSomeAnd r (P x)) → ((x : A) (y : B) → P x y → y ≡ shows x) → r ≡ option_map shows o
mapped shows None r h k = h
mapped shows (Some x) (Some y) h k = ap Some (k x y h)
mapped shows (Some x) None h k = absurd h

pub returns-clause-value : goal.returns-clause-value
returns-clause-value c =
    let found : option_map deref_pair c.find.result
    ≡ Index.last_told c.args.committed c.args.below.now c.args.self.now.writers.map.entries =
    find_from_yields_List (λ e. is_told c.args.committed e.1) _ _ c.find.result c.find.ensures.ran
    (YieldsList-from_last (slots_below c.args.below.now c.args.self.now.writers.map.entries)
    (c.rev.ensures.source ∙ c.range.ensures.between tt)) (λ x b q k. search (rules, tests)) in
    mapped deref_pair c.find.result c.map.result c.map.ensures.cases (λ x y p. search (rules, tests)) ∙ found
