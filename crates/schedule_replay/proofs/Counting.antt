-- How many transactions have one fate, counted one after another.
use Rattle.std.proofs.Common.{◌≡◌, ℕ, ◌+◌, Bool, true, false, cond, List, [], ◌∷◌, length, map, refl, sym, ap, ◌∙◌, arith}
use Rattle.std.specs.Prelude.{Option, filter}
use Rattle.std.specs.List.{range_with_len}
use Rattle.std.proofs.lemmas.List.{length-append}
use Rattle.std.proofs.lemmas.List.FromFn.{filter_of_map_range_with_len_more}
use Rattle.basil_types.specs.declared.party.Decision.{Decision}
use Rattle.schedule_replay.specs.Replays.{ReplayValue}
use Rattle.schedule_replay.specs.Reports.{decided}
use Rattle.schedule_replay.specs.Totals.{is_same_fate}

abbrev one_of : Bool → ℕ
one_of b = cond b 1 0

module _ (fate : Option Decision) (r : ReplayValue) where
  -- of the first transactions, so many have this fate
  abbrev pub Counted : (place total : ℕ) → Type 0
  Counted place total = total ≡ length (filter (is_same_fate fate) (map (decided r.state) (range_with_len 0 place)))

  pub counted_on : (place total more : ℕ) → Counted place total → more ≡ one_of (is_same_fate fate (decided r.state place)) →
      Counted (place + 1) (total + more)
  counted_on place total more so_far one =
      ap (λ n. n + more) so_far
      ∙ ap (λ n. length before + n) (one ∙ by (is_same_fate fate (decided r.state place)))
      ∙ sym (length-append before (here (is_same_fate fate (decided r.state place))))
      ∙ sym (ap length (filter_of_map_range_with_len_more (is_same_fate fate) (decided r.state) 0 place place same))
    where
      same : 0 + place ≡ place
      same = omega arith

      before : List (Option Decision)
      before = filter (is_same_fate fate) (map (decided r.state) (range_with_len 0 place))

      here : Bool → List (Option Decision)
      here b = cond b (decided r.state place ∷ []) []

      by : (b : Bool) → one_of b ≡ length (here b)
      by true = refl
      by false = refl
