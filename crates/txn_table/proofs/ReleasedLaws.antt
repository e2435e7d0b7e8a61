-- The places of released votes ascend, and each entry there can be released.
use Rattle.std.proofs.Common.{◌≡◌, ℕ, suc, ◌+◌, ◌≤◌, Bool, true, false, cond, List, [], ◌∷◌, Option, Some, None, refl, sym, ap, ◌∙◌, arith}
use Rattle.std.specs.Prelude.{option_map, slice_get, filter_map, is_none, ◌&&◌, ◌==◌}
use Rattle.std.specs.List.{enumerate_from, cons_option}
use Rattle.std.specs.Option.{option_and_then}
use Rattle.std.proofs.lemmas.Bool.{eqb-false, and_parts}
use Rattle.basil_types.specs.declared.party.Decision.{Decision}
use Rattle.txn_table.specs.declared.released.Home.{Home}
use Rattle.txn_table.specs.declared.released.Supposed.{Supposed}
use Rattle.txn_table.specs.Entries.{EntryValue, is_waiting, decision_of}
use Rattle.txn_table.specs.Laws.{CanBeReleased, Ascend}
use Rattle.txn_table.specs.Released.{released, released_vote, vote_after, dependencies, outcome_at}
use Rattle.txn_table.specs.Tables.{decision_at}

weaker : (s : Supposed) (es : List EntryValue) (j k : ℕ) (rs : List (ℕ × Decision)) → j ≤ k → Ascend s es k rs → Ascend s es j rs
weaker s es j k [] h a = tt
weaker s es j k (r ∷ rs) h a = (omega (arith, h, a.0), a.1, a.2)

abbrev placed_vote : ℕ → Option Decision → Option (ℕ × Decision)
placed_vote k o = option_map (λ (vote : Decision). let y : ℕ × Decision = (k, vote) in y) o

abbrev released_from : Home → Supposed → List EntryValue → ℕ → List EntryValue → List (ℕ × Decision)
released_from home s all k es = filter_map (λ x. option_map (λ vote. (x.0, vote)) (released_vote home s all x.0 x.1)) (enumerate_from k es)

cond_some : (b : Bool) (o : Option Decision) (d : Decision) → cond b o None ≡ Some d → b ≡ true
cond_some true o d e = refl
cond_some false o d e = absurd cc

nothing : (o : Option Decision) → is_none o ≡ true → o ≡ None
nothing None e = refl
nothing (Some d) e = absurd cc

not_here : (b : Bool) (x : Decision) (o : Option Decision) → is_none (cond b (Some x) o) ≡ true → (b ≡ false) × (o ≡ None)
not_here true x o e = absurd cc
not_here false x o e = (refl, nothing o e)

can_be : (home : Home) (s : Supposed) (all : List EntryValue) (k : ℕ) (e : EntryValue) (d : Decision) → slice_get all k ≡ Some e
    → released_vote home s all k e ≡ Some d → CanBeReleased s all k
can_be home s all k e d at is =
    let both = cond_some (is_waiting e.vote && is_none (outcome_at s all k)) (vote_after s all (dependencies home e.transaction)) d is in
    let parts = and_parts (is_waiting e.vote) (is_none (outcome_at s all k)) both in
    let apart = not_here (k == s.place) s.outcome (decision_at all k) parts.1 in
    record {
      entry = e;
      at = at;
      waits = parts.0;
      undecided = sym (ap (option_and_then decision_of) at) ∙ apart.1;
      other = eqb-false k s.place apart.0;
    }

module _ (home : Home) (s : Supposed) (all : List EntryValue) where
  -- one more entry in front
  step : (k : ℕ) (e : EntryValue) (rs : List (ℕ × Decision)) → Ascend s all (k + 1) rs → slice_get all k ≡ Some e → (o : Option Decision)
      → released_vote home s all k e ≡ o → Ascend s all k (cons_option (placed_vote k o) rs)
  step k e rs rest at None is = weaker s all k (k + 1) rs (omega arith) rest
  step k e rs rest at (Some d) is = (omega arith, can_be home s all k e d at is, rest)

  ascends : (k : ℕ) (es : List EntryValue) → ((i : ℕ) (e : EntryValue) → slice_get es i ≡ Some e → slice_get all (k + i) ≡ Some e)
      → Ascend s all k (released_from home s all k es)
  ascends k [] h = tt
  ascends k (e ∷ es) h =
      let rest : Ascend s all (k + 1) (released_from home s all (k + 1) es) = ascends (k + 1) es (λ i d g. let n : k + suc i
      ≡ (k + 1) + i = omega arith in sym (ap (slice_get all) n) ∙ h (suc i) d g) in
      let z : k + 0 ≡ k = omega arith in
      step k e (released_from home s all (k + 1) es) rest (sym (ap (slice_get all) z) ∙ h 0 e refl) (released_vote home s all k e) refl

  pub released_ascend : Ascend s all 0 (released home s all)
  released_ascend = ascends 0 all (λ i e g. let n : 0 + i ≡ i = omega arith in ap (slice_get all) n ∙ g)
