-- Each cell of a run against those before it.
use Rattle.std.proofs.Common.{◌≡◌, ℕ, zero, suc, ◌<◌, ◌≤◌, ◌⊎◌, inl, inr, true, false, List}
use Rattle.std.proofs.Common.{[], ◌∷◌, get_or, Option, Some, None, refl, sym, subst, ◌∙◌, arith}
use Rattle.std.specs.Prelude.{All, AllPairs, nat_lt, nat_le, is_none}
use Rattle.std.specs.List.Sorted.{IsNonDecreasingBy}
use Rattle.std.proofs.lemmas.Bool.{cases_lt, cases_Bool, cond_both, ltb-true, ltb-false, leb-false}
use Rattle.std.proofs.lemmas.List.Kept.{AllPairs-cons}
use Rattle.decision_log.specs.declared.cell.LogCell.{LogCell}
use Rattle.decision_log.specs.Cells.{cell_of, entered, adopt_fault}
use Rattle.decision_log.specs.Runs.{CellStep, Enter, Adopt, after, cells_of}

-- what a cell owes to an earlier one of its run
pub record IsLater (old new : LogCell) : Type 0 where
  pub current : old.current ≤ new.current
  pub decided : old.decided ≤ new.decided
  pub one : old.decided ≡ new.decided → old.decision ≡ new.decision

pub itself : (c : LogCell) → IsLater c c
itself c = record { current = omega arith; decided = omega arith; one = λ e. refl }

chained : (a b c : LogCell) → IsLater a b → IsLater b c → IsLater a c
chained a b c p q =
    record {
      current = omega arith;
      decided = omega arith;
      one = λ e. p.one (omega arith) ∙ q.one (omega arith);
    }

-- a cell stays a cell, and a later one
pub record Leads (old : LogCell) (new : Option LogCell) : Type 0 where
  pub cell : LogCell
  pub is : new ≡ Some cell
  pub later : IsLater old cell

-- what lets a decision be adopted
record IsLawful (c : LogCell) (view : ℕ) : Type 0 where
  current : c.current ≤ view
  decided : c.decided < view

lawful : (c : LogCell) (view : ℕ) → is_none (adopt_fault (Some c) view) ≡ true → IsLawful c view
lawful c view e = by (cases_Bool (nat_lt view c.current)) (cases_Bool (nat_le view c.decided))
  where
    by : (nat_lt view c.current ≡ true) ⊎
        (nat_lt view c.current ≡ false) → (nat_le view c.decided ≡ true) ⊎ (nat_le view c.decided ≡ false) → IsLawful c view
    by (inl p) q = absurd cc
    by (inr p) (inl q) = absurd cc
    by (inr p) (inr q) = record { current = ltb-false view c.current p; decided = leb-false view c.decided q }

leads : (c : LogCell) (step : CellStep) → Leads c (after (Some c) step)
leads c (Enter view) =
    cond_both (nat_lt c.current view) (Some (entered c view)) (Some c) (Leads c)
    (λ e. let above : c.current < view = ltb-true c.current view e in
    record { cell = entered c view; is = refl; later = record { current = omega arith; decided = omega arith; one = λ _. refl } })
    (λ _. record { cell = c; is = refl; later = itself c })
leads c (Adopt decision view) =
    cond_both (is_none (adopt_fault (Some c) view)) (Some (cell_of decision view)) (Some c) (Leads c)
    (λ e. let h = lawful c view e in
    record {
      cell = cell_of decision view;
      is = refl;
      later = record { current = omega arith; decided = omega arith; one = λ same. absurd (omega arith) };
    })
    (λ _. record { cell = c; is = refl; later = itself c })

all_cons : (c d : LogCell) (cells : List LogCell) → IsLater c d → All (IsLater c) cells → All (IsLater c) (d ∷ cells)
all_cons c d cells p h zero e l = p
all_cons c d cells p h (suc k) e l = h k e (omega arith)

later_ones : (c : LogCell) (steps : List CellStep) → All (IsLater c) (cells_of (Some c) steps)
later_ones c [] = all_cons c c [] (itself c) (λ k d l. absurd (omega arith))
later_ones c (step ∷ steps) =
    let next = leads c step in
    let rest : All (IsLater c) (cells_of (Some next.cell) steps) =
    λ k d l. chained c next.cell _ next.later (later_ones next.cell steps k d l) in
    all_cons c c (cells_of (after (Some c) step) steps) (itself c) (subst (λ o. All (IsLater c) (cells_of o steps)) (sym next.is) rest)

pub in_order : (start : Option LogCell) (steps : List CellStep) → AllPairs IsLater (cells_of start steps)
in_order None [] = λ i j d p l. absurd (omega arith)
in_order None (step ∷ steps) = in_order (after None step) steps
in_order (Some c) [] = λ i j d p l. absurd (omega arith)
in_order (Some c) (step ∷ steps) =
    let next = leads c step in
    let rest : All (IsLater c) (cells_of (Some next.cell) steps) =
    λ k d l. chained c next.cell _ next.later (later_ones next.cell steps k d l) in
    AllPairs-cons IsLater c (cells_of (after (Some c) step) steps)
    (subst (λ o. All (IsLater c) (cells_of o steps)) (sym next.is) rest) (in_order (after (Some c) step) steps)

pub never_falls : (n : LogCell → ℕ) (cells : List LogCell) →
    ((a b : LogCell) → IsLater a b → n a ≤ n b) → AllPairs IsLater cells → IsNonDecreasingBy n cells
never_falls n cells up h i j d p l = by (cases_lt i j)
  where
    by : (i < j) ⊎ (j ≤ i) → n (get_or cells i d) ≤ n (get_or cells j d)
    by (inl q) = up _ _ (h i j d q l)
    by (inr q) = let same : i ≡ j = omega arith in rw same (omega arith)
