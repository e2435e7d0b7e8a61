-- What holds of each run.
use Rattle.std.specs.Prelude.{◌≡◌, List, Option, AllPairs}
use Rattle.std.specs.List.Sorted.{IsNonDecreasingBy}
use Rattle.decision_log.specs.declared.cell.LogCell.{LogCell}
use Rattle.decision_log.specs.Runs.{CellStep, cells_of}

-- two cells of a run that were decided in one view have one decision
abbrev pub OneDecisionPerDecidedView : Type 0
OneDecisionPerDecidedView =
    (start : Option LogCell) (steps : List CellStep) →
    AllPairs (λ a b. a.decided ≡ b.decided → a.decision ≡ b.decision) (cells_of start steps)

-- neither view falls
pub record ViewsNeverFall : Type 0 where
  pub current : (start : Option LogCell) (steps : List CellStep) →
      IsNonDecreasingBy (λ c. c.current) (cells_of start steps)
  pub decided : (start : Option LogCell) (steps : List CellStep) →
      IsNonDecreasingBy (λ c. c.decided) (cells_of start steps)
