-- What a replica does with the cell of one transaction, step by step.
use Rattle.std.specs.Prelude.{ℕ, List, [], ◌∷◌, Option, Some, None, nat_lt, is_none, if◌then◌else◌}
use Rattle.std.specs.List.{cons_option}
use Rattle.basil_types.specs.declared.party.Decision.{Decision}
use Rattle.decision_log.specs.declared.cell.LogCell.{LogCell}
use Rattle.decision_log.specs.Cells.{cell_of, entered, adopt_fault}

-- it enters a view, or adopts the decision of a view
pub data CellStep : Type 0 where
  Enter : (view : ℕ) → CellStep
  Adopt : (decision : Decision) (view : ℕ) → CellStep

-- the cell after a step; a step that isn't lawful changes nothing
abbrev pub after : Option LogCell → CellStep → Option LogCell
after None (Enter view) = None
after (Some cell) (Enter view) = if nat_lt cell.current view then Some (entered cell view) else Some cell
after cell (Adopt decision view) = if is_none (adopt_fault cell view) then Some (cell_of decision view) else cell

-- the cells that a run of steps goes through, from the one at its start on
abbrev pub cells_of : Option LogCell → List CellStep → List LogCell
cells_of cell [] = cons_option cell []
cells_of cell (step ∷ steps) = cons_option cell (cells_of (after cell step) steps)
