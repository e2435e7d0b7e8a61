-- Cells of logged decisions.
use Rattle.std.specs.Prelude.{ℕ, ◌≤◌, Option, Some, None, nat_lt, nat_le, if◌then◌else◌}
use Rattle.basil_types.specs.declared.party.Decision.{Decision}
use Rattle.decision_log.specs.declared.cell.LogCell.{LogCell}
use Rattle.decision_log.specs.declared.cell.LogFault.{LogFault}
use Rattle.decision_log.specs.declared.cell.LogFault.TheVariants.{StaleView, AlreadyDecidedIn}

-- a decision that was decided in a view, at a replica that is in this view
abbrev pub cell_of : Decision → ℕ → LogCell
cell_of decision view = record { decision = decision; decided = view; current = view }

-- a decision that is logged for the first time
abbrev pub first_cell : Decision → LogCell
first_cell decision = cell_of decision 0

-- the cell in another view
abbrev pub entered : LogCell → ℕ → LogCell
entered cell view = record cell { current = view }

-- why the decision of a view isn't adopted; a replica that has logged nothing adopts any
abbrev pub adopt_fault : Option LogCell → ℕ → Option LogFault
adopt_fault None view = None
adopt_fault (Some cell) view =
    if nat_lt view cell.current then Some (StaleView cell.current)
    else (if nat_le view cell.decided then Some (AlreadyDecidedIn cell.decided) else None)

-- nothing was decided in a view above the current one
abbrev pub IsOrdered : LogCell → Type 0
IsOrdered cell = cell.decided ≤ cell.current
