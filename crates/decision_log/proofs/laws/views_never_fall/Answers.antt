use Rattle.decision_log.specs.Runs.{cells_of}
use Rattle.decision_log.proofs.RunLaws.{in_order, never_falls}
use Rattle.decision_log.proofs.laws.views_never_fall.Goals as goal

pub returns : goal.returns
returns c =
    record {
      current = λ start steps. never_falls (λ cell. cell.current) (cells_of start steps) (λ a b h. h.current) (in_order start steps);
      decided = λ start steps. never_falls (λ cell. cell.decided) (cells_of start steps) (λ a b h. h.decided) (in_order start steps);
    }
