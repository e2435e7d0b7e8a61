use Rattle.std.proofs.Common.{refl, ap}
use Rattle.std.specs.Prelude.{not, ◌&&◌, ◌||◌}
use Rattle.std.specs.Cmp.Lexicographic.{bytes_decides}
use Rattle.basil_types.specs.Transaction.{canonical}
use Rattle.txn_meta.specs.Conflicts.{is_crossed}
use Rattle.txn_meta.proofs.conflicts.no_conflict_with_itself.Goals as goal

pub returns : goal.returns
returns c t = ap (λ b. not b && (is_crossed t t || is_crossed t t)) ((bytes_decides (canonical t) (canonical t)).1 refl)
