use Rattle.std.proofs.Common.{[], subst, sym, ap, ◌∙◌, IfOk}
use Rattle.basil_types.proofs.ReplayLaws.{by_version_rises}
use Rattle.mv_store.specs.Store.{Stands}
use Rattle.serial_audit.specs.Parts.{all_told, lent}
use Rattle.serial_audit.specs.Writers.{IsRising}
use Rattle.serial_audit.proofs.Ordering.{all_ordered}
use Rattle.serial_audit.proofs.writers.writers_of.Goals as goal

pub enter_all-requires : goal.enter_all-requires
enter_all-requires c =
    subst IsRising (sym (ap lent c.deref.ensures.value ∙ c.in_ok-ordered.ensures ∙ all_ordered c.args.list.now))
    (by_version_rises c.args.list.now)

pub returns : goal.returns
returns c =
    subst (λ us. IfOk c.enter_all.result (λ store. Stands store (all_told us) []))
    (ap lent c.deref.ensures.value ∙ c.in_ok-ordered.ensures ∙ all_ordered c.args.list.now) c.enter_all.ensures
