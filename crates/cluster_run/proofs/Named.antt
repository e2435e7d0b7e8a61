-- The laws of every run without a breach, from the invariant.
use Rattle.std.proofs.Common.{◌≡◌, List}
use Rattle.std.specs.Prelude.{Ok}
use Rattle.agreement_laws.specs.Laws.{FromInvariant, HoldsAtStart}
use Rattle.agreement_laws.specs.Runs as runs
use Rattle.agreement_laws.specs.Settings as settings
use Rattle.serial_laws.specs.Laws.{SettingsAreSane}
use Rattle.cluster_run.specs.Abstract.{abstract_state, abstract_setting, seen_lookup, faulty_replica}
use Rattle.cluster_run.specs.Events.{EventValue, run}
use Rattle.cluster_run.specs.RunLaws.{InEveryRun, Invariant, HaveCauses, SeenAreFound}
use Rattle.cluster_run.specs.States.{Setup, IsSetup, State, start}
use Rattle.cluster_run.proofs.Agreeing.{holds_at_start, looked, run_keeps}
use Rattle.cluster_run.proofs.Parting.{Laws}
use Rattle.cluster_run.proofs.Running.{Inv}
use Rattle.cluster_run.proofs.Sanity.{sane}

module _ (law : Laws) (at_start : HoldsAtStart) where
  inv_at : (s : Setup) → IsSetup s → (events : List EventValue) (st : State) → run s events (start s) ≡ Ok st → Inv s st
  inv_at s ok events st h = run_keeps law s ok events (start s) st (holds_at_start at_start s) h

  pub seen_are_found : SeenAreFound
  seen_are_found s ok events st h t i = looked st.watch.texts (inv_at s ok events st h).unique t i

  pub invariant_in_every_run : InEveryRun Invariant
  invariant_in_every_run s ok events st h =
      ((inv_at s ok events st h).fine (seen_lookup st) (seen_are_found s ok events st h)).invariant

-- a law that follows from the invariant holds in every run
pub in_every_run : (Law : settings.Setting → runs.State → Type 0) → SettingsAreSane → FromInvariant Law → InEveryRun Invariant →
    InEveryRun Law
in_every_run Law are_sane law invariant s ok events st h =
    law (abstract_setting s st) (sane are_sane s.cluster (faulty_replica s) (seen_lookup st) ok.few) (abstract_state st)
    (invariant s ok events st h)

pub have_causes : InEveryRun Invariant → InEveryRun HaveCauses
have_causes invariant s ok events st h = (invariant s ok events st h).causes
