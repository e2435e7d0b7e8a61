-- The setting of a look-up is sane.
use Rattle.std.specs.Prelude.{ℕ, Bool, ◌≤◌}
use Rattle.agreement_laws.specs.Settings as settings
use Rattle.basil_types.specs.Setting.{Setting}
use Rattle.quorum_laws.specs.Numbers.{replicas}
use Rattle.quorum_laws.specs.Sets.{size}
use Rattle.serial_laws.specs.Laws.{SettingsAreSane}
use Rattle.cluster_run.specs.Settings.{Lookup, basis_of, setting}

pub sane : SettingsAreSane → (c : Setting) (faulty : ℕ → ℕ → Bool) (tx : Lookup) → ((s : ℕ) → size (faulty s) (replicas c.f) ≤ c.f) →
    settings.Sane (setting c faulty tx)
sane law c faulty tx few = law (basis_of c faulty tx) few
