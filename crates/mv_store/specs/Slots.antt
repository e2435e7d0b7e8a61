-- Slots by version.
use Rattle.std.specs.Prelude.{Option, None, unwrap_or, if◌then◌else◌}
use Rattle.std.specs.BTreeMap.{get}
use Rattle.basil_types.specs.Version.{version_cmp, same_version}
use Rattle.basil_types.specs.declared.version.Version.{Version}
use Rattle.mv_store.specs.declared.slots.Slots.{Slots}

-- the slot at a version: None where there is none, and Some None where it stands for room alone
abbrev pub slot_at : {T : Type 0} → Slots T → Version → Option (Option T)
slot_at s v = get version_cmp s.map v

-- what is told at a version
abbrev pub told_at : {T : Type 0} → Slots T → Version → Option T
told_at s v = unwrap_or (slot_at s v) None

-- the slot at v, once the one at this version is replaced
abbrev pub slot_after : {T : Type 0} → Version → Option (Option T) → Version → Option (Option T) → Option (Option T)
slot_after version slot v old = if same_version version v then slot else old
