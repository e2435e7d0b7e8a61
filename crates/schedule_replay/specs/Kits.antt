-- The kit that a header names.
use Rattle.basil_types.specs.Setting.{Setting}
use Rattle.cluster_run.specs.States.{KitValue}
use Rattle.replay_kit.specs.Kinds.{kind_of}
use Rattle.replay_kit.specs.Values.{replay_value}
use Rattle.line_fields.specs.declared.keys_kind.KeysKind.{KeysKind}

abbrev pub kit_of : Setting → KeysKind → KitValue
kit_of c keys = replay_value c (kind_of keys)
