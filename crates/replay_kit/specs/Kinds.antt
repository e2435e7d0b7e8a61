-- The kinds of kits.
use Rattle.lms_sign.specs.declared.sets.LmsSet.TheVariants as sets
use Rattle.line_fields.specs.declared.keys_kind.KeysKind.{KeysKind}
use Rattle.line_fields.specs.declared.keys_kind.KeysKind.TheVariants.{Plain, W4H5, W4H10, W8H5, W8H10, Batch}
use Rattle.replay_kit.specs.declared.kind.KitKind.{KitKind}
use Rattle.replay_kit.specs.declared.kind.KitKind.TheVariants as kinds

-- the kind that a header asks for
abbrev pub kind_of : KeysKind → KitKind
kind_of Plain = kinds.Plain
kind_of W4H5 = kinds.Lms sets.W4H5
kind_of W4H10 = kinds.Lms sets.W4H10
kind_of W8H5 = kinds.Lms sets.W8H5
kind_of W8H10 = kinds.Lms sets.W8H10
kind_of Batch = kinds.Batch
