-- What a correct client takes of a read (Basil, reads).
use Rattle.std.specs.Prelude.{◌≡◌, Bool, true, ◌⊎◌, Option, Some, None}
use Rattle.basil_types.specs.declared.replayed.Latest.{Latest}
use Rattle.basil_types.specs.declared.transaction.parts.ReadPart.{ReadPart}
use Rattle.basil_types.specs.declared.version.Version.{Version}
use Rattle.basil_types.specs.Latest.{leaves}
use Rattle.basil_types.specs.Transaction.{TransactionValue, id, version_of}
use Rattle.basil_types.specs.Version.{genesis}
use Rattle.agreement_laws.specs.Words.{Id}
use Rattle.serial_laws.specs.Bases.{Basis, IsText}

-- the version that was read, where this was found
abbrev pub version_found : Option Latest → Version
version_found None = genesis
version_found (Some l) = l.version

-- What a correct client holds of a read when it signs: the key is absent at genesis; or this is what a transaction left
-- of which a commit certificate was shown, or on which the reader depends. (It takes such a dependency from f + 1
-- replies. No law below needs their number.)
abbrev pub IsTaken : Basis → (shown : Id → Bool) → ReadPart → Option Latest → Type 0
IsTaken b shown r None = r.version ≡ genesis
IsTaken b shown r (Some l) =
    (t : TransactionValue) ×
    IsText b t ×
    (version_of t ≡ r.version) ×
    (leaves t r.key ≡ Some l) ×
    ((shown (id t) ≡ true) ⊎ (r.dependency ≡ true))
