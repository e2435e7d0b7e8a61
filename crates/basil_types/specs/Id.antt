-- The digest that names texts.
use Rattle.std.specs.Prelude.{ℕ, List}
use Rattle.sha2.specs.Sha256.{sha256}

-- SHA-256 (FIPS 180-4)
abbrev pub id_of : List ℕ → List ℕ
id_of bytes = sha256 bytes
