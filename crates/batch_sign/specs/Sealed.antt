-- What a sealed batch keeps.
use Rattle.std.specs.Prelude.{◌≡◌, ℕ, ◌≤◌, List, length}
use Rattle.lms_ots.specs.Chains.{joined}
use Rattle.batch_sign.specs.Signatures.{Sealing, signature_of}
use Rattle.batch_sign.specs.Trees.{most_messages}

-- the signatures of the messages of a sealing, one behind the other, each of so many bytes
pub record IsSealed (s : Sealing) (size : ℕ) (bytes : List ℕ) : Type 0 where
  pub most : length s.leaves ≤ most_messages
  pub each : (place : ℕ) → length (signature_of s place) ≡ size
  pub bytes_are : bytes ≡ joined (signature_of s) (length s.leaves)
