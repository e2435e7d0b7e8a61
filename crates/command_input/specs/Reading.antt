-- What a source gives to a command, and how far it is read.
use Rattle.std.specs.Prelude.{◌≡◌, ◌⊎◌, ℕ, ◌<◌, Bool, true, List, [], ◌++◌, length, Option, Some, None}

-- so it is of the bytes that a source had: of one that tells, those; of another, some that it may have had
abbrev pub OfBytes : (left : Option (List ℕ)) → (So : (bytes : List ℕ) → Type 0) → Type 0
OfBytes (Some bytes) So = So bytes
OfBytes None So = (bytes : List ℕ) × So bytes

-- of the bytes these were read: all, or enough of them
pub record IsRead (enough : List ℕ → Bool) (bytes read : List ℕ) (left : Option (List ℕ)) : Type 0 where
  pub rest : List ℕ
  pub is : bytes ≡ read ++ rest
  pub left_is : left ≡ Some rest
  pub far : (rest ≡ []) ⊎ (enough read ≡ true)

-- the bytes were read to their end, or as far as they decide
pub record IsReadThrough (enough : List ℕ → Bool) (bytes : List ℕ) (left : Option (List ℕ)) : Type 0 where
  pub read : List ℕ
  pub is : IsRead enough bytes read left

-- the most bytes that are read at once
abbrev pub longest_piece : ℕ
longest_piece = 4096

-- of bytes of which these are left, fewer than a piece were taken beyond any that decide
pub record StopsSoon (enough : List ℕ → Bool) (bytes : List ℕ) (left : Option (List ℕ)) : Type 0 where
  pub soon : (decided beyond rest : List ℕ) → bytes ≡ decided ++ beyond ++ rest → left ≡ Some rest →
      enough decided ≡ true → length beyond < longest_piece
