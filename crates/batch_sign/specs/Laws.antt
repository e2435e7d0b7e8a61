-- What is found of a message is real.
use Rattle.std.specs.Prelude.{◌≡◌, ℕ, true, List}
use Rattle.batch_sign.specs.Places.{IsReal, found_in}
use Rattle.batch_sign.specs.Signatures.{is_formed}

abbrev pub FindingsAreReal : Type 0
FindingsAreReal =
    (messages : List (List ℕ)) (message signature : List ℕ) → is_formed signature ≡ true
    → IsReal messages message (found_in messages message signature)
