-- The signatures at the places below one, a line each.
use Rattle.std.proofs.Common.{◌≡◌, ℕ, ◌+◌, ◌++◌, [], add-one, refl}
use Rattle.batch_sign.specs.Signatures.{Sealing, signature_of}
use Rattle.batch_text.specs.Texts.{hex_line, signatures_below}

pub below_none : (s : Sealing) → signatures_below s 0 ≡ []
unfolding signatures_below
below_none s = refl

pub below_more : (s : Sealing) (n : ℕ) → signatures_below s (n + 1) ≡ signatures_below s n ++ hex_line (signature_of s n)
unfolding signatures_below
below_more s n = rw add-one refl
