-- Bytes that are read already, in front of those that are left.
use Rattle.std.proofs.Common.{◌≡◌, ℕ, List, [], ◌∷◌, ◌++◌, Option, Some, None, refl, sym, ap, ◌∙◌, append_assoc, append-nil, length, arith}
use Rattle.line_fields.specs.Fields.{onto, unescaped}

abbrev pub behind_bytes : List ℕ → Option (List ℕ) → Option (List ℕ)
behind_bytes front None = None
behind_bytes front (Some rest) = Some (front ++ rest)

pub behind-onto : (front : List ℕ) (b : ℕ) (o : Option (List ℕ)) → behind_bytes front (onto (Some b) o) ≡ behind_bytes (front ++ b ∷ []) o
behind-onto front b None = refl
behind-onto front b (Some rest) = ap (λ t. Some t) (sym (append_assoc front (b ∷ []) rest))

pub behind-nothing : (o : Option (List ℕ)) → behind_bytes [] o ≡ o
behind-nothing None = refl
behind-nothing (Some rest) = refl

-- where nothing is left, these are all the bytes
pub all-read : (token rest front : List ℕ) →
    length rest ≡ 0 → unescaped token ≡ behind_bytes front (unescaped rest) → Some front ≡ unescaped token
unfolding unescaped
all-read token [] front e h = ap (λ t. Some t) (sym (append-nil front)) ∙ sym h
all-read token (b ∷ rest) front e h = absurd (omega arith)
