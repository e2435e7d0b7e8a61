-- The tokens of a line, which are parted by one space.
use Rattle.std.specs.Prelude.{ℕ, List, [], ◌∷◌, ◌==◌, Option, Some, None, option_map}
use Rattle.std.specs.List.{slice_split}

abbrev pub Token : Type 0
Token = List ℕ

-- the pieces between single spaces
abbrev pub tokens : List ℕ → List Token
tokens line = slice_split (λ b. b == 32) line

-- the tokens of what stands behind a token and its space, where something does
unfoldable pub tokens_after : Option (List ℕ) → List Token
tokens_after None = []
tokens_after (Some rest) = tokens rest

-- the tokens, where they are exactly so many
unfoldable pub one_of : List Token → Option Token
one_of [] = None
one_of (a ∷ []) = Some a
one_of (a ∷ b ∷ rest) = None

unfoldable pub two_of : List Token → Option (Token × Token)
two_of [] = None
two_of (a ∷ rest) = option_map (λ t. (a, t)) (one_of rest)

unfoldable pub three_of : List Token → Option (Token × Token × Token)
three_of [] = None
three_of (a ∷ rest) = option_map (λ t. (a, t.0, t.1)) (two_of rest)

unfoldable pub four_of : List Token → Option (Token × Token × Token × Token)
four_of [] = None
four_of (a ∷ rest) = option_map (λ t. (a, t.0, t.1, t.2)) (three_of rest)

unfoldable pub five_of : List Token → Option (Token × Token × Token × Token × Token)
five_of [] = None
five_of (a ∷ rest) = option_map (λ t. (a, t.0, t.1, t.2, t.3)) (four_of rest)

unfoldable pub six_of : List Token → Option (Token × Token × Token × Token × Token × Token)
six_of [] = None
six_of (a ∷ rest) = option_map (λ t. (a, t.0, t.1, t.2, t.3, t.4)) (five_of rest)

unfoldable pub seven_of : List Token → Option (Token × Token × Token × Token × Token × Token × Token)
seven_of [] = None
seven_of (a ∷ rest) = option_map (λ t. (a, t.0, t.1, t.2, t.3, t.4, t.5)) (six_of rest)

unfoldable pub eight_of : List Token → Option (Token × Token × Token × Token × Token × Token × Token × Token)
eight_of [] = None
eight_of (a ∷ rest) = option_map (λ t. (a, t.0, t.1, t.2, t.3, t.4, t.5, t.6)) (seven_of rest)
