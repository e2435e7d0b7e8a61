-- The tokens that a piece of a line is written as.
use Rattle.std.specs.Prelude.{ℕ, List, [], ◌∷◌, ◌++◌, codes, decimal}
use Rattle.std.specs.List.{flat_map}
use Rattle.hex.specs.Hex.{encode_lower}
use Rattle.schedule_text.specs.declared.writing.pieces.Piece.{Piece}
use Rattle.schedule_text.specs.declared.writing.pieces.Piece.TheVariants.{Text, Name, Writer, Number}
use Rattle.schedule_text.specs.declared.writing.pieces.Piece.TheVariants.{Small, Labelled, Keys, Journal}
use Rattle.schedule_text.specs.declared.writing.pieces.Piece.TheVariants.{Named, Decided, Key, Value, Hex}
use Rattle.line_fields.specs.Tokens.{Token}
use Rattle.schedule_text.specs.Spelling.{keys_token, decision_token, key_token, value_token}
use Rattle.schedule_text.specs.Spelling.{writer_token, party_tokens, journal_tokens}

abbrev pub piece_tokens : Piece → List Token
piece_tokens (Text text) = text.now ∷ []
piece_tokens (Name name) = name.now ∷ []
piece_tokens (Writer writer) = writer_token writer.now ∷ []
piece_tokens (Number number) = decimal number ∷ []
piece_tokens (Small number) = decimal number ∷ []
piece_tokens (Labelled label number) = (label.now ++ decimal number) ∷ []
piece_tokens (Keys keys) = (codes "keys=" ++ keys_token keys) ∷ []
piece_tokens (Journal journal) = journal_tokens journal
piece_tokens (Named party) = party_tokens party
piece_tokens (Decided decision) = decision_token decision ∷ []
piece_tokens (Key bytes) = key_token bytes.now ∷ []
piece_tokens (Value bytes) = value_token bytes.now ∷ []
piece_tokens (Hex bytes) = encode_lower bytes.now ∷ []

-- each token behind a space
abbrev pub spaced : List Token → List ℕ
spaced tokens = flat_map (λ w. 32 ∷ w) tokens
