-- What is kept of the transactions that were seen: of each id the first text.
use Rattle.std.specs.Prelude.{◌≡◌, ℕ, List, Bool, false, Option, find, option_map, Contains}
use Rattle.std.specs.Map.{lookup}
use Rattle.std.specs.Str.{bytes_eq}
use Rattle.basil_types.specs.Transaction.{TransactionValue, canonical, id}
use Rattle.premise_watch.specs.Breaches.{collides}
use Rattle.premise_watch.specs.declared.texts.Texts.{Texts}

abbrev pub has_id : List ℕ → TransactionValue → Bool
has_id i t = bytes_eq i (id t)

abbrev pub first_text : List ℕ → List TransactionValue → Option (List ℕ)
first_text i texts = option_map canonical (find (has_id i) texts)

-- no two of them are a collision
abbrev pub AreApart : List TransactionValue → Type 0
AreApart texts = (t u : TransactionValue) → Contains texts t → Contains texts u → collides t u ≡ false

-- the entries have the first text of each id, and no other text has that id
pub record AreTexts (entries : List (List ℕ × List ℕ)) (texts : List TransactionValue) : Type 0 where
  pub first : (i : List ℕ) → lookup (bytes_eq i) entries ≡ first_text i texts
  pub apart : AreApart texts

abbrev pub entries_of : Texts → List (List ℕ × List ℕ)
entries_of t = (t.first).entries
