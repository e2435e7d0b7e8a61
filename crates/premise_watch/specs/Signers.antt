-- Who signed which words.
use Rattle.std.specs.Prelude.{◌≡◌, ℕ, List, [], ◌∷◌, ◌++◌, Option, Vec, if◌then◌else◌}
use Rattle.std.specs.BTreeMap.{get_by}
use Rattle.std.specs.Cmp.Lexicographic.{slice_cmp}
use Rattle.std.specs.Global.{Global}
use Rattle.std.specs.List.{list_any}
use Rattle.std.specs.Option.{option_map_or}
use Rattle.std.specs.Ordering.{nat_cmp}
use Rattle.std.specs.Str.{bytes_eq}
use Rattle.basil_types.specs.declared.party.Party.{Party}
use Rattle.premise_watch.specs.declared.noted.Noted.{Noted}
use Rattle.premise_watch.specs.Breaches.{NotedWords, is_noted}
use Rattle.premise_watch.specs.Parties.{is_among}

-- the list that is kept with these words, if there is one
abbrev pub listed_at : Noted → List ℕ → Option (Vec Party Global)
listed_at noted words = get_by (λ k. slice_cmp nat_cmp words k.items) noted.signers

abbrev pub signers_of : Noted → List ℕ → List Party
signers_of noted words = option_map_or (λ parties. parties.items) (listed_at noted words) []

-- of all words the signers are those who signed them
abbrev pub AreSigners : Noted → List NotedWords → Type 0
AreSigners noted signed =
    (p : Party) (words : List ℕ) → is_among (signers_of noted words) p ≡ list_any (is_noted p words) signed

module _ (old new : Noted) where
  abbrev pub SameSigners : Type 0
  SameSigners = (words : List ℕ) → signers_of new words ≡ signers_of old words

  -- these words have one signer more
  abbrev pub Adds : List ℕ → Party → Type 0
  Adds words p =
      (w : List ℕ) → signers_of new w ≡ signers_of old w ++ (if bytes_eq words w then p ∷ [] else [])
