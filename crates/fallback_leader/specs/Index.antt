-- Where the words for a view of a transaction are kept.
use Rattle.std.specs.Prelude.{◌≡◌, ℕ, suc, ◌-◌, Bool, List, [], ◌∷◌, ◌++◌, Option, ◌&&◌, ◌==◌, length}
use Rattle.std.specs.Prelude.{map, take, slice_get, option_map, option_to_list, IsSome, Vec, if◌then◌else◌}
use Rattle.std.specs.Global.{Global}
use Rattle.std.specs.List.{list_any}
use Rattle.std.specs.Option.{option_map_or}
use Rattle.std.specs.Str.{bytes_eq}
use Rattle.indexmap.specs.IndexMap.{get_by}
use Rattle.frame_values.specs.declared.owned.parts.ElectPart.{ElectPart}
use Rattle.fallback_leader.specs.declared.words.KeptWord.{KeptWord}
use Rattle.fallback_leader.specs.declared.index.Index.{Index}
use Rattle.fallback_leader.specs.Elections.{is_of, is_heard}

-- ---- the places of words, and the words at places

-- the places of the words for a view of a transaction among all that are kept
abbrev pub places_of : List KeptWord → List ℕ → ℕ → List ℕ
places_of [] id view = []
places_of (k ∷ kept) id view =
    let later = map suc (places_of kept id view) in if is_of id view k then 0 ∷ later else later

-- the word at a place, if there is one
abbrev pub word_at : List KeptWord → ℕ → List ElectPart
word_at kept place = option_to_list (option_map (λ k. k.word) (slice_get kept place))

abbrev pub words_at : List KeptWord → List ℕ → List ElectPart
words_at kept [] = []
words_at kept (place ∷ places) = word_at kept place ++ words_at kept places

-- whether a word of a replica is at one of these places
abbrev pub is_heard_at : List KeptWord → List ℕ → ℕ → Bool
is_heard_at kept places replica = list_any (λ p. is_heard (word_at kept p) replica) places

-- ---- the index

abbrev pub same_key : List ℕ → ℕ → List ℕ → ℕ → Bool
same_key id view i v = bytes_eq id i && (view == v)

-- the list of a view of a transaction, if it has one
abbrev pub group_at : Index → List ℕ → ℕ → Option (Vec ℕ Global)
group_at index id view = get_by (λ k. same_key id view k.0 k.1) index.groups

abbrev pub HasGroup : Index → List ℕ → ℕ → Type 0
HasGroup index id view = IsSome (group_at index id view)

abbrev pub places_at : Index → List ℕ → ℕ → List ℕ
places_at index id view = option_map_or (λ places. places.items) (group_at index id view) []

-- each view of each transaction has the places of its words
abbrev pub IsIndexOf : List KeptWord → Index → Type 0
IsIndexOf kept index = (id : List ℕ) (view : ℕ) → places_at index id view ≡ places_of kept id view

-- ---- its changes

abbrev pub IsSame : Index → Index → Type 0
IsSame old new = (i : List ℕ) (v : ℕ) → places_at new i v ≡ places_at old i v

-- a view of a transaction has one place more, at the end
abbrev pub Adds : Index → Index → List ℕ → ℕ → ℕ → Type 0
Adds old new id view place =
    (i : List ℕ) (v : ℕ)
    → places_at new i v ≡ places_at old i v ++ (if same_key id view i v then place ∷ [] else [])

abbrev pub without_last : List ℕ → List ℕ
without_last places = take (length places - 1) places

-- a view of a transaction has its last place no more
abbrev pub TakesBack : Index → Index → List ℕ → ℕ → Type 0
TakesBack old new id view =
    (i : List ℕ) (v : ℕ)
    → places_at new i v ≡ (if same_key id view i v then without_last (places_at old i v) else places_at old i v)
