-- Election words, and what they elect.
use Rattle.std.specs.Prelude.{◌≡◌, ℕ, ◌+◌, ◌≤◌, Bool, List, [], ◌∷◌, ◌++◌, Option, Some, None, ◌&&◌, ◌==◌}
use Rattle.std.specs.Prelude.{not, nat_le, nat_lt, length, map, filter, fold, count_by, if◌then◌else◌}
use Rattle.std.specs.List.{list_any, IsDistinct}
use Rattle.std.specs.List.Sorted.{IsStrictlyIncreasing}
use Rattle.std.specs.Map.{values_of}
use Rattle.std.specs.BTreeMap.{insert_entry}
use Rattle.std.specs.Ordering.{nat_cmp}
use Rattle.std.specs.Str.{bytes_eq}
use Rattle.basil_types.specs.declared.party.Decision.{Decision}
use Rattle.basil_types.specs.declared.party.Decision.TheVariants.{Commit, Abort}
use Rattle.basil_types.specs.Decision.{same_decision}
use Rattle.quorum_laws.specs.Numbers.{log_quorum, majority}
use Rattle.frame_values.specs.declared.owned.parts.ElectPart.{ElectPart}
use Rattle.fallback_leader.specs.declared.words.KeptWord.{KeptWord}
use Rattle.fallback_leader.specs.declared.words.Proposal.{Proposal}

-- ---- the words for one view of one transaction

abbrev pub is_of : List ℕ → ℕ → KeptWord → Bool
is_of id view k = bytes_eq k.id id && (k.view == view)

-- in the order in which they came
abbrev pub words_of : List KeptWord → List ℕ → ℕ → List ElectPart
words_of kept id view = map (λ k. k.word) (filter (is_of id view) kept)

-- whether one of a replica is among them
abbrev pub has_word : List KeptWord → List ℕ → ℕ → ℕ → Bool
has_word kept id view replica = list_any (λ k. is_of id view k && (k.word.replica == replica)) kept

-- whether one of a replica is among these words
abbrev pub is_heard : List ElectPart → ℕ → Bool
is_heard words replica = list_any (λ w. w.replica == replica) words

-- a word counts unless there is a log quorum already, or one of its replica
abbrev pub counts : ℕ → List KeptWord → List ℕ → ℕ → ElectPart → Bool
counts f kept id view word =
    nat_lt (length (words_of kept id view)) (log_quorum f) && not (has_word kept id view word.replica)

-- what is kept after a word
abbrev pub collected : ℕ → List KeptWord → List ℕ → ℕ → ElectPart → List KeptWord
collected f kept id view word =
    if counts f kept id view word then kept ++ record { id = id; view = view; word = word } ∷ [] else kept

-- no two words that are kept for one view of one transaction are of one replica
abbrev pub AreApart : List KeptWord → Type 0
AreApart kept = (id : List ℕ) (view : ℕ) → IsDistinct (λ v w. v.replica == w.replica) (words_of kept id view)

-- ---- what they elect

-- how many words name a decision, of words in whatever form
abbrev pub naming_by : {A : Type 0} → (A → Decision) → Decision → List A → ℕ
naming_by named decision words = count_by (λ w. same_decision (named w) decision) words

abbrev pub naming : Decision → List ElectPart → ℕ
naming decision words = naming_by (λ w. w.decision) decision words

-- whether so many words, of which so many name a decision, elect it
abbrev pub are_enough : ℕ → (words agreeing : ℕ) → Bool
are_enough f words agreeing = (words == log_quorum f) && nat_le (majority f) agreeing

-- the decision that a majority of a log quorum of words names
abbrev pub elected : ℕ → List ElectPart → Decision
elected f words = if nat_le (majority f) (naming Commit words) then Commit else Abort

-- exactly a log quorum of words of distinct replicas, in ascending order, of which a majority names the decision
pub record Elects (f : ℕ) (words : List ElectPart) (decision : Decision) : Type 0 where
  pub exact : length words ≡ log_quorum f
  pub ascending : IsStrictlyIncreasing (map (λ w. w.replica) words)
  pub most : majority f ≤ naming decision words

-- ---- the proposal

-- words by their replicas: a map, as its entries in the order of the replicas
abbrev pub by_replica : List ElectPart → List (ℕ × ElectPart)
by_replica words = fold (λ known w. insert_entry nat_cmp known w.replica w) [] words

-- the words, ascending by replica
abbrev pub ascending : List ElectPart → List ElectPart
ascending words = values_of (by_replica words)

-- a proposal without its list's spare room
pub record ProposalValue : Type 0 where
  pub decision : Decision
  pub words : List ElectPart

abbrev pub proposal_value : Proposal → ProposalValue
proposal_value p = record { decision = p.decision; words = p.words.items }

-- the proposal that the words of an election make
abbrev pub proposed : ℕ → List ElectPart → ProposalValue
proposed f words = record { decision = elected f words; words = words }

-- a leader proposes with the word that makes a log quorum, and only then
abbrev pub proposal_of : ℕ → List KeptWord → List ℕ → ℕ → ElectPart → Option ProposalValue
proposal_of f kept id view word =
    let words = words_of kept id view in
    if counts f kept id view word && (length words + 1 == log_quorum f)
    then Some (proposed f (ascending (words ++ word ∷ []))) else None
