-- What is said of collected words and of proposals, on the definitions alone.
use Rattle.std.specs.Prelude.{◌≡◌, ℕ, List, Some}
use Rattle.std.specs.List.Sorted.{IsPermutation}
use Rattle.frame_values.specs.declared.owned.parts.ElectPart.{ElectPart}
use Rattle.fallback_leader.specs.declared.words.KeptWord.{KeptWord}
use Rattle.fallback_leader.specs.Elections.{AreApart, Elects, ProposalValue, collected, proposal_of, words_of}

-- kept words of distinct replicas per transaction and view stay so with the next word
abbrev pub WordsStayApart : Type 0
WordsStayApart =
    (f : ℕ) (kept : List KeptWord) (id : List ℕ) (view : ℕ) (word : ElectPart) →
    AreApart kept → AreApart (collected f kept id view word)

-- what is said of the words that are kept where a word makes a proposal, and of the proposal
abbrev pub OfProposals : (ℕ → List ElectPart → ProposalValue → Type 0) → Type 0
OfProposals Holds =
    (f : ℕ) (kept : List KeptWord) (id : List ℕ) (view : ℕ) (word : ElectPart) (p : ProposalValue) →
    AreApart kept → proposal_of f kept id view word ≡ Some p →
    Holds f (words_of (collected f kept id view word) id view) p

-- the proposal has the words that are kept
abbrev pub HasWords : ℕ → List ElectPart → ProposalValue → Type 0
HasWords f words p = IsPermutation words p.words

-- its words elect its decision
abbrev pub IsElected : ℕ → List ElectPart → ProposalValue → Type 0
IsElected f words p = Elects f p.words p.decision
