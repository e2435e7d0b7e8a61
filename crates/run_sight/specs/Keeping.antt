-- What is kept of the pairs of a transaction and a certificate that proves its decision.
use Rattle.std.specs.Prelude.{◌≡◌, ℕ, Bool, List, [], ◌∷◌, ◌++◌, Option}
use Rattle.std.specs.Prelude.{option_map, is_some, filter, find, length, map, take}
use Rattle.std.specs.Prelude.{if◌then◌else◌}
use Rattle.std.specs.Map.{lookup}
use Rattle.std.specs.Str.{bytes_eq}
use Rattle.sight_laws.specs.Seen.{committed_in}
use Rattle.basil_types.specs.declared.party.Decision.{Decision}
use Rattle.basil_types.specs.Setting.{Setting}
use Rattle.basil_types.specs.Transaction.{TransactionValue, id}
use Rattle.certificates.specs.Accepted.{Accepted}
use Rattle.certificates.specs.Refusals.{decision_of}
use Rattle.frame_views.specs.Values.{PairValue}
use Rattle.cluster_run.specs.Headline.{proves}
use Rattle.cluster_run.specs.Parts.{is_proven}
use Rattle.cluster_run.specs.States.{Setup}
use Rattle.cluster_run.specs.Telling.{is_pair_of}
use Rattle.run_sight.specs.declared.certified.Certified.{Certified}
use Rattle.run_sight.specs.declared.certified.Lengths.{Lengths}

-- decisions and committed transactions, by id
abbrev pub Decisions : Type 0
Decisions = List (List ℕ × Decision)

abbrev pub Commits : Type 0
Commits = List (List ℕ × TransactionValue)

-- ---- what is to be kept of pairs

-- the decision of the first pair of a transaction
abbrev pub decision_in : List PairValue → (named : List ℕ) → Option Decision
decision_in pairs named = option_map (λ (p : PairValue). decision_of p.certificate.body) (find (is_pair_of named) pairs)

abbrev pub by_id : TransactionValue → List ℕ × TransactionValue
by_id t = (id t, t)

-- these entries tell of each id the first decision, and list the committed transactions
pub record AreKept (decisions : Decisions) (commits : Commits) (pairs : List PairValue) : Type 0 where
  pub decided : (named : List ℕ) → lookup (bytes_eq named) decisions ≡ decision_in pairs named
  pub committed : commits ≡ map by_id (committed_in pairs)

-- ---- one entry more

abbrev pub has : {X : Type 0} → List (List ℕ × X) → List ℕ → Bool
has entries i = is_some (lookup (bytes_eq i) entries)

-- the entries with one more, where its id has none
abbrev pub with_first : {X : Type 0} → List (List ℕ × X) → List ℕ → X → List (List ℕ × X)
with_first entries i x = if has entries i then entries else entries ++ (i, x) ∷ []

-- ---- what code keeps

abbrev pub decisions_of : Certified → Decisions
decisions_of kept = (kept.decisions).entries

abbrev pub commits_of : Certified → Commits
commits_of kept = (kept.commits).entries

-- what is kept is that of these pairs
abbrev pub Keeps : Certified → List PairValue → Type 0
Keeps kept pairs = AreKept (decisions_of kept) (commits_of kept) pairs

-- and so much of it that of these
abbrev pub KeepsFirst : Certified → Lengths → List PairValue → Type 0
KeepsFirst kept n pairs = AreKept (take n.decisions (decisions_of kept)) (take n.commits (commits_of kept)) pairs

module _ (old new : Certified) where
  pub record SameKept : Type 0 where
    pub decisions : decisions_of new ≡ decisions_of old
    pub commits : commits_of new ≡ commits_of old

  -- at least what was kept is kept, in its order
  pub record HasGrown : Type 0 where
    pub decisions : take (length (decisions_of old)) (decisions_of new) ≡ decisions_of old
    pub commits : take (length (commits_of old)) (commits_of new) ≡ commits_of old

-- what a keyring accepts, and a cluster, are those of a run
pub record AreOf (A : Accepted) (c : Setting) (s : Setup) : Type 0 where
  pub accepts : A ≡ s.kit.accepts
  pub cluster : c ≡ s.cluster

-- those of more pairs that prove their decisions are kept too
abbrev pub AddsProven : Accepted → Setting → List PairValue → Certified → Certified → Type 0
AddsProven A c more old new =
    (s : Setup) (pairs : List PairValue) → AreOf A c s → Keeps old pairs →
    Keeps new (pairs ++ filter (is_proven s) more)
