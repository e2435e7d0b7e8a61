use Rattle.std.specs.Prelude.{ℕ, ◌+◌, ◌≤◌, Bool}
use Rattle.quorum_laws.specs.Numbers.{replicas, one_correct, correct_ones}
use Rattle.quorum_laws.specs.Numbers.{commit_tally, abort_tally, log_quorum, majority}
use Rattle.quorum_laws.specs.Sets.{size, shared, others, SomeMember}

-- two sets of numbers below n share at least what their sizes leave no room for
abbrev pub SetsShare : Type 0
SetsShare = (n : ℕ) (p q : ℕ → Bool) → size p n + size q n ≤ n + size (shared p q) n

-- a set of replicas of a shard has at least so many members
abbrev pub HasMany : (f k : ℕ) → (ℕ → Bool) → Type 0
HasMany f k p = k ≤ size p (replicas f)

-- at most f replicas of a shard are faulty
abbrev pub AreFew : (f : ℕ) → (ℕ → Bool) → Type 0
AreFew f faulty = size faulty (replicas f) ≤ f

-- two commit tallies share so many that one is correct
abbrev pub TalliesShare : Type 0
TalliesShare =
    (f : ℕ) (p q : ℕ → Bool) →
    HasMany f (commit_tally f) p → HasMany f (commit_tally f) q →
    HasMany f (one_correct f) (shared p q)

-- two commit tallies share a correct replica
abbrev pub TalliesShareCorrect : Type 0
TalliesShareCorrect =
    (f : ℕ) (faulty p q : ℕ → Bool) → AreFew f faulty →
    HasMany f (commit_tally f) p → HasMany f (commit_tally f) q →
    SomeMember (shared (shared p q) (others faulty)) (replicas f)

-- an abort tally has a correct replica
abbrev pub TallyHasCorrect : Type 0
TallyHasCorrect =
    (f : ℕ) (faulty p : ℕ → Bool) → AreFew f faulty →
    HasMany f (abort_tally f) p →
    SomeMember (shared p (others faulty)) (replicas f)

-- a log quorum and a commit tally share a majority of an election
abbrev pub LogAndTallyShare : Type 0
LogAndTallyShare =
    (f : ℕ) (p q : ℕ → Bool) →
    HasMany f (log_quorum f) p → HasMany f (commit_tally f) q →
    HasMany f (majority f) (shared p q)

-- a log quorum and a majority of an election share a correct replica
abbrev pub LogAndMajorityShareCorrect : Type 0
LogAndMajorityShareCorrect =
    (f : ℕ) (faulty p q : ℕ → Bool) → AreFew f faulty →
    HasMany f (log_quorum f) p → HasMany f (majority f) q →
    SomeMember (shared (shared p q) (others faulty)) (replicas f)

-- two log quorums share a majority of an election in correct replicas
abbrev pub LogsShareCorrect : Type 0
LogsShareCorrect =
    (f : ℕ) (faulty p q : ℕ → Bool) → AreFew f faulty →
    HasMany f (log_quorum f) p → HasMany f (log_quorum f) q →
    HasMany f (majority f) (shared (shared p q) (others faulty))

-- so many as anybody may wait for are correct
abbrev pub CorrectAreMany : Type 0
CorrectAreMany = (f : ℕ) (faulty : ℕ → Bool) → AreFew f faulty → HasMany f (correct_ones f) (others faulty)
