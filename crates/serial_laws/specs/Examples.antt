-- The laws are not empty: a run in which a write is read as a dependency, deleted, and read as deleted.
use Rattle.std.specs.Prelude.{◌≡◌, ℕ, true, false, cond, List, [], ◌∷◌, Some, None}
use Rattle.std.specs.Str.{bytes_eq}
use Rattle.basil_types.specs.Latest.{leaves}
use Rattle.basil_types.specs.Transaction.{TransactionValue, id, version_of}
use Rattle.basil_types.specs.Version.{genesis}
use Rattle.agreement_laws.specs.Words.{Id, same_id, Commit}
use Rattle.agreement_laws.specs.Replicas.{Act, Votes, Waits, Ends}
use Rattle.agreement_laws.specs.Runs.{Acts}
use Rattle.serial_laws.specs.Bases.{Basis, IsSane}
use Rattle.serial_laws.specs.Committed.{AreShown}
use Rattle.serial_laws.specs.Runs.{Step, Does, Certifies, Forms, run, AreLawful, start}

abbrev pub key_a : List ℕ
key_a = 97 ∷ []

abbrev pub key_b : List ℕ
key_b = 98 ∷ []

-- it writes a
abbrev pub first : TransactionValue
first = record {
  format = 1;
  time = 10;
  client = 1;
  reads = [];
  writes = record { key = key_a; value = 120 ∷ []; deletes = false } ∷ [];
}

-- it read that as prepared, and deletes a
abbrev pub second : TransactionValue
second = record {
  format = 2;
  time = 20;
  client = 2;
  reads = record { key = key_a; version = version_of first; dependency = true } ∷ [];
  writes = record { key = key_a; value = []; deletes = true } ∷ [];
}

-- it read that deletion, and that b is absent
abbrev pub third : TransactionValue
third = record {
  format = 1;
  time = 30;
  client = 3;
  reads =
      record { key = key_a; version = version_of second; dependency = false } ∷
      record { key = key_b; version = genesis; dependency = false } ∷
      [];
  writes = [];
}

-- their ids differ, as SHA-256 has it
pub record AreApart : Type 0 where
  pub second_first : same_id (id second) (id first) ≡ false
  pub third_first : same_id (id third) (id first) ≡ false
  pub third_second : same_id (id third) (id second) ≡ false

-- one shard with one replica; it and all clients are correct
abbrev pub basis : Basis
basis = record {
  numbers = record { f = 0; shards = 1; reads = 1; delta = 0 };
  faulty = λ _ _. false;
  faulty_client = λ _. false;
  text = λ x. cond (same_id x (id first)) first (cond (same_id x (id second)) second third);
}

abbrev pub does : Id → Act → Step
does x a = Does (Acts 0 0 x a)

abbrev pub example : List Step
example =
    Forms (id first) (λ _. None) ∷
    does (id first) (Votes Commit) ∷
    Forms (id second) (λ _. leaves first key_a) ∷
    does (id second) Waits ∷
    Certifies (id first) ∷
    does (id first) (Ends Commit) ∷
    does (id second) (Votes Commit) ∷
    Certifies (id second) ∷
    Forms (id third) (λ key. cond (bytes_eq key key_a) (leaves second key_a) None) ∷
    does (id third) (Votes Commit) ∷
    Certifies (id third) ∷
    []

abbrev pub all : List TransactionValue
all = third ∷ first ∷ second ∷ []

-- the run is lawful, all three have their certificates shown, and the third was given a deletion and an absent key
pub record AreReached : Type 0 where
  pub sane : IsSane basis
  pub lawful : AreLawful basis example start
  pub shown : AreShown basis (run example start) all
  pub deleted : (run example start).given (id third) key_a ≡ Some (record { version = version_of second; value = None })
  pub absent : (run example start).given (id third) key_b ≡ None

-- wherever the three ids differ
abbrev pub ReadsAreReached : Type 0
ReadsAreReached = AreApart → AreReached
