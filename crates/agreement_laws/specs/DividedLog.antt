use Rattle.std.specs.Prelude.{◌≡◌, ℕ, ◌==◌, true, false, List, [], ◌∷◌}
use Rattle.std.specs.List.{Contains}
use Rattle.agreement_laws.specs.Words.{Id, Commit, Abort, Vote, LogReply}
use Rattle.agreement_laws.specs.Settings.{Setting, Sane}
use Rattle.agreement_laws.specs.Certificates.{Elected, LoggedCommit}
use Rattle.agreement_laws.specs.Replicas.{Act, Votes, Ends, Logs, Enters, Proposes, Adopts}
use Rattle.agreement_laws.specs.Runs.{signed_of, Event, Acts, Lies, run, AreLawful, start}

-- The laws are not empty where a replica is faulty: a run in which the first logs differ, and an election settles them.

-- one shard of six replicas, of which the last is faulty; replica 1 leads each view, and nothing conflicts
abbrev pub six : Setting
six = record {
  f = 1;
  faulty = λ _ r. r == 5;
  involved = λ _ s. s == 0;
  log_shard = λ _. 0;
  leader = λ _ _. 1;
  conflict = λ _ _ _. false;
  depends = λ _ _ _. false;
}

abbrev pub divided_id : Id
divided_id = 1 ∷ []

abbrev pub one_does : (replica : ℕ) → Act → Event
one_does r a = Acts 0 r divided_id a

-- Four vote to commit, one to abort, and the faulty one says that it aborts too. By these votes three log a commit, and
-- two an abort. All five enter view 1, and its leader proposes what three of them name: each adopts it.
abbrev pub divided : List Event
divided =
    one_does 0 (Votes Commit) ∷
    one_does 1 (Votes Commit) ∷
    one_does 2 (Votes Commit) ∷
    one_does 3 (Votes Commit) ∷
    one_does 4 (Votes Abort) ∷
    Lies 0 5 (Vote 0 5 divided_id Abort) ∷
    one_does 0 (Logs Commit) ∷
    one_does 1 (Logs Commit) ∷
    one_does 2 (Logs Commit) ∷
    one_does 3 (Logs Abort) ∷
    one_does 4 (Logs Abort) ∷
    one_does 0 (Enters 1) ∷
    one_does 1 (Enters 1) ∷
    one_does 2 (Enters 1) ∷
    one_does 3 (Enters 1) ∷
    one_does 4 (Enters 1) ∷
    one_does 1 (Proposes Commit 1) ∷
    one_does 0 (Adopts Commit 1) ∷
    one_does 1 (Adopts Commit 1) ∷
    one_does 2 (Adopts Commit 1) ∷
    one_does 3 (Adopts Commit 1) ∷
    one_does 4 (Adopts Commit 1) ∷
    one_does 0 (Ends Commit) ∷
    []

-- it is lawful, the setting sane, and it ends in a commit certificate
pub record IsSettled : Type 0 where
  pub sane : Sane six
  pub lawful : AreLawful six divided start
  pub one_faulty : six.faulty 0 5 ≡ true
  pub logged_commit : Contains (signed_of (run divided start) 0 0) (LogReply 0 0 divided_id Commit 0 0)
  pub logged_abort : Contains (signed_of (run divided start) 0 4) (LogReply 0 4 divided_id Abort 0 0)
  pub elected : Elected six (signed_of (run divided start)) divided_id Commit 1
  pub certificate : LoggedCommit six (signed_of (run divided start)) divided_id
