use Rattle.std.specs.Prelude.{◌==◌, ◌&&◌, false, not, List, [], ◌∷◌}
use Rattle.agreement_laws.specs.Words.{Id, same_id, Commit, Abort}
use Rattle.agreement_laws.specs.Settings.{Setting, Sane}
use Rattle.agreement_laws.specs.Certificates.{FastCommit, LoggedCommit, FastAbort, LoggedAbort, ConflictAbort}
use Rattle.agreement_laws.specs.Replicas.{Act, Votes, Ends, Logs, Enters, Proposes, Adopts}
use Rattle.agreement_laws.specs.Runs.{signed_of, Event, Acts, Shows, run, AreLawful, start}

-- The laws are not empty: a run in which each kind of certificate comes about.

-- one shard with one replica, which is correct; two ids conflict where they differ
abbrev pub alone : Setting
alone = record {
  f = 0;
  faulty = λ _ _. false;
  involved = λ _ s. s == 0;
  log_shard = λ _. 0;
  leader = λ _ _. 0;
  conflict = λ x y s. not (same_id x y) && (s == 0);
  depends = λ _ _ _. false;
}

abbrev pub first_id : Id
first_id = 1 ∷ []

abbrev pub second_id : Id
second_id = 2 ∷ []

abbrev pub third_id : Id
third_id = 3 ∷ []

abbrev pub does : Id → Act → Event
does x a = Acts 0 0 x a

-- The first commits, fast and logged in view 1. The second is aborted by it. The third is aborted, fast and logged.
abbrev pub example : List Event
example =
    does first_id (Votes Commit) ∷
    does first_id (Logs Commit) ∷
    does first_id (Enters 1) ∷
    does first_id (Proposes Commit 1) ∷
    does first_id (Adopts Commit 1) ∷
    does first_id (Ends Commit) ∷
    does second_id (Votes Abort) ∷
    Shows second_id ∷
    does second_id (Ends Abort) ∷
    does third_id (Votes Abort) ∷
    does third_id (Logs Abort) ∷
    []

-- all kinds of certificate, in one lawful run of a sane setting
pub record AreReached : Type 0 where
  pub sane : Sane alone
  pub lawful : AreLawful alone example start
  pub fast_commit : FastCommit alone (signed_of (run example start)) first_id
  pub logged_commit : LoggedCommit alone (signed_of (run example start)) first_id
  pub conflict_abort : ConflictAbort alone (signed_of (run example start)) second_id
  pub fast_abort : FastAbort alone (signed_of (run example start)) third_id
  pub logged_abort : LoggedAbort alone (signed_of (run example start)) third_id
