-- What a pursuit stands for, and what it goes back to.
use Rattle.std.specs.Prelude.{◌≡◌, ◌-◌, List, Option, None, option_map, map, length, take, Result, Ok, Err}
use Rattle.certificates.specs.declared.fault.FrameFault.{FrameFault}
use Rattle.frame_values.specs.Owned.{certificate_value}
use Rattle.frame_views.specs.Values.{LogReplyValue}
use Rattle.client_recover.specs.declared.votes.CountedVote.{CountedVote}
use Rattle.client_recover.specs.declared.logs.Logs.{Logs}
use Rattle.client_recover.specs.declared.pursuit.Last.{Last}
use Rattle.client_recover.specs.declared.pursuit.Last.TheVariants as last
use Rattle.client_recover.specs.declared.pursuit.Pursuit.{Pursuit}
use Rattle.client_recover.specs.Taken.{PursuitValue, TakenValue}
use Rattle.client_recover.specs.Counting.{counted_votes, replies_of}
use Rattle.client_recover.specs.Certifying.{certificate_by}
use Rattle.client_recover.specs.Pursuits.{take_frame}
use Rattle.client_recover.specs.Kept.{counted}
use Rattle.client_recover.specs.Replies.{HoldsLogs, HoldsBefore}

-- ---- the pursuit of a transaction for which these frames were taken, whether or not its second stage has started

pub record StandsFor (u : Pursuit) (p : PursuitValue) : Type 0 where
  pub transaction : u.transaction ≡ p.transaction
  pub signature : u.signature ≡ p.signature
  pub votes : u.votes ≡ map counted (counted_votes p.taken)
  pub logs : HoldsLogs u.logs (replies_of p.taken)
  pub outcome : option_map certificate_value u.outcome ≡ certificate_by u.cluster p.transaction p.taken

-- ---- the pursuit that `undo` goes back to

abbrev pub votes_back : Last → List CountedVote → List CountedVote
votes_back last.Same votes = votes
votes_back last.Vote votes = take (length votes - 1) votes
votes_back (last.Log l) votes = votes
votes_back last.Outcome votes = votes

abbrev pub LogsBack : Last → Logs → List LogReplyValue → Type 0
LogsBack last.Same logs replies = HoldsLogs logs replies
LogsBack last.Vote logs replies = HoldsLogs logs replies
LogsBack (last.Log l) logs replies = HoldsBefore l logs replies
LogsBack last.Outcome logs replies = HoldsLogs logs replies

-- whatever changed a pursuit changed one that had no outcome
abbrev pub outcome_back : {A : Type 0} → Last → Option A → Option A
outcome_back last.Same outcome = outcome
outcome_back last.Vote outcome = None
outcome_back (last.Log l) outcome = None
outcome_back last.Outcome outcome = None

pub record GoesBackTo (u : Pursuit) (p : PursuitValue) : Type 0 where
  pub transaction : u.transaction ≡ p.transaction
  pub signature : u.signature ≡ p.signature
  pub votes : votes_back u.last u.votes ≡ map counted (counted_votes p.taken)
  pub logs : LogsBack u.last u.logs (replies_of p.taken)
  pub outcome :
      outcome_back u.last (option_map certificate_value u.outcome) ≡ certificate_by u.cluster p.transaction p.taken

-- ---- changes

-- the transaction, its signature and the cluster stay
pub record SameTask (old new : Pursuit) : Type 0 where
  pub transaction : new.transaction ≡ old.transaction
  pub signature : new.signature ≡ old.signature
  pub cluster : new.cluster ≡ old.cluster

-- the pursuit takes this, and `undo` goes back to what it was
pub record Takes (old new : Pursuit) (x : TakenValue) : Type 0 where
  pub now : (p : PursuitValue) → StandsFor old p → StandsFor new (take_frame old.cluster p x).pursuit
  pub back : (p : PursuitValue) → StandsFor old p → GoesBackTo new p

-- this is what is taken; there is nothing of a frame with a fault
abbrev pub TakesOf : Result TakenValue FrameFault → Pursuit → Pursuit → Type 0
TakesOf (Ok x) old new = Takes old new x
TakesOf (Err fault) old new = ⊥

-- it stands for what it stood for, and goes back to what it went back to
pub record IsAsBefore (old new : Pursuit) : Type 0 where
  pub now : (p : PursuitValue) → StandsFor old p → StandsFor new p
  pub back : (p : PursuitValue) → GoesBackTo old p → GoesBackTo new p
