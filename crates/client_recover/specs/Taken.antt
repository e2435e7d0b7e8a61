-- A transaction that a client pursues, and the frames that it took for it.
use Rattle.std.specs.Prelude.{ℕ, List, Bool}
use Rattle.basil_types.specs.declared.party.Decision.{Decision}
use Rattle.basil_types.specs.Transaction.{TransactionValue}
use Rattle.frame_views.specs.Values.{VotedValue, LogReplyValue, CertificateValue, TallyValue}

-- a valid frame that was taken for the transaction before it had an outcome
pub data TakenValue : Type 0 where
  TakenVote : (vote : VotedValue) → TakenValue
  TakenLog : (reply : LogReplyValue) → TakenValue
  TakenCertificate : (certificate : CertificateValue) → TakenValue

-- a formed transaction, its client's signature, the frames that were taken, in order, and whether its second stage has
-- started
pub record PursuitValue : Type 0 where
  pub transaction : TransactionValue
  pub signature : List ℕ
  pub taken : List TakenValue
  pub second : Bool

-- a decision with its certificate
pub record DecidedValue : Type 0 where
  pub decision : Decision
  pub certificate : CertificateValue

-- a decision to be logged, with the tallies that allow it
pub record LogsValue : Type 0 where
  pub decision : Decision
  pub tallies : List TallyValue
