-- What a client's read gave it, in the terms of the argument for reads.
use Rattle.std.specs.Prelude.{◌≡◌, ℕ, Bool, true, Option, Contains}
use Rattle.basil_types.specs.declared.replayed.Latest.{Latest}
use Rattle.basil_types.specs.Transaction.{TransactionValue, IsTransaction}
use Rattle.certificates.specs.Accepted.{Accepted}
use Rattle.client_reads.specs.Replies.{IsValidReply}
use Rattle.frame_views.specs.Values.{ReadReplyValue}
use Rattle.client_core.specs.Clients.{AskedRead}
use Rattle.client_core.specs.Slots.{is_chosen, as_read, read_state}
use Rattle.agreement_laws.specs.Words.{Id}
use Rattle.serial_laws.specs.Bases.{Basis}
use Rattle.serial_laws.specs.Reads.{IsTaken}
use Rattle.law_joins.specs.Choices.{Carries, IsSeenReply}
use Rattle.cluster_run.specs.Headline.{state_in}

-- what is told of a read is what its part of the transaction may be taken from
pub record IsReadWell (b : Basis) (shown : Id → Bool) (r : AskedRead) : Type 0 where
  pub gave : Option Latest
  pub told : read_state b.numbers r ≡ state_in gave
  pub taken : IsTaken b shown (as_read b.numbers r) gave

-- so it is of each read that has its choice by valid replies that were seen
abbrev pub ReadsAreTaken : Type 0
ReadsAreTaken =
    (A : Accepted) (b : Basis) (shown : Id → Bool) (time client : ℕ) (r : AskedRead) → is_chosen b.numbers r ≡ true →
    ((reply : ReadReplyValue) → Contains r.replies reply →
    IsValidReply A b.numbers (record { key = r.key; time = time; client = client }) reply
    × IsSeenReply b shown reply) →
    ((reply : ReadReplyValue) (t : TransactionValue) → Contains r.replies reply → Carries reply t → IsTransaction t) →
    IsReadWell b shown r
