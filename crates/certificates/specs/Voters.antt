-- Sets of replicas with a listed and accepted signature.
use Rattle.std.specs.Prelude.{ℕ, ◌≤◌, ◌==◌, ◌&&◌, List, Bool}
use Rattle.std.specs.List.{list_any}
use Rattle.basil_types.specs.declared.party.Decision.{Decision}
use Rattle.frame_views.specs.Values.{TallyValue, LoggedValue}
use Rattle.frame_views.specs.Signed.{vote_signed, one_logged}
use Rattle.quorum_laws.specs.Numbers.{replicas, log_quorum}
use Rattle.quorum_laws.specs.Sets.{size}
use Rattle.certificates.specs.Accepted.{Accepted, accepts}

-- the replicas of a shard of which a vote on this id is listed and accepted
abbrev pub voters : Accepted → (id : List ℕ) → Decision → TallyValue → ℕ → Bool
voters A id d tally r = list_any (λ v. (v.replica == r) && accepts A (vote_signed tally.shard id d v)) tally.votes

-- there are at least so many of them
abbrev pub Voted : Accepted → (f : ℕ) → (id : List ℕ) → Decision → (needed : ℕ) → TallyValue → Type 0
Voted A f id d needed tally = needed ≤ size (voters A id d tally) (replicas f)

-- the replicas of which a log reply with the listed decision and decided view is listed and accepted
abbrev pub loggers : Accepted → (id : List ℕ) → LoggedValue → ℕ → Bool
loggers A id l r =
    list_any (λ reply. (reply.replica == r) && accepts A (one_logged l.shard id l.decision l.decided reply)) l.logs

-- they are a log quorum
abbrev pub Logged : Accepted → (f : ℕ) → (id : List ℕ) → LoggedValue → Type 0
Logged A f id l = log_quorum f ≤ size (loggers A id l) (replicas f)
