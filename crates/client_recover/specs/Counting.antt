-- Which of the votes and log replies that a client took count.
use Rattle.std.specs.Prelude.{ℕ, ◌+◌, List, Bool, ◌&&◌, ◌==◌, Option, Some, None, filter, filter_map, length, map}
use Rattle.std.specs.Prelude.{take, nat_le}
use Rattle.std.specs.List.{range_with_len}
use Rattle.basil_types.specs.declared.party.Decision.{Decision}
use Rattle.basil_types.specs.Decision.{same_decision}
use Rattle.basil_types.specs.Setting.{Setting}
use Rattle.frame_views.specs.Values.{VotedValue, LogReplyValue, CertificateValue, VoteValue, LogValue, TallyValue}
use Rattle.node_steps.specs.Lists.{firsts, by_number}
use Rattle.quorum_laws.specs.Numbers.{replicas}
use Rattle.client_recover.specs.Taken.{TakenValue, TakenVote, TakenLog, TakenCertificate}

abbrev pub all_replicas : Setting → List ℕ
all_replicas c = range_with_len 0 (replicas c.f)

-- ---- what was taken, by its kind

abbrev pub vote_in : TakenValue → Option VotedValue
vote_in (TakenVote v) = Some v
vote_in (TakenLog r) = None
vote_in (TakenCertificate c) = None

abbrev pub reply_in : TakenValue → Option LogReplyValue
reply_in (TakenVote v) = None
reply_in (TakenLog r) = Some r
reply_in (TakenCertificate c) = None

abbrev pub certificate_in : TakenValue → Option CertificateValue
certificate_in (TakenVote v) = None
certificate_in (TakenLog r) = None
certificate_in (TakenCertificate c) = Some c

-- ---- votes: the first of each replica counts

abbrev pub same_voter : VotedValue → VotedValue → Bool
same_voter v w = (v.shard == w.shard) && (v.replica == w.replica)

abbrev pub counted_votes : List TakenValue → List VotedValue
counted_votes taken = firsts same_voter (filter_map vote_in taken)

abbrev pub votes_so : ℕ → Decision → VotedValue → Bool
votes_so shard d v = (v.shard == shard) && same_decision v.decision d

-- of one shard, for one decision
abbrev pub votes_for : List TakenValue → ℕ → Decision → List VotedValue
votes_for taken shard d = filter (votes_so shard d) (counted_votes taken)

abbrev pub has_votes : List TakenValue → ℕ → Decision → ℕ → Bool
has_votes taken shard d needed = nat_le needed (length (votes_for taken shard d))

-- the replicas of a shard that voted, however they did
abbrev pub voted_in : List TakenValue → ℕ → ℕ
voted_in taken shard = length (filter (λ (v : VotedValue). v.shard == shard) (counted_votes taken))

abbrev pub as_vote : VotedValue → VoteValue
as_vote v = record { replica = v.replica; signature = v.signature }

-- the votes of the lowest replicas that voted so, as many as are needed
abbrev pub tally_of : Setting → List TakenValue → Decision → (needed : ℕ) → (shard : ℕ) → TallyValue
tally_of c taken d needed shard =
    let votes = by_number (λ (v : VotedValue). v.replica) (all_replicas c) (votes_for taken shard d) in
    record { shard = shard; votes = map as_vote (take needed votes) }

-- ---- log replies: each counts

abbrev pub replies_of : List TakenValue → List LogReplyValue
replies_of taken = filter_map reply_in taken

-- two replies of one decision in one decided view
abbrev pub agrees : LogReplyValue → LogReplyValue → Bool
agrees a b = same_decision a.decision b.decision && (a.decided == b.decided)

abbrev pub as_log : LogReplyValue → LogValue
as_log r = record { replica = r.replica; current = r.current; signature = r.signature }

-- of each replica, ascending, the earliest reply that agrees with this one
abbrev pub logs_with : Setting → List TakenValue → LogReplyValue → List LogValue
logs_with c taken r =
    map as_log (by_number (λ (x : LogReplyValue). x.replica) (all_replicas c) (filter (agrees r) (replies_of taken)))

-- counted votes and log replies together
abbrev pub replies_held : List TakenValue → ℕ
replies_held taken = length (counted_votes taken) + length (replies_of taken)
