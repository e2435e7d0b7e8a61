-- What a pursuit keeps of votes and log replies, and what follows from it.
use Rattle.std.specs.Prelude.{ℕ, List, [], ◌∷◌, Bool, ◌&&◌, ◌==◌, Option, Some, None, find, filter, length, map, take}
use Rattle.std.specs.Prelude.{nat_le, if◌then◌else◌}
use Rattle.std.specs.List.{list_all, list_any}
use Rattle.basil_types.specs.Built.{or_else}
use Rattle.basil_types.specs.declared.party.Decision.{Decision}
use Rattle.basil_types.specs.declared.party.Decision.TheVariants.{Commit, Abort}
use Rattle.basil_types.specs.Decision.{same_decision}
use Rattle.basil_types.specs.Setting.{Setting}
use Rattle.frame_values.specs.declared.owned.parts.LogPart.{LogPart}
use Rattle.frame_values.specs.declared.owned.parts.InvokePart.{InvokePart}
use Rattle.frame_views.specs.Values.{VotedValue, LogReplyValue, VoteValue, TallyValue, BodyValue, CertificateValue}
use Rattle.frame_views.specs.Values.{Commits, FastCommit, FastAbort}
use Rattle.node_steps.specs.Lists.{by_number}
use Rattle.quorum_laws.specs.Numbers.{replicas, fast_commit, commit_tally, abort_tally, fast_abort}
use Rattle.client_recover.specs.declared.votes.CountedVote.{CountedVote}
use Rattle.client_recover.specs.Taken.{LogsValue}
use Rattle.client_recover.specs.Counting.{all_replicas}

-- ---- what is kept

-- of a vote that counts
abbrev pub counted : VotedValue → CountedVote
counted v = record { shard = v.shard; replica = v.replica; decision = v.decision; signature = v.signature }

-- of the earliest log reply of a replica for a decision in a view
abbrev pub as_part : LogReplyValue → LogPart
as_part r = record { replica = r.replica; current = r.current; signature = r.signature }

-- of the latest log reply of a replica
abbrev pub as_latest : LogReplyValue → InvokePart
as_latest r =
    record {
      replica = r.replica;
      decision = r.decision;
      decided = r.decided;
      current = r.current;
      signature = r.signature;
    }

-- ---- the votes of a shard

abbrev pub is_by : ℕ → ℕ → CountedVote → Bool
is_by shard replica v = (shard == v.shard) && (replica == v.replica)

abbrev pub has_voted : ℕ → ℕ → List CountedVote → Bool
has_voted shard replica votes = list_any (is_by shard replica) votes

abbrev pub is_so : ℕ → Decision → CountedVote → Bool
is_so shard d v = (v.shard == shard) && same_decision v.decision d

abbrev pub votes_so : List CountedVote → Decision → ℕ → List CountedVote
votes_so votes d shard = filter (is_so shard d) votes

abbrev pub are_enough : List CountedVote → Decision → ℕ → ℕ → Bool
are_enough votes d needed shard = nat_le needed (length (votes_so votes d shard))

abbrev pub has_all : Setting → List CountedVote → ℕ → Bool
has_all c votes shard = nat_le (replicas c.f) (length (filter (λ (v : CountedVote). v.shard == shard) votes))

abbrev pub part_of : CountedVote → VoteValue
part_of v = record { replica = v.replica; signature = v.signature }

abbrev pub tally : Setting → List CountedVote → Decision → (needed : ℕ) → (shard : ℕ) → TallyValue
tally c votes d needed shard =
    let ascending = by_number (λ (v : CountedVote). v.replica) (all_replicas c) (votes_so votes d shard) in
    record { shard = shard; votes = map part_of (take needed ascending) }

-- ---- what the votes of these shards decide, and what they let be logged

abbrev pub each_enough : List ℕ → List CountedVote → Decision → ℕ → Bool
each_enough shards votes d needed = list_all (are_enough votes d needed) shards

abbrev pub lowest_enough : List ℕ → List CountedVote → Decision → ℕ → Option ℕ
lowest_enough shards votes d needed = find (are_enough votes d needed) shards

abbrev pub tallies : Setting → List ℕ → List CountedVote → Decision → ℕ → List TallyValue
tallies c shards votes d needed = map (tally c votes d needed) shards

abbrev pub certified : List ℕ → BodyValue → CertificateValue
certified id body = record { id = id; body = body }

abbrev pub fast_commit_by : Setting → List ℕ → List ℕ → List CountedVote → Option CertificateValue
fast_commit_by c id shards votes =
    if each_enough shards votes Commit (fast_commit c.f)
    then Some (certified id (Commits (FastCommit (tallies c shards votes Commit (fast_commit c.f))))) else None

abbrev pub fast_abort_of : Setting → List ℕ → List CountedVote → Option ℕ → Option CertificateValue
fast_abort_of c id votes None = None
fast_abort_of c id votes (Some shard) = Some (certified id (FastAbort (tally c votes Abort (fast_abort c.f) shard)))

abbrev pub fast_by : Setting → List ℕ → List ℕ → List CountedVote → Option CertificateValue
fast_by c id shards votes =
    or_else (fast_commit_by c id shards votes)
    (fast_abort_of c id votes (lowest_enough shards votes Abort (fast_abort c.f)))

abbrev pub commit_logged : Setting → List ℕ → List CountedVote → Option LogsValue
commit_logged c shards votes =
    if each_enough shards votes Commit (commit_tally c.f)
    then Some (record { decision = Commit; tallies = tallies c shards votes Commit (commit_tally c.f) }) else None

abbrev pub abort_logged : Setting → List CountedVote → Option ℕ → Option LogsValue
abort_logged c votes None = None
abort_logged c votes (Some shard) =
    Some (record { decision = Abort; tallies = tally c votes Abort (abort_tally c.f) shard ∷ [] })

abbrev pub logged_by : Setting → List ℕ → List CountedVote → Option LogsValue
logged_by c shards votes =
    or_else (commit_logged c shards votes)
    (abort_logged c votes (lowest_enough shards votes Abort (abort_tally c.f)))
