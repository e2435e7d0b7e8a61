-- What the votes of a shard amount to.
use Rattle.std.specs.Prelude.{Bool, true, List, [], ◌∷◌, ◌&&◌, nat_le, find, unwrap_or}
use Rattle.basil_types.specs.Setting.{Setting}
use Rattle.quorum_laws.specs.Numbers.{fast_commit, fast_abort, commit_tally, abort_tally}
use Rattle.vote_tally.specs.declared.votes.FirstVote.{FirstVote}
use Rattle.vote_tally.specs.declared.classes.Class.{Class}
use Rattle.vote_tally.specs.declared.classes.Class.TheVariants.{FastCommit, FastAbort, ConflictAbort}
use Rattle.vote_tally.specs.declared.classes.Class.TheVariants.{Both, CommitTally, AbortTally, Open}
use Rattle.vote_tally.specs.Votes.{commits_of, aborts_of, has_proof}

-- whether a class holds of votes of distinct replicas, whatever other does
abbrev pub holds : Setting → List FirstVote → Class → Bool
holds c votes FastCommit = nat_le (fast_commit c.f) (commits_of votes)
holds c votes FastAbort = nat_le (fast_abort c.f) (aborts_of votes)
holds c votes ConflictAbort = has_proof votes
holds c votes Both = nat_le (commit_tally c.f) (commits_of votes) && nat_le (abort_tally c.f) (aborts_of votes)
holds c votes CommitTally = nat_le (commit_tally c.f) (commits_of votes)
holds c votes AbortTally = nat_le (abort_tally c.f) (aborts_of votes)
holds c votes Open = true

-- the order in which the classes are tested
abbrev pub classes : List Class
classes = FastCommit ∷ FastAbort ∷ ConflictAbort ∷ Both ∷ CommitTally ∷ AbortTally ∷ Open ∷ []

-- the first class that holds
abbrev pub class_of : Setting → List FirstVote → Class
class_of c votes = unwrap_or (find (holds c votes) classes) Open
