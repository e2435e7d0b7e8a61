-- Votes before they are signed.
use Rattle.std.specs.Prelude.{ℕ, List, [], Option}
use Rattle.basil_types.specs.declared.party.Decision.{Decision}
use Rattle.basil_types.specs.declared.party.Party.{Party}
use Rattle.basil_types.specs.Words.{SignedWords, VoteWords}
use Rattle.frame_views.specs.Values.{CommittedValue, VotedValue}
use Rattle.frame_writing.specs.Unsigned.{unsigned_vote}
use Rattle.node_steps.specs.Pendings.{Front}
use Rattle.replica_core.specs.declared.seat.Seat.{Seat}

-- a vote with nothing in the place of its signature
abbrev pub vote_front : Seat → List ℕ → Decision → Option CommittedValue → VotedValue
vote_front seat named d proof =
    record { shard = seat.home.shard; replica = seat.index; id = named; decision = d; proof = proof; signature = [] }

abbrev pub vote_said : Seat → List ℕ → Decision → SignedWords
vote_said seat named d =
    VoteWords (record { shard = seat.home.shard; replica = seat.index; id = named; decision = d })

-- the frame of a vote for a party, without its signature
abbrev pub front_to : Seat → List ℕ → Decision → Option CommittedValue → Party → Front
front_to seat named d proof to = record { to = to; bytes = unsigned_vote (vote_front seat named d proof) }
