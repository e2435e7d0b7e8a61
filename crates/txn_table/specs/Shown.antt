-- What entries show of themselves.
use Rattle.std.specs.Prelude.{◌≡◌, List, [], ◌∷◌, Bool, true, nat_lt, option_map}
use Rattle.basil_types.specs.declared.party.Party.{Party}
use Rattle.txn_table.specs.declared.entry.Entry.{Entry}
use Rattle.txn_table.specs.declared.entry.Outcome.{Outcome}
use Rattle.txn_table.specs.declared.entry.Stage.{Stage}
use Rattle.txn_table.specs.declared.entry.Stage.TheVariants as stage
use Rattle.txn_table.specs.declared.entry.VoteState.{VoteState}
use Rattle.txn_table.specs.declared.entry.VoteState.TheVariants as state
use Rattle.txn_table.specs.Entries.{VoteValue, Unvoted, Waiting, Voted, OutcomeValue, EntryValue, askers_of}

-- who waits, where there is no vote
abbrev pub waiting : List Party → VoteValue
waiting [] = Unvoted
waiting (asker ∷ askers) = Waiting (asker ∷ askers)

abbrev pub vote_of : Stage → VoteValue
vote_of (stage.Open askers) = waiting askers.items
vote_of (stage.Voted vote signature proof) = Voted vote signature proof

abbrev pub outcome_shown : Outcome → OutcomeValue
outcome_shown o = record { decision = o.decision; certificate = o.certificate }

abbrev pub entry_of : Entry → EntryValue
entry_of e =
    record { transaction = e.transaction; vote = vote_of e.stage; outcome = option_map outcome_shown e.outcome }

-- whether one more can wait for the vote and take no memory
abbrev pub has_room_in : Stage → Bool
has_room_in (stage.Open askers) = nat_lt 0 askers.room
has_room_in (stage.Voted vote signature proof) = true

abbrev pub has_room : Entry → Bool
has_room e = has_room_in e.stage

-- what was told of a vote is this
abbrev pub Tells : VoteState → VoteValue → Type 0
Tells state.Unvoted v = v ≡ Unvoted
Tells state.Waiting v = v ≡ Waiting (askers_of v)
Tells (state.Voted vote signature proof) v = v ≡ Voted vote signature.now proof
