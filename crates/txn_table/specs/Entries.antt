-- What a replica keeps of one transaction, as callers see it.
use Rattle.std.specs.Prelude.{ℕ, List, [], ◌∷◌, ◌++◌, Bool, true, false, ◌&&◌}
use Rattle.std.specs.Prelude.{◌==◌, Option, Some, None, option_map, if◌then◌else◌}
use Rattle.std.specs.List.{list_any}
use Rattle.basil_types.specs.declared.party.Party.{Party}
use Rattle.basil_types.specs.declared.party.Party.TheVariants.{Replica, Client}
use Rattle.basil_types.specs.declared.party.Decision.{Decision}
use Rattle.basil_types.specs.Transaction.{TransactionValue}

-- the replica's own vote: nobody has waited for it, or these wait for it, in order of asking, or it was given. The
-- proof is the place of a committed transaction that this one conflicts with
pub data VoteValue : Type 0 where
  Unvoted : VoteValue
  Waiting : (askers : List Party) → VoteValue
  Voted : (vote : Decision) (signature : List ℕ) (proof : Option ℕ) → VoteValue

-- what was decided, and the bytes of the certificate that proves it
pub record OutcomeValue : Type 0 where
  pub decision : Decision
  pub certificate : List ℕ

pub record EntryValue : Type 0 where
  pub transaction : TransactionValue
  pub vote : VoteValue
  pub outcome : Option OutcomeValue

abbrev pub is_waiting : VoteValue → Bool
is_waiting Unvoted = false
is_waiting (Waiting askers) = true
is_waiting (Voted vote signature proof) = false

abbrev pub is_voted : VoteValue → Bool
is_voted Unvoted = false
is_voted (Waiting askers) = false
is_voted (Voted vote signature proof) = true

-- who waits for the vote
abbrev pub askers_of : VoteValue → List Party
askers_of Unvoted = []
askers_of (Waiting askers) = askers
askers_of (Voted vote signature proof) = []

abbrev pub proof_of : VoteValue → Option ℕ
proof_of Unvoted = None
proof_of (Waiting askers) = None
proof_of (Voted vote signature proof) = proof

abbrev pub outcome_of : Decision → List ℕ → OutcomeValue
outcome_of decision certificate = record { decision = decision; certificate = certificate }

-- what the outcome says
abbrev pub decision_of : EntryValue → Option Decision
decision_of e = option_map (λ (o : OutcomeValue). o.decision) e.outcome

-- ---- what happens to an entry

-- a transaction that has arrived
abbrev pub arrived : TransactionValue → EntryValue
arrived t = record { transaction = t; vote = Unvoted; outcome = None }

abbrev pub same_party : Party → Party → Bool
same_party (Replica shard index) (Replica shard' index') = (shard == shard') && (index == index')
same_party (Replica shard index) (Client number) = false
same_party (Client number) (Replica shard index) = false
same_party (Client number) (Client number') = number == number'

-- the askers with one more, unless they are one of them already
abbrev pub joined : Party → List Party → List Party
joined asker askers = if list_any (λ p. same_party p asker) askers then askers else askers ++ asker ∷ []

-- somebody waits for the vote
abbrev pub asked_vote : Party → VoteValue → VoteValue
asked_vote asker Unvoted = Waiting (asker ∷ [])
asked_vote asker (Waiting askers) = Waiting (joined asker askers)
asked_vote asker (Voted vote signature proof) = Voted vote signature proof

abbrev pub asked : Party → EntryValue → EntryValue
asked asker e = record e { vote = asked_vote asker e.vote }

abbrev pub voted : Decision → List ℕ → Option ℕ → EntryValue → EntryValue
voted vote signature proof e = record e { vote = Voted vote signature proof }

abbrev pub decided : Decision → List ℕ → EntryValue → EntryValue
decided decision certificate e = record e { outcome = Some (outcome_of decision certificate) }
