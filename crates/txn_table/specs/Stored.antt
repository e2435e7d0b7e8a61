-- What is stored of votes and outcomes: signatures and certificates, each of which passes a test.
use Rattle.std.specs.Prelude.{ℕ, List, Bool, true, ◌&&◌, Option}
use Rattle.std.specs.List.{list_all}
use Rattle.std.specs.Option.{option_map_or}
use Rattle.txn_table.specs.Entries.{VoteValue, Unvoted, Waiting, Voted, OutcomeValue, EntryValue}

abbrev pub is_vote_stored : (signature : List ℕ → Bool) → VoteValue → Bool
is_vote_stored signature Unvoted = true
is_vote_stored signature (Waiting askers) = true
is_vote_stored signature (Voted vote bytes proof) = signature bytes

abbrev pub is_outcome_stored : (certificate : List ℕ → Bool) → Option OutcomeValue → Bool
is_outcome_stored certificate outcome = option_map_or (λ (o : OutcomeValue). certificate o.certificate) outcome true

-- whether the entry's signature and its certificate, as far as there are, pass these tests
abbrev pub is_stored : (signature certificate : List ℕ → Bool) → EntryValue → Bool
is_stored signature certificate e = is_vote_stored signature e.vote && is_outcome_stored certificate e.outcome

abbrev pub are_stored : (signature certificate : List ℕ → Bool) → List EntryValue → Bool
are_stored signature certificate entries = list_all (is_stored signature certificate) entries
