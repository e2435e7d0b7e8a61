-- Tallies and election words that are made of what is heard in a pool.
use Rattle.std.specs.Prelude.{ℕ, List, [], ◌∷◌, Bool, true, false, Option, find, length, map, nat_le, slice_get, take}
use Rattle.std.specs.Option.{option_map_or}
use Rattle.basil_types.specs.Built.{or_else}
use Rattle.basil_types.specs.declared.party.Decision.{Decision}
use Rattle.basil_types.specs.declared.party.Decision.TheVariants.{Commit, Abort}
use Rattle.basil_types.specs.Setting.{Setting}
use Rattle.basil_types.specs.Transaction.{TransactionValue, id}
use Rattle.certificates.specs.Accepted.{Accepted}
use Rattle.client_recover.specs.Counting.{all_replicas}
use Rattle.frame_views.specs.Values.{TallyValue, VoteValue, WordValue}
use Rattle.node_steps.specs.Lists.{by_number}
use Rattle.quorum_laws.specs.Numbers.{abort_tally, commit_tally, log_quorum}
use Rattle.txn_meta.specs.Places.{involved}
use Rattle.cluster_run.specs.States.{Posted}
use Rattle.faulty_parties.specs.declared.question.Question.{Question}
use Rattle.faulty_parties.specs.declared.question.Question.TheVariants.{Votes, Words}
use Rattle.faulty_parties.specs.Hearing.{heard_of, joined_all}

-- of each replica the first answer, in the order of the messages
abbrev pub all_heard : Accepted → Setting → List ℕ → Question → List Posted → List WordValue
all_heard A c i q posts = joined_all (heard_of A c i q posts) []

-- by replicas, ascending
abbrev pub listed : Setting → List WordValue → List WordValue
listed c ws = by_number (λ (w : WordValue). w.replica) (all_replicas c) ws

-- ---- tallies

-- a vote as a tally carries it
abbrev pub vote_said : WordValue → VoteValue
vote_said w = record { replica = w.replica; signature = w.signature }

-- at most so many votes of a shard
abbrev pub tally_in : Accepted → Setting → List Posted → List ℕ → Decision → (needed shard : ℕ) → TallyValue
tally_in A c posts i d needed shard =
    record { shard = shard; votes = map vote_said (listed c (take needed (all_heard A c i (Votes shard d) posts))) }

-- whether a shard has enough votes to abort
abbrev pub is_enough : Accepted → Setting → List Posted → List ℕ → (shard : ℕ) → Bool
is_enough A c posts i shard = nat_le (abort_tally c.f) (length (all_heard A c i (Votes shard Abort) posts))

-- the lowest involved shard with enough votes to abort, or else the lowest involved one
abbrev pub shard_in : Accepted → Setting → List Posted → TransactionValue → Option ℕ
shard_in A c posts t = or_else (find (is_enough A c posts (id t)) (involved c t)) (slice_get (involved c t) 0)

abbrev pub tallies_in : Accepted → Setting → List Posted → TransactionValue → Decision → List TallyValue
tallies_in A c posts t Commit = map (tally_in A c posts (id t) Commit (commit_tally c.f)) (involved c t)
tallies_in A c posts t Abort =
    option_map_or (λ shard. tally_in A c posts (id t) Abort (abort_tally c.f) shard ∷ []) (shard_in A c posts t) []

-- ---- election words

-- those with the decision first, then the others, at most a log quorum
abbrev pub words_in : Accepted → Setting → List Posted → List ℕ → Decision → (shard view : ℕ) → List WordValue
words_in A c posts i d shard view =
    let agree = heard_of A c i (Words shard view d true) posts in
    let others = heard_of A c i (Words shard view d false) posts in
    listed c (take (log_quorum c.f) (joined_all others (joined_all agree [])))
