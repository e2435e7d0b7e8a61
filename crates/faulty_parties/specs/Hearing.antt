-- What is heard of the replicas of a shard in the messages of a pool.
use Rattle.std.specs.Prelude.{ℕ, List, [], ◌∷◌, ◌++◌, Bool, true, false, not, ◌&&◌, ◌==◌}
use Rattle.std.specs.Prelude.{Option, Some, None, filter_map, if◌then◌else◌, option_and_then}
use Rattle.std.specs.List.{list_any}
use Rattle.std.specs.Str.{bytes_eq}
use Rattle.basil_types.specs.declared.party.Decision.{Decision}
use Rattle.basil_types.specs.Decision.{same_decision}
use Rattle.basil_types.specs.Setting.{Setting}
use Rattle.basil_types.specs.Transaction.{id}
use Rattle.certificates.specs.Accepted.{Accepted, accepts}
use Rattle.client_recover.specs.Counting.{as_vote}
use Rattle.frame_views.specs.Fitting.{bounds_of}
use Rattle.frame_views.specs.Frames.{frame_in}
use Rattle.frame_views.specs.Signed.{vote_signed, word_signed}
use Rattle.frame_views.specs.Values.{ElectValue, MessageValue, VotedValue, WordValue}
use Rattle.cluster_run.specs.Faulty.{as_listed, read_or_none, vote_in, word_in}
use Rattle.cluster_run.specs.States.{Posted}
use Rattle.faulty_parties.specs.declared.question.Question.{Question}
use Rattle.faulty_parties.specs.declared.question.Question.TheVariants.{Votes, Words}

-- ---- a question, of a transaction with this id, by the keys

-- whether a vote of this shard is on it, with this decision
abbrev pub is_vote_so : Accepted → List ℕ → (shard : ℕ) → Decision → VotedValue → Bool
is_vote_so A i shard d v =
    (v.shard == shard) && bytes_eq v.id i && same_decision v.decision d
    && accepts A (vote_signed v.shard v.id v.decision (as_vote v))

-- whether a word of this shard is on it, for this view
abbrev pub is_word_so : Accepted → List ℕ → (shard view : ℕ) → ElectValue → Bool
is_word_so A i shard view m =
    (m.shard == shard) && (m.view == view) && bytes_eq (id m.transaction) i
    && accepts A (word_signed m.shard (id m.transaction) m.view (as_listed m))

abbrev pub as_said : VotedValue → WordValue
as_said v = record { replica = v.replica; decision = v.decision; signature = v.signature }

abbrev pub same_bool : Bool → Bool → Bool
same_bool true b = b
same_bool false b = not b

abbrev pub vote_heard : Accepted → List ℕ → (shard : ℕ) → Decision → VotedValue → Option WordValue
vote_heard A i shard d v = if is_vote_so A i shard d v then Some (as_said v) else None

-- of the words those with this decision, or those with the other
abbrev pub word_heard : Accepted → List ℕ → (shard view : ℕ) → Decision → Bool → ElectValue → Option WordValue
word_heard A i shard view d agrees m =
    if is_word_so A i shard view m && same_bool agrees (same_decision m.decision d) then Some (as_listed m) else None

abbrev pub heard : Accepted → List ℕ → Question → MessageValue → Option WordValue
heard A i (Votes shard d) m = option_and_then (vote_heard A i shard d) (vote_in m)
heard A i (Words shard view d agrees) m = option_and_then (word_heard A i shard view d agrees) (word_in m)

-- ---- the messages of a pool, in order

abbrev pub heard_in : Accepted → Setting → List ℕ → Question → List ℕ → Option WordValue
heard_in A c i q frame = option_and_then (heard A i q) (read_or_none (frame_in (bounds_of c) frame))

abbrev pub heard_of : Accepted → Setting → List ℕ → Question → List Posted → List WordValue
heard_of A c i q posts = filter_map (λ (p : Posted). heard_in A c i q p.frame) posts

abbrev pub same_replica : WordValue → WordValue → Bool
same_replica v w = v.replica == w.replica

-- one more, unless one before it is of the same replica
abbrev pub joined : WordValue → List WordValue → List WordValue
joined w ws = if list_any (same_replica w) ws then ws else ws ++ w ∷ []

abbrev pub joined_some : Option WordValue → List WordValue → List WordValue
joined_some None ws = ws
joined_some (Some w) ws = joined w ws

-- all of these, one by one
abbrev pub joined_all : List WordValue → List WordValue → List WordValue
joined_all [] ws = ws
joined_all (x ∷ xs) ws = joined_all xs (joined x ws)
