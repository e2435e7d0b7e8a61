-- What a replica signs, with what pen.
use Rattle.std.specs.Prelude.{ℕ, List, Option, nat_lt}
use Rattle.basil_types.specs.declared.party.Decision.{Decision}
use Rattle.basil_types.specs.Words.{SignedWords, VoteWords, LogReplyWords, ElectionWords, ProposalWords, words_of}
use Rattle.decision_log.specs.declared.cell.LogCell.{LogCell}
use Rattle.node_steps.specs.Pens.{PenValue}
use Rattle.node_steps.specs.Refusing.{when}
use Rattle.replica_core.specs.declared.refusal.Refusal.{Refusal}
use Rattle.replica_core.specs.declared.refusal.Refusal.TheVariants.{Exhausted}
use Rattle.replica_core.specs.Replicas.{ReplicaSelf}

-- ---- words

abbrev pub vote_words : ReplicaSelf → List ℕ → Decision → SignedWords
vote_words me id d = VoteWords (record { shard = me.home.shard; replica = me.index; id = id; decision = d })

abbrev pub log_words : ReplicaSelf → List ℕ → LogCell → SignedWords
log_words me id cell =
    LogReplyWords (record {
      shard = me.home.shard;
      replica = me.index;
      id = id;
      decision = cell.decision;
      decided = cell.decided;
      current = cell.current;
    })

abbrev pub election_words : ReplicaSelf → List ℕ → Decision → ℕ → SignedWords
election_words me id d view =
    ElectionWords (record { shard = me.home.shard; replica = me.index; id = id; decision = d; view = view })

abbrev pub proposal_words : ReplicaSelf → List ℕ → Decision → ℕ → SignedWords
proposal_words me id d view =
    ProposalWords (record { shard = me.home.shard; replica = me.index; id = id; decision = d; view = view })

-- ---- signatures

-- the next one
abbrev pub signature : ReplicaSelf → PenValue → SignedWords → List ℕ
signature me pen words = me.signing.gives pen.spent (words_of words)

-- more are needed than are left
abbrev pub exhausted : ℕ → PenValue → Option Refusal
exhausted needed pen = when (nat_lt pen.left needed) (Exhausted pen.left)
