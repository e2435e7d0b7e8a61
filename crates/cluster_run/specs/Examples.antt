-- The laws of runs speak of something: a run of one write that ends with a committed transaction, and one that breaks.
use Rattle.std.specs.Prelude.{◌≡◌, ℕ, List, [], ◌∷◌, false, None, Ok, Err}
use Rattle.std.specs.List.{range_with_len}
use Rattle.std.specs.Str.{bytes_eq}
use Rattle.basil_types.specs.Built.{built}
use Rattle.basil_types.specs.declared.party.Decision.TheVariants.{Commit}
use Rattle.basil_types.specs.declared.party.Party.{Party}
use Rattle.basil_types.specs.declared.party.Party.TheVariants.{Replica}
use Rattle.basil_types.specs.declared.transaction.parts.WritePart.{WritePart}
use Rattle.basil_types.specs.Transaction.{TransactionValue, id}
use Rattle.basil_types.specs.Words.{SignedWords, VoteWords, words_of}
use Rattle.certificates.specs.Accepted.{Accepted}
use Rattle.frame_views.specs.Spelling.{spelling}
use Rattle.frame_views.specs.Values.{MessageValue, St1, Vote}
use Rattle.keyring.specs.Signing.{Signing}
use Rattle.premise_watch.specs.declared.broken.Broken.{Broken}
use Rattle.premise_watch.specs.declared.broken.Broken.TheVariants.{Forged}
use Rattle.cluster_run.specs.Events as event
use Rattle.cluster_run.specs.Events.{EventValue, run}
use Rattle.cluster_run.specs.Headline.{committed}
use Rattle.cluster_run.specs.Safety.{AreEvents, AreSigned}
use Rattle.cluster_run.specs.States.{KitValue, Setup, IsSetup, State, start}

-- ---- the cluster

-- a keyring that takes one signature, and pens that give it
abbrev pub mark : List ℕ
mark = 1 ∷ []

abbrev pub takes : Accepted
takes party words signature = bytes_eq signature mark

abbrev pub pen_of : Party → Signing
pen_of party = record { party = party; size = 1; gives = λ _ _. mark; holds = takes }

abbrev pub kit : KitValue
kit = record { accepts = takes; signing = pen_of; pen = λ _. record { spent = 0; left = 9 } }

-- one shard with one replica, and nobody faulty
abbrev pub setup : Setup
setup = record {
  cluster = record { f = 0; shards = 1; reads = 1; delta = 0 };
  faulty = [];
  clock = 1;
  messages = 9;
  bytes = 9999;
  kit = kit;
}

-- what the laws of runs ask of it
pub record MeetsTheLaws (events : List EventValue) : Type 0 where
  pub setup : IsSetup setup
  pub signed : AreSigned kit
  pub sized : AreEvents events

-- the replica's vote to commit, with this signature
abbrev pub commit_vote : List ℕ → MessageValue
commit_vote x = Vote (record { shard = 0; replica = 0; id = x; decision = Commit; proof = None; signature = mark })

-- ---- one write

-- the key a, the value x
abbrev pub write : WritePart
write = record { key = 97 ∷ []; value = 120 ∷ []; deletes = false }

abbrev pub written : TransactionValue
written = built 1 1 [] (write ∷ [])

abbrev pub first_stage : MessageValue
first_stage = St1 (record { transaction = written; signature = mark })

-- the client's first stage and the replica's vote are delivered, and with the vote the client has its certificate
abbrev pub one_write : List EventValue
one_write =
    event.Begin 1 1 ∷ event.Write 0 write ∷ event.Prepare 0 ∷ event.Deliver 1 (spelling first_stage)
    ∷ event.Deliver 2 (spelling (commit_vote (id written))) ∷ []

-- it ends without a breach, and the transaction is committed
pub record OneWriteCommits : Type 0 where
  pub meets : MeetsTheLaws one_write
  pub st : State
  pub ends : run setup one_write (start setup) ≡ Ok st
  pub commits : committed st ≡ written ∷ []

-- ---- one forgery

-- the id of nothing that anybody wrote
abbrev pub unheard : List ℕ
unheard = range_with_len 0 32

-- a vote is shown that the replica never signed
abbrev pub one_forgery : List EventValue
one_forgery = event.Show (spelling (commit_vote unheard)) ∷ []

-- what it would have signed
abbrev pub unsigned : SignedWords
unsigned = VoteWords (record { shard = 0; replica = 0; id = unheard; decision = Commit })

abbrev pub forgery : Broken
forgery = Forged (Replica 0 0) (words_of unsigned) mark

-- it breaks
pub record OneForgeryBreaks : Type 0 where
  pub meets : MeetsTheLaws one_forgery
  pub breaks : run setup one_forgery (start setup) ≡ Err forgery
