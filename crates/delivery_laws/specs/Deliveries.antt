-- What an event hands to a party, and what a replica takes of it.
use Rattle.std.specs.Prelude.{ℕ, ◌==◌, ◌&&◌, ◌||◌, not, is_ok, if◌then◌else◌}
use Rattle.std.specs.Prelude.{Option, Some, None, option_map, option_and_then}
use Rattle.basil_types.specs.declared.party.Party.{Party}
use Rattle.basil_types.specs.declared.party.Party.TheVariants.{Replica, Client}
use Rattle.replica_core.specs.Answers.{answer}
use Rattle.replica_core.specs.Replicas.{BookValue}
use Rattle.replica_laws.specs.Steps.{Handed, step}
use Rattle.cluster_run.specs.Events.{EventValue, Deliver, Divert}
use Rattle.cluster_run.specs.Parts.{are_bytes, replica_self, Mail}
use Rattle.cluster_run.specs.States.{Setup, is_faulty, Posted, Standing, State, posted_at, standing}

-- what an event hands: the bytes that are given in place of a message of the pool, to its receiver or to another
abbrev pub handed_by : State → EventValue → Option Mail
handed_by st (Deliver message given) =
    option_map (λ (p : Posted). record { from = p.from; to = p.to; frame = given }) (posted_at st message)
handed_by st (Divert message to given) =
    option_map (λ (p : Posted). record { from = p.from; to = to; frame = given }) (posted_at st message)
handed_by st _ = None

-- a replica of the cluster, and the frame that it takes, at the moment of its clock
pub record Taking : Type 0 where
  pub shard : ℕ
  pub index : ℕ
  pub handed : Handed

-- a replica takes the frame that it doesn't refuse
abbrev pub taken_by : Setup → Mail → Standing → Option Taking
taken_by s h x =
    if is_ok (answer (replica_self s x.shard x.index) x.moment h.from x.book h.frame) then Some (record {
      shard = x.shard;
      index = x.index;
      handed = record { now = x.moment; from = h.from; frame = h.frame };
    }) else None

-- a replica that isn't one of the cluster takes nothing, and a client is none
abbrev pub taken_at : Setup → State → Mail → Party → Option Taking
taken_at s st h (Replica shard index) = option_and_then (taken_by s h) (standing st shard index)
taken_at s st h (Client client) = None

-- a faulty party takes nothing, and what are no bytes isn't taken
abbrev pub taken_of : Setup → State → Mail → Option Taking
taken_of s st h = if is_faulty s h.to || not (are_bytes h.frame) then None else taken_at s st h h.to

-- what is taken at an event
abbrev pub takes : Setup → State → EventValue → Option Taking
takes s st e = option_and_then (taken_of s st) (handed_by st e)

-- ---- books

-- the book of a replica of the cluster
abbrev pub book_in : State → (shard index : ℕ) → Option BookValue
book_in st shard index = option_map (λ (x : Standing). x.book) (standing st shard index)

-- the book of a replica after what is taken: a step further, if it is this replica that takes it
abbrev pub after_taking : Setup → Option Taking → (shard index : ℕ) → BookValue → BookValue
after_taking s None shard index book = book
after_taking s (Some t) shard index book =
    if (t.shard == shard) && (t.index == index) then (step (replica_self s shard index) book t.handed).book else book
