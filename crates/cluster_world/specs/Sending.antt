-- What enters the pool.
use Rattle.std.specs.Prelude.{◌≡◌, ℕ, ◌+◌, ◌-◌, ◌≤◌, Bool, false, List, length, map, Result, Ok, Err}
use Rattle.std.specs.Option.{option_map_or}
use Rattle.std.specs.Str.{bytes_eq}
use Rattle.basil_types.specs.declared.outbox.Envelope.{Envelope}
use Rattle.basil_types.specs.declared.party.Party.{Party}
use Rattle.keyring.specs.declared.verifier.Verifier as verifiers
use Rattle.keyring.specs.declared.signer.Signer as signers
use Rattle.message_pool.specs.declared.pool.Room.{Room}
use Rattle.message_pool.specs.declared.posted.Posted.{Posted}
use Rattle.message_pool.specs.Posts.{PoolValue, pool_bytes, posted_at}
use Rattle.node_steps.specs.Pendings.{bytes_sent}
use Rattle.premise_watch.specs.declared.broken.WatchFault.{WatchFault}
use Rattle.cluster_run.specs.declared.fault.WorldFault.{WorldFault}
use Rattle.cluster_run.specs.declared.fault.WorldFault.TheVariants as worlds
use Rattle.cluster_run.specs.Parts.{Mail, mail_from}
use Rattle.cluster_run.specs.States.{Setup, State}
use Rattle.run_sight.specs.Sights.{Ends}
use Rattle.cluster_world.specs.declared.engine.Engine.{Engine}
use Rattle.cluster_world.specs.declared.fault.StepFault.{StepFault}
use Rattle.cluster_world.specs.declared.fault.StepFault.TheVariants as faults
use Rattle.cluster_world.specs.Shows.{Shows}

-- of these messages
abbrev pub mails : Party → List Envelope → List Mail
mails from messages = map (mail_from from) messages

-- the pool has room for all of them
pub record HasRoomFor (pool : PoolValue) (messages : List Envelope) : Type 0 where
  pub few : length pool.posts + length messages ≤ pool.limits.messages
  pub small : pool_bytes pool.posts + bytes_sent messages ≤ pool.limits.bytes

-- the message of this number has this frame
abbrev pub has_frame_at : List Posted → (number : ℕ) → (frame : List ℕ) → Bool
has_frame_at pool number frame = option_map_or (λ (p : Posted). bytes_eq p.frame frame) (posted_at pool number) false

-- it holds no more than its limits
pub record IsWithin (pool : PoolValue) : Type 0 where
  pub messages : length pool.posts ≤ pool.limits.messages
  pub bytes : pool_bytes pool.posts ≤ pool.limits.bytes

-- so much more enters the pool
abbrev pub room_of : PoolValue → Room
room_of pool =
    record {
      messages = pool.limits.messages - length pool.posts;
      bytes = pool.limits.bytes - pool_bytes pool.posts;
    }

-- the pool, which holds so much, has no room
abbrev pub full_of : PoolValue → StepFault
full_of pool = faults.World (worlds.PoolFull (length pool.posts) (pool_bytes pool.posts))

module _ {V S : Type 0} {v : verifiers.Ghosts V} {g : signers.Ghosts S} (s : Setup) where
  -- nothing but a breach or want of memory is in the way
  abbrev pub Goes : Result State WorldFault → Engine V S v g → Result (Unit {0}) WatchFault → Type 0
  Goes answer core (Ok done) = (after : State) × (answer ≡ Ok after) × Shows s core after
  Goes answer core (Err broken) = Ends answer broken
