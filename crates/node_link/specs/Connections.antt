-- A node that serves connections, one after another.
use Rattle.std.specs.Prelude.{◌≡◌, ◌⊎◌, ℕ, zero, suc, ◌+◌, ◌-◌, ◌≤◌, List, length, Option, Some}
use Rattle.basil_types.specs.declared.outbox.Envelope.{Envelope}
use Rattle.basil_types.specs.declared.links.LinkFail.{LinkFail}
use Rattle.basil_types.specs.declared.links.LinkFail.TheVariants as fails
use Rattle.basil_types.specs.Links.{LinkState, accepts, closes, listens, first_of}
use Rattle.basil_types.specs.Setting.{Setting}
use Rattle.keyring.specs.declared.verifier.Verifier as verifiers
use Rattle.keyring.specs.declared.signer.Signer as signers
use Rattle.replica_core.specs.declared.replica.Replica.{Replica}
use Rattle.replica_core.specs.Replicas.{ReplicaSelf, BookValue}
use Rattle.node_link.specs.declared.fault.ServeFault.{ServeFault}
use Rattle.node_link.specs.declared.fault.ServeFault.TheVariants.{LinkFault, NoMemory}
use Rattle.node_link.specs.Asking.{RoseBy}
use Rattle.node_link.specs.Dialogue.{dialogue_of}
use Rattle.node_link.specs.Serving.{Served, ServedSome, serves_all}
use Rattle.replica_core.specs.Shown.{ShowsBook}

-- the book of a replica, the moments that its clock will give, what its links have, and how many frames it was handed
pub record Node : Type 0 where
  pub book : BookValue
  pub moments : List ℕ
  pub links : LinkState
  pub frames : ℕ

-- the replica shows the book, and its clock, its links and a count tell the rest
pub record IsNode {V S : Type 0} {v : verifiers.Ghosts V} {g : signers.Ghosts S} (replica : Replica V S v g)
    (ticks : Option (List ℕ)) (told : Option LinkState) (count : ℕ) (n : Node) : Type 0 where
  pub book : ShowsBook replica n.book
  pub moments : ticks ≡ Some n.moments
  pub links : told ≡ Some n.links
  pub frames : count ≡ n.frames

-- it listens at an address
abbrev pub listening : List ℕ → Node → Node
listening address n = record n { links = listens address n.links }

-- it listens, or that failed
abbrev pub HasListened : List ℕ → (old new : Node) → Type 0
HasListened address old new = (new ≡ old) ⊎ (new ≡ listening address old)

-- ---- one connection

-- the envelopes of the next connection
abbrev pub envelopes_of : Setting → Node → List Envelope
envelopes_of cluster n = (dialogue_of cluster (first_of n.links.coming)).envelopes

abbrev pub served_of : Node → Served
served_of n = record { book = n.book; moments = n.moments; written = n.links.written }

-- the next connection is accepted, so many of its frames are handled, and it is closed
abbrev pub after_connection : Node → Served → (handled : ℕ) → Node
after_connection n s handled = record {
  book = s.book;
  moments = s.moments;
  links = record (closes (accepts n.links)) { written = s.written };
  frames = n.frames + handled;
}

-- all of its envelopes are answered
abbrev pub serves_connection : Setting → ReplicaSelf → Node → Node
serves_connection cluster me n =
    after_connection n (serves_all me (served_of n) (envelopes_of cluster n)) (length (envelopes_of cluster n))

-- some of them are, before a call fails so
pub record ServesPart (fail : LinkFail) (cluster : Setting) (me : ReplicaSelf) (old new : Node) : Type 0 where
  pub handled : ℕ
  pub served : Served
  pub some : ServedSome me (served_of old) (envelopes_of cluster old) handled fail served
  pub is : new ≡ after_connection old served handled

-- all of them are, or a call of the connection fails, one more than before, and some are
pub data ServesNext (cluster : Setting) (me : ReplicaSelf) (old new : Node) (before failed : ℕ) : Type 0 where
  Whole : new ≡ serves_connection cluster me old → failed ≡ before → ServesNext cluster me old new before failed
  Cut : ServesPart fails.Failed cluster me old new → failed ≡ before + 1 → ServesNext cluster me old new before failed

-- ---- so many connections, one after another

unfoldable pub serves_connections : ℕ → Setting → ReplicaSelf → Node → Node
serves_connections zero cluster me n = n
serves_connections (suc before) cluster me n = serves_connection cluster me (serves_connections before cluster me n)

-- of which so many were cut, each by a call that failed
unfoldable pub ServesParts : (connections failed : ℕ) → Setting → ReplicaSelf → (old new : Node) → Type 0
ServesParts zero failed cluster me old new = (failed ≡ 0) × (new ≡ old)
ServesParts (suc before) failed cluster me old new =
    (mid : Node) × (earlier : ℕ) × ServesParts before earlier cluster me old mid
    × ServesNext cluster me mid new earlier failed

-- ---- a node that stops, by a fault or behind its last connection

-- how many calls failed that were on no connection: its listen, or an accept
abbrev pub failed_outside : Option ServeFault → ℕ
failed_outside (Some LinkFault) = 1
failed_outside _ = 0

-- it stops between two connections, or, where memory is wanting and more were to come, within the next
pub data StopsAt (cluster : Setting) (me : ReplicaSelf) (old new : Node) (more : ℕ) (fault : Option ServeFault) :
    Type 0 where
  Between : new ≡ old → StopsAt cluster me old new more fault
  Within : 1 ≤ more → fault ≡ Some NoMemory → ServesPart fails.NoMemory cluster me old new →
      StopsAt cluster me old new more fault

-- at most so many connections are served until it does, and so many calls of them failed
pub record ServesUntil (fault : Option ServeFault) (connections failed : ℕ) (cluster : Setting) (me : ReplicaSelf)
    (old new : Node) : Type 0 where
  pub done : ℕ
  pub within : done ≤ connections
  pub last : Node
  pub served : ServesParts done failed cluster me old last
  pub stop : StopsAt cluster me last new (connections - done) fault

-- ---- code

-- so many connections were served, and the links' count rose by at least as many as were cut
pub record Finished {V S : Type 0} {v : verifiers.Ghosts V} {g : signers.Ghosts S} (replica : Replica V S v g)
    (ticks : Option (List ℕ)) (told : Option LinkState) (count : ℕ) (cluster : Setting) (me : ReplicaSelf)
    (connections : ℕ) (old : Node) (before now : ℕ) : Type 0 where
  pub new : Node
  pub failed : ℕ
  pub served : ServesParts connections failed cluster me old new
  pub is : IsNode replica ticks told count new
  pub risen : RoseBy failed before now

-- or it stopped by a fault before they were, and the count rose by the call that failed outside of them, too
pub record Stopped {V S : Type 0} {v : verifiers.Ghosts V} {g : signers.Ghosts S} (replica : Replica V S v g)
    (ticks : Option (List ℕ)) (told : Option LinkState) (cluster : Setting) (me : ReplicaSelf) (connections : ℕ)
    (old : Node) (before now : ℕ) (fault : ServeFault) : Type 0 where
  pub new : Node
  pub failed : ℕ
  pub served : ServesUntil (Some fault) connections failed cluster me old new
  pub is : IsNode replica ticks told new.frames new
  pub risen : RoseBy (failed + failed_outside (Some fault)) before now
