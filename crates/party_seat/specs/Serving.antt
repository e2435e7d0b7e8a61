-- A node by its file.
use Rattle.std.specs.Prelude.{◌≡◌, ⊤, ℕ, ◌+◌, ◌≤◌, List, Bool, true, false, Option, Some, None, Result, Ok, Err}
use Rattle.basil_types.specs.Links.{LinkState}
use Rattle.node_link.specs.Asking.{RoseBy}
use Rattle.node_link.specs.Connections.{Node, HasListened, ServesParts, ServesUntil, failed_outside, listening}
use Rattle.node_link.specs.Connections.{serves_connections}
use Rattle.node_link.specs.declared.fault.ServeFault.{ServeFault}
use Rattle.node_link.specs.declared.fault.ServeFault.TheVariants as stops
use Rattle.party_seat.specs.Stations.{Station}
use Rattle.party_seat.specs.declared.fault.NodeFault.{NodeFault}
use Rattle.party_seat.specs.declared.fault.NodeFault.TheVariants.{WrongKey, WrongLeaf, LinkFault, NoMemory}
use Rattle.party_seat.specs.declared.fault.SeatFault.{SeatFault}
use Rattle.party_seat.specs.declared.fault.SeatFault.TheVariants as seats

-- a clock, links and a count tell what a node has but for its book
pub record IsOutside (ticks : Option (List ℕ)) (told : Option LinkState) (count : ℕ) (n : Node) : Type 0 where
  pub moments : ticks ≡ Some n.moments
  pub links : told ≡ Some n.links
  pub frames : count ≡ n.frames

-- so it begins at a station
pub record Begins (s : Station) (ticks : Option (List ℕ)) (told : Option LinkState) (n : Node) : Type 0 where
  pub book : n.book ≡ s.seated.book
  pub outside : IsOutside ticks told 0 n

-- behind so many connections
abbrev pub serves_at : Station → (connections : ℕ) → Node → Node
serves_at s connections n =
    serves_connections connections s.seated.me.home.cluster s.seated.me (listening s.address n)

-- the same, where so many of them are cut by a call that fails
abbrev pub ServesAt : Station → (connections failed : ℕ) → (old new : Node) → Type 0
ServesAt s connections failed old new =
    ServesParts connections failed s.seated.me.home.cluster s.seated.me (listening s.address old) new

-- so many connections were served, the links' count rose by at least as many as were cut, and at most as many leaves of
-- the key were used as the replica was handed frames
pub record HasFinished (s : Station) (connections : ℕ) (old : Node) (ticks : Option (List ℕ)) (told : Option LinkState)
    (count before now : ℕ) : Type 0 where
  pub new : Node
  pub failed : ℕ
  pub served : ServesAt s connections failed old new
  pub is : IsOutside ticks told count new
  pub risen : RoseBy failed before now
  pub leaves : new.book.pen.spent ≤ count

-- why a node stopped before they were, if it did
abbrev pub stop_of : Result ℕ NodeFault → Option ServeFault
stop_of (Err LinkFault) = Some stops.LinkFault
stop_of (Err NoMemory) = Some stops.NoMemory
stop_of _ = None

-- it listened, or that failed; at most so many connections were served until it stopped; and the links' count rose by
-- at least as many as were cut, and by the call that failed outside of them
pub record HasStopped (s : Station) (connections : ℕ) (old : Node) (ticks : Option (List ℕ)) (told : Option LinkState)
    (before now : ℕ) (stop : Option ServeFault) : Type 0 where
  pub start : Node
  pub listened : HasListened s.address old start
  pub new : Node
  pub failed : ℕ
  pub served : ServesUntil stop connections failed s.seated.me.home.cluster s.seated.me start new
  pub is : IsOutside ticks told new.frames new
  pub risen : RoseBy (failed + failed_outside stop) before now

-- a node that doesn't get its seat has the definition's fault, and one whose links failed has its seat
abbrev pub Refuses : NodeFault → Result Station SeatFault → Type 0
Refuses WrongKey answer = answer ≡ Err seats.WrongKey
Refuses WrongLeaf answer = answer ≡ Err seats.WrongLeaf
Refuses LinkFault answer = (s : Station) × (answer ≡ Ok s)
Refuses NoMemory answer = ⊤

-- whether a node didn't get its seat
abbrev pub is_seatless : NodeFault → Bool
is_seatless WrongKey = true
is_seatless WrongLeaf = true
is_seatless LinkFault = false
is_seatless NoMemory = false
