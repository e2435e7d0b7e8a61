-- `node`: a replica of a cluster's file that serves connections.
use Rattle.std.specs.Prelude.{◌≡◌, ◌⊎◌, ℕ, List, [], ◌∷◌, ◌++◌, codes, decimal, if◌then◌else◌}
use Rattle.std.specs.Prelude.{Option, Some, None, Result, Ok, Err, IfOk}
use Rattle.std.specs.Str.{bytes_eq}
use Rattle.basil_types.specs.Causes.{TookAll}
use Rattle.basil_types.specs.Links.{LinkState}
use Rattle.cluster_file.specs.Listing.{Listing}
use Rattle.cluster_file.specs.Text.{cluster_in}
use Rattle.node_link.specs.Connections.{Node}
use Rattle.node_link.specs.declared.fault.ServeFault.{ServeFault}
use Rattle.node_link.specs.declared.fault.ServeFault.TheVariants as stops
use Rattle.party_seat.specs.Limits.{most_connections}
use Rattle.party_seat.specs.Serving.{HasFinished, IsOutside}
use Rattle.party_seat.specs.Stations.{Station, station_in}
use Rattle.party_seat.specs.declared.fault.NodeFault.{NodeFault}
use Rattle.party_seat.specs.declared.fault.NodeFault.TheVariants as seats
use Rattle.party_seat.specs.declared.fault.SeatFault.{SeatFault}
use Rattle.party_seat.specs.declared.fault.SeatFault.TheVariants.{WrongKey, WrongLeaf, NoMemory}
use Rattle.party_seat.specs.declared.station.NodeSeat.{NodeSeat}
use Rattle.line_fields.specs.Fields.{number_in}
use Rattle.line_fields.specs.Tokens.{Token}
use Rattle.line_fields.specs.declared.reason.Reason.{Reason}
use Rattle.line_fields.specs.declared.reason.Reason.TheVariants.{OutOfRange, WrongParty}
use Rattle.command_input.specs.Ranges.{seed_size, most_leaves}
use Rattle.command_ends.specs.Answers.{IsTold}
use Rattle.command_input.specs.Commands.{hex_of, said}
use Rattle.command_input.specs.Files.{file_reason}
use Rattle.command_ends.specs.Outcome.{Outcome, BadLine, TooLong, Written, is_too_long}
use Rattle.command_ends.specs.Endings.{outcome_is}
use Rattle.command_ends.specs.declared.ending.Ending.{Ending}
use Rattle.command_input.specs.declared.input.InputFail.{InputFail}
use Rattle.command_input.specs.declared.input.InputFail.TheVariants as input
use Rattle.party_commands.specs.declared.node.NodeCall.{NodeCall}
use Rattle.command_ends.specs.declared.status.Status.{Status}
use Rattle.command_ends.specs.declared.status.Status.TheVariants as ends

-- ---- its arguments

abbrev pub seat_with : Option ℕ → Option ℕ → Option (List ℕ) → Option ℕ → Option NodeSeat
seat_with (Some shard) (Some index) (Some seed) (Some leaf) =
    Some (record { shard = shard; index = index; seed = seed; leaf = leaf })
seat_with _ _ _ _ = None

-- S R SEED LEAF: a shard and an index, 32 bytes, and the first leaf that may be used
abbrev pub seat_of : Token → Token → Token → Token → Option NodeSeat
seat_of shard index seed leaf =
    seat_with (said (number_in 0 255 shard)) (said (number_in 0 255 index)) (hex_of seed_size seed)
    (said (number_in 0 most_leaves leaf))

abbrev pub call_with : Option NodeSeat → Option ℕ → Option NodeCall
call_with (Some seat) (Some connections) = Some (record { seat = seat; connections = connections })
call_with _ _ = None

-- S R SEED LEAF CONNECTIONS: how many connections, from 1
abbrev pub call_of : List Token → Option NodeCall
call_of (shard ∷ index ∷ seed ∷ leaf ∷ connections ∷ []) =
    call_with (seat_of shard index seed leaf) (said (number_in 1 most_connections connections))
call_of _ = None

-- `node S R SEED LEAF CONNECTIONS`
abbrev pub node_of : List Token → Option NodeCall
node_of [] = None
node_of (name ∷ arguments) = if bytes_eq name (codes "node") then call_of arguments else None

-- ---- its station

-- the reason where it doesn't get its seat
abbrev pub seat_reason : SeatFault → Reason
seat_reason WrongKey = WrongParty
seat_reason WrongLeaf = OutOfRange
seat_reason NoMemory = WrongParty

abbrev pub seated_at : Result Station SeatFault → Result Station Outcome
seated_at (Ok s) = Ok s
seated_at (Err fault) = Err (BadLine 1 (seat_reason fault))

abbrev pub seated_in : Result Listing ℕ → NodeSeat → Result Station Outcome
seated_in (Ok l) seat = seated_at (station_in l seat)
seated_in (Err number) seat = Err (BadLine 1 (file_reason number))

-- where a node serves that has this file, or what its file and its seat lead to instead
abbrev pub station_of : NodeSeat → List ℕ → Result Station Outcome
station_of seat bytes = if is_too_long bytes then Err TooLong else seated_in (cluster_in bytes) seat

-- ---- what it writes

-- how many frames the replica was handed
abbrev pub served_text : ℕ → List ℕ
served_text frames = codes "served " ++ decimal frames ++ 10 ∷ []

-- it was written how many
pub record HasWritten (before after : Option (List ℕ)) : Type 0 where
  pub frames : ℕ
  pub written : TookAll before after (served_text frames)

pub record IsServed (outcome : Outcome) : Type 0 where
  pub frames : ℕ
  pub written : outcome ≡ Written (served_text frames)

-- what a node comes to that served, or ended early
abbrev pub TellsServed : Result ℕ NodeFault → Result Ending InputFail → Type 0
TellsServed (Ok frames) result = IfOk result (λ e. outcome_is e ≡ Written (served_text frames))
TellsServed (Err seats.WrongKey) result = IfOk result (λ e. outcome_is e ≡ BadLine 1 WrongParty)
TellsServed (Err seats.WrongLeaf) result = IfOk result (λ e. outcome_is e ≡ BadLine 1 OutOfRange)
TellsServed (Err seats.LinkFault) result = result ≡ Err input.Link
TellsServed (Err seats.NoMemory) result = result ≡ Err input.NoMemory

-- so many connections were served, all of the envelopes of each, or some where a call failed, as often as the links'
-- count rose at most; and it was written how many envelopes that were
pub record WroteServed (s : Station) (connections : ℕ) (old : Node) (ticks : Option (List ℕ)) (told : Option LinkState)
    (links_before links_now : ℕ) (before after : Option (List ℕ)) : Type 0 where
  pub frames : ℕ
  pub served : HasFinished s connections old ticks told frames links_before links_now
  pub written : TookAll before after (served_text frames)

-- an ending that tells of a node
pub record EndsServed (s : Station) (connections : ℕ) (old : Node) (ticks : Option (List ℕ)) (told : Option LinkState)
    (links_before links_now : ℕ) (outcome : Outcome) : Type 0 where
  pub frames : ℕ
  pub served : HasFinished s connections old ticks told frames links_before links_now
  pub written : outcome ≡ Written (served_text frames)

-- the same, where it is known behind which node
pub record EndsAt (new : Node) (ticks : Option (List ℕ)) (told : Option LinkState) (outcome : Outcome) : Type 0 where
  pub is : IsOutside ticks told new.frames new
  pub written : outcome ≡ Written (served_text new.frames)

pub record WroteAt (new : Node) (ticks : Option (List ℕ)) (told : Option LinkState) (before after : Option (List ℕ)) :
    Type 0 where
  pub is : IsOutside ticks told new.frames new
  pub written : TookAll before after (served_text new.frames)

-- why it stopped before all were served, where a result tells that
abbrev pub stop_in : Result Ending InputFail → Option ServeFault
stop_in (Err input.Link) = Some stops.LinkFault
stop_in (Err input.NoMemory) = Some stops.NoMemory
stop_in _ = None

-- or a status
abbrev pub stop_told : Status → Option ServeFault
stop_told ends.LinkFault = Some stops.LinkFault
stop_told ends.NoMemory = Some stops.NoMemory
stop_told _ = None

-- a node that serves is done, and another has the status of what is refused; or memory is wanting
abbrev pub IsNodeTold : Status → Result Station Outcome → Type 0
IsNodeTold status (Ok s) = (status ≡ ends.Done) ⊎ (status ≡ ends.NoMemory)
IsNodeTold status (Err refusal) = IsTold status refusal
