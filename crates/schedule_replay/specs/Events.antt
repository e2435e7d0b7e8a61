-- The events of a line.
use Rattle.std.specs.Prelude.{ℕ, ◌+◌, List, [], ◌∷◌, Bool, true, false, Option, Some}
use Rattle.std.specs.Prelude.{None, option_and_then, option_map, Result, Ok, if◌then◌else◌}
use Rattle.std.specs.Option.{option_map_or}
use Rattle.basil_types.specs.Steps.{◌>>=◌}
use Rattle.cluster_run.specs.Events as events
use Rattle.cluster_run.specs.Events.{EventValue}
use Rattle.cluster_run.specs.States.{Posted, Setup, State, posted_at}
use Rattle.cluster_run.specs.declared.fault.WorldFault.{WorldFault}
use Rattle.journaled_runs.specs.Journaling.{JournaledState, happens_in, stops_in}
use Rattle.message_pool.specs.Posts.{is_waiting}
use Rattle.schedule_text.specs.declared.line.Line.{Line}
use Rattle.schedule_text.specs.declared.line.Line.TheVariants.{Begin, Read, Write, Delete, Claim}
use Rattle.schedule_text.specs.declared.line.Line.TheVariants.{Prepare, Settle, Recover, Invoke, Round}
use Rattle.schedule_text.specs.declared.line.Line.TheVariants.{Deliver, Lose, Divert, Clock, Vote}
use Rattle.schedule_text.specs.declared.line.Line.TheVariants.{Second, Logged, Elect, Decide, Raw, Show, Stop}
use Rattle.schedule_replay.specs.Names.{number_of}
use Rattle.schedule_replay.specs.Replays.{NamesValue, ReplayValue, journaled, led}
use Rattle.schedule_replay.specs.Roads.{Road, behind_one, gift, handed}

-- a message's own bytes
abbrev pub frame_at : State → (message : ℕ) → List ℕ
frame_at st message = option_map_or (λ (p : Posted). p.frame) (posted_at st message) []

-- an event of the transaction of this name
abbrev pub by_name : NamesValue → List ℕ → (ℕ → EventValue) → Option EventValue
by_name names name event = option_map event (number_of name names)

-- a faulty client claims to have read a key, at the version of the transaction of a name or at genesis
abbrev pub claim_of : NamesValue → (name key : List ℕ) → Option (List ℕ) → Option EventValue
claim_of names name key None = by_name names name (λ tx. events.Claim tx key None)
claim_of names name key (Some writer) =
    option_and_then (λ w. by_name names name (λ tx. events.Claim tx key (Some w))) (number_of writer names)

-- what a line hands over of a message
abbrev pub given_to : ReplayValue → Line → List ℕ
given_to r (Deliver message) = handed r.road (frame_at r.state message)
given_to r (Divert message to) = handed r.road (frame_at r.state message)
given_to r (Stop shard replica message write bytes) = handed r.road (frame_at r.state message)
given_to r _ = []

-- what links give to a line that hands over these bytes
abbrev pub gifts : (carried : Bool) → Line → (given : List ℕ) → List (List ℕ)
gifts carried (Deliver message) given = gift carried given
gifts carried (Divert message to) given = gift carried given
gifts carried (Stop shard replica message write bytes) given = gift carried given
gifts carried _ given = []

-- the road behind a line that has one event alone
abbrev pub road_behind : Line → Road → Road
road_behind (Deliver message) road = behind_one road
road_behind (Divert message to) road = behind_one road
road_behind (Stop shard replica message write bytes) road = behind_one road
road_behind _ road = road

-- the event of a line that has one alone; what is delivered or diverted is handed over as these bytes
abbrev pub event_of : NamesValue → (given : List ℕ) → Line → Option EventValue
event_of names given (Begin name client time) = Some (events.Begin client time)
event_of names given (Read name key) = by_name names name (λ tx. events.Read tx key)
event_of names given (Write name key value) =
    by_name names name (λ tx. events.Write tx (record { key = key; value = value; deletes = false }))
event_of names given (Delete name key) =
    by_name names name (λ tx. events.Write tx (record { key = key; value = []; deletes = true }))
event_of names given (Claim name key writer) = claim_of names name key writer
event_of names given (Prepare name) = by_name names name events.Prepare
event_of names given (Settle name client) = by_name names name (λ tx. events.Settle tx client)
event_of names given (Recover name client) = by_name names name (λ tx. events.Recover tx client)
event_of names given (Invoke name client) = by_name names name (λ tx. events.Invoke tx client)
event_of names given (Deliver message) = Some (events.Deliver message given)
event_of names given (Lose message) = Some (events.Lose message)
event_of names given (Divert message to) = Some (events.Divert message to given)
event_of names given (Clock shard replica moment) = Some (events.Clock shard replica moment)
event_of names given (Vote shard replica name decision client) =
    by_name names name (λ tx. events.Vote shard replica tx decision client)
event_of names given (Second name decision replica) = by_name names name (λ tx. events.Second tx decision replica)
event_of names given (Logged shard replica name decision decided current client) =
    by_name names name (λ tx. events.Logged shard replica tx decision decided current client)
event_of names given (Elect shard replica name decision view) =
    by_name names name (λ tx. events.Elect shard replica tx decision view)
event_of names given (Decide shard replica name decision view to) =
    by_name names name (λ tx. events.Decide shard replica tx decision view to)
event_of names given (Raw from to frame) = Some (events.Raw from to frame)
event_of names given (Show frame) = Some (events.Show frame)
event_of names given _ = None

-- ---- rounds

-- the numbers, from this one on, of the messages that wait
abbrev pub waiting_from : (number : ℕ) → List Posted → List ℕ
waiting_from number [] = []
waiting_from number (p ∷ ps) =
    if is_waiting p.fate then number ∷ waiting_from (number + 1) ps else waiting_from (number + 1) ps

abbrev pub waiting : State → List ℕ
waiting st = waiting_from 1 st.pool

-- a message is delivered
abbrev pub deliver : ReplayValue → (message : ℕ) → Result ReplayValue WorldFault
deliver r message =
    happens_in r.setup (events.Deliver message (handed r.road (frame_at r.state message))) (journaled r)
    >>= λ x. Ok (led (behind_one r.road) x r)

-- these messages are delivered, one after another
abbrev pub deliver_all : List ℕ → ReplayValue → Result ReplayValue WorldFault
deliver_all [] r = Ok r
deliver_all (message ∷ messages) r = deliver r message >>= deliver_all messages

-- the messages that a line delivers one after another: those that wait when a round begins
abbrev pub round_of : ReplayValue → Line → List ℕ
round_of r Round = waiting r.state
round_of r line = []

-- ---- what a line's events come to: a round delivers each message that waits when the line begins

abbrev pub happen : Setup → JournaledState → Option EventValue → Result JournaledState WorldFault
happen s x None = Ok x
happen s x (Some event) = happens_in s event x

-- another line: a stop hands a message to a replica whose disk stops; the others have one event alone
abbrev pub one_does : ReplayValue → (given : List ℕ) → Line → Result JournaledState WorldFault
one_does r given (Stop shard replica message write bytes) =
    stops_in r.setup message shard replica (record { write = write; bytes = bytes }) given (journaled r)
one_does r given line = happen r.setup (journaled r) (event_of r.names given line)

abbrev pub line_does : ReplayValue → Line → Result ReplayValue WorldFault
line_does r Round = deliver_all (waiting r.state) r
line_does r line = one_does r (given_to r line) line >>= λ x. Ok (led (road_behind line r.road) x r)
