-- The events of a world.
use Rattle.std.specs.Prelude.{[], true, false}
use Rattle.cluster_run.specs.Events as events
use Rattle.cluster_run.specs.Events.{EventValue}
use Rattle.cluster_world.specs.declared.event.Event.{Event}
use Rattle.cluster_world.specs.declared.event.Event.TheVariants.{Begin, Read, Write, Delete, Claim, Prepare, Settle}
use Rattle.cluster_world.specs.declared.event.Event.TheVariants.{Recover, Invoke}
use Rattle.cluster_world.specs.declared.event.Event.TheVariants.{Deliver, Lose, Divert, Clock, Vote, Second, Logged}
use Rattle.cluster_world.specs.declared.event.Event.TheVariants.{Elect, Decide, Raw, Show}

abbrev pub event_value : Event → EventValue
event_value (Begin client time) = events.Begin client time
event_value (Read tx key) = events.Read tx key.now
event_value (Write tx key value) = events.Write tx (record { key = key.now; value = value.now; deletes = false })
event_value (Delete tx key) = events.Write tx (record { key = key.now; value = []; deletes = true })
event_value (Claim tx key writer) = events.Claim tx key.now writer
event_value (Prepare tx) = events.Prepare tx
event_value (Settle tx client) = events.Settle tx client
event_value (Recover tx client) = events.Recover tx client
event_value (Invoke tx client) = events.Invoke tx client
event_value (Deliver message given) = events.Deliver message given.now
event_value (Lose message) = events.Lose message
event_value (Divert message to given) = events.Divert message to given.now
event_value (Clock shard replica moment) = events.Clock shard replica moment
event_value (Vote shard replica tx decision client) = events.Vote shard replica tx decision client
event_value (Second tx decision replica) = events.Second tx decision replica
event_value (Logged shard replica tx decision decided current client) =
    events.Logged shard replica tx decision decided current client
event_value (Elect shard replica tx decision view) = events.Elect shard replica tx decision view
event_value (Decide shard replica tx decision view to) = events.Decide shard replica tx decision view to
event_value (Raw from to frame) = events.Raw from to frame.now
event_value (Show frame) = events.Show frame.now
