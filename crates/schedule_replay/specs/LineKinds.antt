-- Kinds of lines that have one event alone.
use Rattle.std.specs.Prelude.{⊤}
use Rattle.schedule_text.specs.declared.line.Line.{Line}
use Rattle.schedule_text.specs.declared.line.Line.TheVariants.{Begin, Read, Write, Delete, Claim, Prepare, Settle}
use Rattle.schedule_text.specs.declared.line.Line.TheVariants.{Recover, Invoke, Vote, Second, Logged, Elect, Decide}

-- it begins a transaction, or reads or writes in one
abbrev pub IsOwn : Line → Type 0
IsOwn (Begin name client time) = ⊤
IsOwn (Read name key) = ⊤
IsOwn (Write name key value) = ⊤
IsOwn (Delete name key) = ⊤
IsOwn (Claim name key writer) = ⊤
IsOwn _ = ⊥

-- it asks a client for a stage of a transaction
abbrev pub IsAsk : Line → Type 0
IsAsk (Prepare name) = ⊤
IsAsk (Settle name client) = ⊤
IsAsk (Recover name client) = ⊤
IsAsk (Invoke name client) = ⊤
IsAsk _ = ⊥

-- a faulty replica votes, or a faulty client begins a second stage
abbrev pub IsLie : Line → Type 0
IsLie (Vote shard replica name decision client) = ⊤
IsLie (Second name decision replica) = ⊤
IsLie _ = ⊥

-- a faulty replica replies to a second stage
abbrev pub IsLogReply : Line → Type 0
IsLogReply (Logged shard replica name decision decided current client) = ⊤
IsLogReply _ = ⊥

-- a faulty replica takes part in an election
abbrev pub IsElection : Line → Type 0
IsElection (Elect shard replica name decision view) = ⊤
IsElection (Decide shard replica name decision view to) = ⊤
IsElection _ = ⊥

-- it is of none of these kinds
abbrev pub IsRest : Line → Type 0
IsRest (Begin name client time) = ⊥
IsRest (Read name key) = ⊥
IsRest (Write name key value) = ⊥
IsRest (Delete name key) = ⊥
IsRest (Claim name key writer) = ⊥
IsRest (Prepare name) = ⊥
IsRest (Settle name client) = ⊥
IsRest (Recover name client) = ⊥
IsRest (Invoke name client) = ⊥
IsRest (Vote shard replica name decision client) = ⊥
IsRest (Second name decision replica) = ⊥
IsRest (Logged shard replica name decision decided current client) = ⊥
IsRest (Elect shard replica name decision view) = ⊥
IsRest (Decide shard replica name decision view to) = ⊥
IsRest _ = ⊤
