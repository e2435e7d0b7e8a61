-- The values that lines have.
use Rattle.std.specs.Prelude.{List, None, Ok, Option, Some, length, true, ℕ, ⊤, ◌↔◌, ◌≡◌, ◌≢◌, ◌≤◌, ◌⊎◌}
use Rattle.hex.specs.Hex.{IsBytes}
use Rattle.basil_types.specs.Limits.{frame_limit, most_clients, IsU64}
use Rattle.basil_types.specs.Setting.{IsSetting}
use Rattle.basil_types.specs.declared.party.Party.{Party}
use Rattle.basil_types.specs.declared.party.Party.TheVariants.{Replica, Client}
use Rattle.schedule_text.specs.declared.line.Line.{Line}
use Rattle.schedule_text.specs.declared.line.Line.TheVariants.{Header, Skipped, Faulty, Begin, Read, Write}
use Rattle.schedule_text.specs.declared.line.Line.TheVariants.{Delete, Claim, Prepare, Settle, Recover, Invoke}
use Rattle.schedule_text.specs.declared.line.Line.TheVariants.{Round, Deliver, Lose, Divert, Clock, Vote}
use Rattle.schedule_text.specs.declared.line.Line.TheVariants.{Second, Logged, Elect, Decide, Raw, Show, Stop}
use Rattle.line_fields.specs.Fields.{is_name}
use Rattle.line_fields.specs.Limits.{longest_line, most_lines}
use Rattle.schedule_text.specs.Reading.{is_skipped, line_at}
use Rattle.schedule_text.specs.Spelling.{spelling}

abbrev pub IsName : List ℕ → Type 0
IsName name = is_name name ≡ true

abbrev pub IsWriter : Option (List ℕ) → Type 0
IsWriter None = ⊤
IsWriter (Some name) = IsName name

-- from so many bytes to so many
abbrev pub HasBytes : ℕ → ℕ → List ℕ → Type 0
HasBytes least most bytes = (least ≤ length bytes) × (length bytes ≤ most) × IsBytes bytes

abbrev pub IsPlace : ℕ → ℕ → Type 0
IsPlace shard replica = (shard ≤ 7) × (replica ≤ 30)

abbrev pub IsClient : ℕ → Type 0
IsClient client = (1 ≤ client) × (client ≤ most_clients)

abbrev pub IsParty : Party → Type 0
IsParty (Replica shard index) = IsPlace shard index
IsParty (Client number) = IsClient number

-- the ranges of a line's fields
abbrev pub Fits : Line → Type 0
Fits (Header cluster clock keys journal) = IsSetting cluster × IsU64 cluster.delta × IsU64 clock
Fits Skipped = ⊤
Fits (Faulty party) = IsParty party
Fits (Begin name client time) = IsName name × IsClient client × IsU64 time
Fits (Read name key) = IsName name × HasBytes 1 64 key
Fits (Write name key value) = IsName name × HasBytes 1 64 key × HasBytes 0 256 value
Fits (Delete name key) = IsName name × HasBytes 1 64 key
Fits (Claim name key writer) = IsName name × HasBytes 1 64 key × IsWriter writer
Fits (Prepare name) = IsName name
Fits (Settle name client) = IsName name × IsClient client
Fits (Recover name client) = IsName name × IsClient client
Fits (Invoke name client) = IsName name × IsClient client
Fits Round = ⊤
Fits (Deliver message) = IsU64 message
Fits (Lose message) = IsU64 message
Fits (Divert message to) = IsU64 message × IsParty to
Fits (Clock shard replica moment) = IsPlace shard replica × IsU64 moment
Fits (Vote shard replica name decision client) = IsPlace shard replica × IsName name × IsClient client
Fits (Second name decision replica) = IsName name × (replica ≤ 30)
Fits (Logged shard replica name decision decided current client) =
    IsPlace shard replica × IsName name × (decided ≤ current) × IsU64 current × IsClient client
Fits (Elect shard replica name decision view) = IsPlace shard replica × IsName name × (1 ≤ view) × IsU64 view
Fits (Decide shard replica name decision view to) =
    IsPlace shard replica × IsName name × (1 ≤ view) × IsU64 view × (to ≤ 30)
Fits (Raw from to frame) = IsParty from × IsParty to × HasBytes 1 frame_limit frame
Fits (Show frame) = HasBytes 1 frame_limit frame
Fits (Stop shard replica message write bytes) =
    IsPlace shard replica × IsU64 message × (1 ≤ write) × (write ≤ 2) × (1 ≤ length bytes) × IsBytes bytes

-- the grammar: a skipped line says Skipped, and any other value is said by its one spelling
abbrev pub Says : List ℕ → Line → Type 0
Says line value =
    ((value ≡ Skipped) × (is_skipped line ≡ true)) ⊎ ((value ≢ Skipped) × Fits value × (spelling value ≡ line))

-- a line is read as a value exactly where it says it, isn't too long, and doesn't stand behind the millionth
abbrev pub GrammarIsRead : Type 0
GrammarIsRead =
    (line : List ℕ) (number : ℕ) (value : Line) →
    (line_at line number ≡ Ok value) ↔ (Says line value × (length line ≤ longest_line) × (number ≤ most_lines))

-- a line says at most one value
abbrev pub OneValue : Type 0
OneValue = (line : List ℕ) (a b : Line) → Says line a → Says line b → a ≡ b

-- the spelling of a value that fits is read as that value, where it isn't too long and has a line's number
abbrev pub SpellingIsRead : Type 0
SpellingIsRead =
    (value : Line) (number : ℕ) → Fits value → length (spelling value) ≤ longest_line → number ≤ most_lines →
    line_at (spelling value) number ≡ Ok value
