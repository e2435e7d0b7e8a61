-- The one spelling of a line.
use Rattle.std.specs.Prelude.{ℕ, ◌/◌, ◌%◌, ◌==◌, length, List, [], ◌∷◌, ◌++◌, codes, decimal}
use Rattle.std.specs.Prelude.{slice_index, Bool, true, false, if◌then◌else◌, Option, Some, None}
use Rattle.std.specs.List.{flat_map, join_with_byte}
use Rattle.hex.specs.Hex.{lower_digits, encode_lower}
use Rattle.basil_types.specs.declared.party.Party.{Party}
use Rattle.basil_types.specs.declared.party.Party.TheVariants.{Replica, Client}
use Rattle.basil_types.specs.declared.party.Decision.{Decision}
use Rattle.basil_types.specs.declared.party.Decision.TheVariants.{Commit, Abort}
use Rattle.line_fields.specs.declared.keys_kind.KeysKind.{KeysKind}
use Rattle.line_fields.specs.declared.keys_kind.KeysKind.TheVariants.{Plain, W4H5, W4H10, W8H5, W8H10, Batch}
use Rattle.schedule_text.specs.declared.line.Line.{Line}
use Rattle.schedule_text.specs.declared.line.Line.TheVariants.{Header, Skipped, Faulty, Begin, Read, Write}
use Rattle.schedule_text.specs.declared.line.Line.TheVariants.{Delete, Claim, Prepare, Settle, Recover, Invoke}
use Rattle.schedule_text.specs.declared.line.Line.TheVariants.{Round, Deliver, Lose, Divert, Clock, Vote}
use Rattle.schedule_text.specs.declared.line.Line.TheVariants.{Second, Logged, Elect, Decide, Raw, Show, Stop}
use Rattle.line_fields.specs.Tokens.{Token}
use Rattle.line_fields.specs.Fields.{is_plain}

abbrev pub keys_token : KeysKind → Token
keys_token Plain = codes "plain"
keys_token W4H5 = codes "w4h5"
keys_token W4H10 = codes "w4h10"
keys_token W8H5 = codes "w8h5"
keys_token W8H10 = codes "w8h10"
keys_token Batch = codes "batch"

abbrev pub decision_token : Decision → Token
decision_token Commit = codes "commit"
decision_token Abort = codes "abort"

-- a byte that stands for itself, or its escape
abbrev pub spelled_byte : ℕ → List ℕ
spelled_byte b =
    if is_plain b then b ∷ [] else 37 ∷ slice_index lower_digits (b / 16) ∷ slice_index lower_digits (b % 16) ∷ []

abbrev pub key_token : List ℕ → Token
key_token bytes = flat_map spelled_byte bytes

-- the empty value is `%`
abbrev pub value_token : List ℕ → Token
value_token bytes = if length bytes == 0 then codes "%" else flat_map spelled_byte bytes

abbrev pub writer_token : Option (List ℕ) → Token
writer_token None = codes "-"
writer_token (Some name) = name

abbrev pub party_tokens : Party → List Token
party_tokens (Replica shard index) = codes "replica" ∷ decimal shard ∷ decimal index ∷ []
party_tokens (Client number) = codes "client" ∷ decimal number ∷ []

abbrev pub journal_tokens : Bool → List Token
journal_tokens true = codes "journal" ∷ []
journal_tokens false = []

-- the tokens of a line; a skipped line has one empty token
unfoldable pub line_tokens : Line → List Token
line_tokens (Header cluster clock keys journal) =
    codes "basil" ∷ codes "1"
    ∷ (codes "f=" ++ decimal cluster.f) ∷ (codes "shards=" ++ decimal cluster.shards)
    ∷ (codes "reads=" ++ decimal cluster.reads) ∷ (codes "delta=" ++ decimal cluster.delta)
    ∷ (codes "clock=" ++ decimal clock) ∷ (codes "keys=" ++ keys_token keys) ∷ journal_tokens journal
line_tokens Skipped = [] ∷ []
line_tokens (Faulty party) = codes "faulty" ∷ party_tokens party
line_tokens (Begin name client time) = codes "begin" ∷ name ∷ decimal client ∷ decimal time ∷ []
line_tokens (Read name key) = codes "read" ∷ name ∷ key_token key ∷ []
line_tokens (Write name key value) = codes "write" ∷ name ∷ key_token key ∷ value_token value ∷ []
line_tokens (Delete name key) = codes "delete" ∷ name ∷ key_token key ∷ []
line_tokens (Claim name key writer) = codes "claim" ∷ name ∷ key_token key ∷ writer_token writer ∷ []
line_tokens (Prepare name) = codes "prepare" ∷ name ∷ []
line_tokens (Settle name client) = codes "settle" ∷ name ∷ decimal client ∷ []
line_tokens (Recover name client) = codes "recover" ∷ name ∷ decimal client ∷ []
line_tokens (Invoke name client) = codes "invoke" ∷ name ∷ decimal client ∷ []
line_tokens Round = codes "round" ∷ []
line_tokens (Deliver message) = codes "deliver" ∷ decimal message ∷ []
line_tokens (Lose message) = codes "lose" ∷ decimal message ∷ []
line_tokens (Divert message to) = codes "divert" ∷ decimal message ∷ party_tokens to
line_tokens (Clock shard replica moment) = codes "clock" ∷ decimal shard ∷ decimal replica ∷ decimal moment ∷ []
line_tokens (Vote shard replica name decision client) =
    codes "vote" ∷ decimal shard ∷ decimal replica ∷ name ∷ decision_token decision ∷ decimal client ∷ []
line_tokens (Second name decision replica) = codes "second" ∷ name ∷ decision_token decision ∷ decimal replica ∷ []
line_tokens (Logged shard replica name decision decided current client) =
    codes "logged" ∷ decimal shard ∷ decimal replica ∷ name ∷ decision_token decision
    ∷ decimal decided ∷ decimal current ∷ decimal client ∷ []
line_tokens (Elect shard replica name decision view) =
    codes "elect" ∷ decimal shard ∷ decimal replica ∷ name ∷ decision_token decision ∷ decimal view ∷ []
line_tokens (Decide shard replica name decision view to) =
    codes "decide" ∷ decimal shard ∷ decimal replica ∷ name ∷ decision_token decision ∷ decimal view ∷ decimal to ∷ []
line_tokens (Raw from to frame) = codes "raw" ∷ (party_tokens from ++ party_tokens to ++ encode_lower frame ∷ [])
line_tokens (Show frame) = codes "show" ∷ encode_lower frame ∷ []
line_tokens (Stop shard replica message write bytes) =
    codes "stop" ∷ decimal shard ∷ decimal replica ∷ decimal message ∷ decimal write ∷ encode_lower bytes ∷ []

-- its tokens, parted by one space
abbrev pub spelling : Line → List ℕ
spelling line = join_with_byte 32 (line_tokens line)
