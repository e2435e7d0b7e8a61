-- What one token of a line says.
use Rattle.std.specs.Prelude.{ℕ, ◌+◌, ◌-◌, ◌*◌, ◌^◌, List, [], ◌∷◌, length, Bool, false, not}
use Rattle.std.specs.Prelude.{◌&&◌, ◌||◌, ◌==◌, nat_le, nat_lt, if◌then◌else◌, slice_index}
use Rattle.std.specs.Prelude.{take, drop, codes, bytes_eq, Option, Some, None, Result, Ok, Err}
use Rattle.std.specs.List.{list_all}
use Rattle.std.specs.Str.Parse.{digits_value}
use Rattle.hex.specs.Hex.{decode_of}
use Rattle.hex.specs.declared.error.FromHexError.{FromHexError}
use Rattle.basil_types.specs.declared.party.Decision.{Decision}
use Rattle.basil_types.specs.declared.party.Decision.TheVariants.{Commit, Abort}
use Rattle.basil_types.specs.Limits.{frame_limit, most_clients}
use Rattle.line_fields.specs.declared.keys_kind.KeysKind.{KeysKind}
use Rattle.line_fields.specs.declared.keys_kind.KeysKind.TheVariants.{Plain, W4H5, W4H10, W8H5, W8H10, Batch}
use Rattle.line_fields.specs.declared.complaint.Complaint.{Complaint}
use Rattle.line_fields.specs.declared.complaint.Complaint.TheVariants.{Misspelt, OutOfRange, OutOfSize}
use Rattle.line_fields.specs.Tokens.{Token}
use Rattle.line_fields.specs.Complaints.{both, made}

-- this very token
unfoldable pub literal : List ℕ → Token → Result (Unit {0}) Complaint
literal text token = if bytes_eq token text then Ok tt else Err Misspelt

abbrev pub is_digit : ℕ → Bool
is_digit b = nat_le 48 b && nat_le b 57

-- no zero stands before another digit
abbrev pub is_canonical : Token → Bool
is_canonical token = length token == 1 || not (slice_index token 0 == 48)

-- a number below 2 ^ 64 in decimal digits
unfoldable pub number : Token → Result ℕ Complaint
number token =
    if nat_lt 0 (length token) && list_all is_digit token then
    (if is_canonical token && nat_lt (digits_value 10 token)
    (2 ^ 64) then Ok (digits_value 10 token) else Err OutOfRange)
    else Err Misspelt

abbrev pub in_range : ℕ → ℕ → Result ℕ Complaint → Result ℕ Complaint
in_range least most (Ok n) = if nat_le least n && nat_le n most then Ok n else Err OutOfRange
in_range least most (Err c) = Err c

-- a number from the least to the most that its place takes
unfoldable pub number_in : ℕ → ℕ → Token → Result ℕ Complaint
number_in least most token = in_range least most (number token)

-- the widest ranges that any cluster gives
abbrev pub shard : Token → Result ℕ Complaint
shard token = number_in 0 7 token

abbrev pub replica : Token → Result ℕ Complaint
replica token = number_in 0 30 token

abbrev pub client : Token → Result ℕ Complaint
client token = number_in 1 most_clients token

-- a view to which an election leads
abbrev pub view : Token → Result ℕ Complaint
view token = number_in 1 (2 ^ 64 - 1) token

-- the first or the second write of a step
abbrev pub write : Token → Result ℕ Complaint
write token = number_in 1 2 token

abbrev pub in_order : Result (ℕ × ℕ) Complaint → Result (ℕ × ℕ) Complaint
in_order (Ok views) = if nat_le views.0 views.1 then Ok views else Err OutOfRange
in_order (Err c) = Err c

-- a decided view, and a current view that isn't below it
unfoldable pub views : Token → Token → Result (ℕ × ℕ) Complaint
views decided current = in_order (both (number decided) (number current))

abbrev pub is_lower : ℕ → Bool
is_lower b = nat_le 97 b && nat_le b 122

abbrev pub is_name_byte : ℕ → Bool
is_name_byte b = is_lower b || is_digit b

-- a lower-case letter and up to 15 lower-case letters or digits
abbrev pub is_name : Token → Bool
is_name [] = false
is_name (first ∷ rest) = is_lower first && list_all is_name_byte rest && nat_le (length rest) 15

unfoldable pub name : Token → Result (List ℕ) Complaint
name token = if is_name token then Ok token else Err Misspelt

-- a name, or `-` for none
unfoldable pub writer : Token → Result (Option (List ℕ)) Complaint
writer token = if bytes_eq token (codes "-") then Ok None else made Some (name token)

unfoldable pub decision : Token → Result Decision Complaint
decision token =
    if bytes_eq token (codes "commit") then Ok Commit
    else if bytes_eq token (codes "abort") then Ok Abort
    else Err Misspelt

-- the bytes that stand for themselves in a key or value: 0x21 to 0x7e other than `%` and `:`
abbrev pub is_plain : ℕ → Bool
is_plain b = nat_le 33 b && nat_le b 126 && not (b == 37) && not (b == 58)

-- a lower-case hex digit
abbrev pub is_lower_hex : ℕ → Bool
is_lower_hex b = is_digit b || nat_le 97 b && nat_le b 102

abbrev pub hex_digit : ℕ → Option ℕ
hex_digit b = if is_digit b then Some (b - 48) else if nat_le 97 b && nat_le b 102 then Some (b - 87) else None

abbrev pub pair_of_digits : Option ℕ → Option ℕ → Option ℕ
pair_of_digits (Some high) (Some low) = Some (16 * high + low)
pair_of_digits (Some high) None = None
pair_of_digits None low = None

abbrev pub unless_plain : Option ℕ → Option ℕ
unless_plain None = None
unless_plain (Some byte) = if is_plain byte then None else Some byte

-- the byte that `%` and two digits spell, where it doesn't stand for itself
abbrev pub escape : ℕ → ℕ → ℕ → Option ℕ
escape percent high low = if percent == 37 then unless_plain (pair_of_digits (hex_digit high) (hex_digit low)) else None

abbrev pub onto : Option ℕ → Option (List ℕ) → Option (List ℕ)
onto (Some b) (Some bytes) = Some (b ∷ bytes)
onto (Some b) None = None
onto None bytes = None

-- the bytes that a token spells, each by itself or by its escape
unfoldable pub unescaped : Token → Option (List ℕ)
unescaped [] = Some []
unescaped (b ∷ []) = if is_plain b then Some (b ∷ []) else None
unescaped (b ∷ c ∷ []) = if is_plain b then onto (Some b) (unescaped (c ∷ [])) else None
unescaped (b ∷ c ∷ d ∷ rest) =
    if is_plain b then onto (Some b) (unescaped (c ∷ d ∷ rest)) else onto (escape b c d) (unescaped rest)

-- bytes of at most this length
abbrev pub sized : ℕ → Option (List ℕ) → Result (List ℕ) Complaint
sized most None = Err Misspelt
sized most (Some bytes) = if nat_le (length bytes) most then Ok bytes else Err OutOfSize

-- a token of some bytes, at most this many
unfoldable pub text : ℕ → Token → Result (List ℕ) Complaint
text most [] = Err Misspelt
text most (b ∷ rest) = sized most (unescaped (b ∷ rest))

abbrev pub key : Token → Result (List ℕ) Complaint
key token = text 64 token

-- `%` alone is the empty value
unfoldable pub value : Token → Result (List ℕ) Complaint
value token = if bytes_eq token (codes "%") then Ok [] else text 256 token

abbrev pub spelt : Result (List ℕ) FromHexError → Result (List ℕ) Complaint
spelt (Ok bytes) = Ok bytes
spelt (Err e) = Err Misspelt

-- an even number of lower-case hex digits, at least two
unfoldable pub hex : Token → Result (List ℕ) Complaint
hex token = if nat_lt 0 (length token) && list_all is_lower_hex token then spelt (decode_of token) else Err Misspelt

abbrev pub sized_frame : Result (List ℕ) Complaint → Result (List ℕ) Complaint
sized_frame (Ok bytes) = if nat_le (length bytes) frame_limit then Ok bytes else Err OutOfSize
sized_frame (Err c) = Err c

-- the hex of a frame that isn't above its limit
unfoldable pub frame : Token → Result (List ℕ) Complaint
frame token = sized_frame (hex token)

-- how the parties sign
unfoldable pub keys_kind : Token → Result KeysKind Complaint
keys_kind token =
    if bytes_eq token (codes "plain") then Ok Plain
    else if bytes_eq token (codes "w4h5") then Ok W4H5
    else if bytes_eq token (codes "w4h10") then Ok W4H10
    else if bytes_eq token (codes "w8h5") then Ok W8H5
    else if bytes_eq token (codes "w8h10") then Ok W8H10
    else if bytes_eq token (codes "batch") then Ok Batch
    else Err Misspelt

-- what stands behind the label in a token that begins with it
unfoldable pub behind : List ℕ → Token → Option Token
behind label token = if bytes_eq (take (length label) token) label then Some (drop (length label) token) else None

abbrev pub where_named : {Z : Type 0} → (Token → Result Z Complaint) → Option Token → Result Z Complaint
where_named field None = Err Misspelt
where_named field (Some token) = field token

-- a field behind its label
abbrev pub labelled : {Z : Type 0} → List ℕ → (Token → Result Z Complaint) → Token → Result Z Complaint
labelled label field token = where_named field (behind label token)
