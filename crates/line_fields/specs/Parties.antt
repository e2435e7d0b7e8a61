-- The parties that tokens name.
use Rattle.std.specs.Prelude.{ℕ, List, [], ◌∷◌, codes, bytes_eq, if◌then◌else◌, Option, Some, None, Result, Err}
use Rattle.basil_types.specs.declared.party.Party.{Party}
use Rattle.basil_types.specs.declared.party.Party.TheVariants.{Replica, Client}
use Rattle.line_fields.specs.declared.complaint.Complaint.{Complaint}
use Rattle.line_fields.specs.declared.complaint.Complaint.TheVariants.{Misspelt}
use Rattle.line_fields.specs.Tokens.{Token}
use Rattle.line_fields.specs.Complaints.{both, made, made2}
use Rattle.line_fields.specs.Fields.{shard, replica, client}

-- a replica's shard and its index there
abbrev pub place : Token → Token → Result (ℕ × ℕ) Complaint
place s r = both (shard s) (replica r)

abbrev pub replica_party : List Token → Option (Result Party Complaint × List Token)
replica_party [] = None
replica_party (s ∷ []) = None
replica_party (s ∷ r ∷ rest) = Some (made2 Replica (shard s) (replica r), rest)

abbrev pub client_party : List Token → Option (Result Party Complaint × List Token)
client_party [] = None
client_party (c ∷ rest) = Some (made Client (client c), rest)

-- `replica S R` or `client C`, and the tokens behind it; none where the tokens begin otherwise
unfoldable pub party : List Token → Option (Result Party Complaint × List Token)
party [] = None
party (kind ∷ rest) =
    if bytes_eq kind (codes "replica") then replica_party rest
    else if bytes_eq kind (codes "client") then client_party rest
    else None

abbrev pub if_ended : Result Party Complaint → List Token → Result Party Complaint
if_ended p [] = p
if_ended p (a ∷ rest) = Err Misspelt

abbrev pub whole : Option (Result Party Complaint × List Token) → Result Party Complaint
whole None = Err Misspelt
whole (Some p) = if_ended p.0 p.1

-- a party, and no token behind
unfoldable pub only_party : List Token → Result Party Complaint
only_party tokens = whole (party tokens)
