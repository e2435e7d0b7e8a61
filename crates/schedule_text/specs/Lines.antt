-- What the tokens behind a line's first one say, kind by kind.
use Rattle.std.specs.Prelude.{ℕ, List, [], ◌∷◌, Option, Some, None, Result, Ok, Err}
use Rattle.schedule_text.specs.declared.line.Line.{Line}
use Rattle.schedule_text.specs.declared.line.Line.TheVariants.{Faulty, Begin, Read, Write, Delete, Claim}
use Rattle.schedule_text.specs.declared.line.Line.TheVariants.{Prepare, Settle, Recover, Invoke, Round}
use Rattle.schedule_text.specs.declared.line.Line.TheVariants.{Deliver, Lose, Divert, Clock, Vote, Second}
use Rattle.schedule_text.specs.declared.line.Line.TheVariants.{Logged, Elect, Decide, Raw, Show, Stop}
use Rattle.schedule_text.specs.declared.kinds.Kind.{Kind}
use Rattle.schedule_text.specs.declared.kinds.Kind.TheVariants as kind
use Rattle.line_fields.specs.declared.complaint.Complaint.{Complaint}
use Rattle.line_fields.specs.declared.complaint.Complaint.TheVariants.{Misspelt}
use Rattle.line_fields.specs.Tokens.{Token, one_of, two_of, three_of, five_of, six_of, seven_of}
use Rattle.line_fields.specs.Complaints.{both, made, made2, made3, made4, made5}
use Rattle.line_fields.specs.Fields.{name, key, value, writer, client, replica}
use Rattle.line_fields.specs.Fields.{number, decision, views, view, frame, hex, write}
use Rattle.line_fields.specs.Parties.{party, only_party, place}
use Rattle.schedule_text.specs.Headers.{header}

-- fields of so many tokens; any other number of tokens is misspelt
abbrev pub fields : {A Z : Type 0} → Option A → (A → Result Z Complaint) → Result Z Complaint
fields None f = Err Misspelt
fields (Some t) f = f t

-- `begin NAME C TIME`
unfoldable pub begin : List Token → Result Line Complaint
begin tokens = fields (three_of tokens) (λ t. made3 Begin (name t.0) (client t.1) (number t.2))

-- `read NAME KEY`
unfoldable pub read : List Token → Result Line Complaint
read tokens = fields (two_of tokens) (λ t. made2 Read (name t.0) (key t.1))

-- `write NAME KEY VALUE`
unfoldable pub write_of : List Token → Result Line Complaint
write_of tokens = fields (three_of tokens) (λ t. made3 Write (name t.0) (key t.1) (value t.2))

-- `delete NAME KEY`
unfoldable pub delete : List Token → Result Line Complaint
delete tokens = fields (two_of tokens) (λ t. made2 Delete (name t.0) (key t.1))

-- `claim NAME KEY WRITER`
unfoldable pub claim : List Token → Result Line Complaint
claim tokens = fields (three_of tokens) (λ t. made3 Claim (name t.0) (key t.1) (writer t.2))

-- `prepare NAME`
unfoldable pub prepare : List Token → Result Line Complaint
prepare tokens = fields (one_of tokens) (λ t. made Prepare (name t))

-- `NAME C`: a client, and the transaction that it is to go on with
unfoldable pub call : List Token → Result (List ℕ × ℕ) Complaint
call tokens = fields (two_of tokens) (λ t. both (name t.0) (client t.1))

-- `settle NAME C`
unfoldable pub settle : List Token → Result Line Complaint
settle tokens = made (λ t. Settle t.0 t.1) (call tokens)

-- `recover NAME C`
unfoldable pub recover : List Token → Result Line Complaint
recover tokens = made (λ t. Recover t.0 t.1) (call tokens)

-- `invoke NAME C`
unfoldable pub invoke : List Token → Result Line Complaint
invoke tokens = made (λ t. Invoke t.0 t.1) (call tokens)

-- `round`
unfoldable pub round : List Token → Result Line Complaint
round [] = Ok Round
round (a ∷ rest) = Err Misspelt

-- `deliver I`
unfoldable pub deliver : List Token → Result Line Complaint
deliver tokens = fields (one_of tokens) (λ t. made Deliver (number t))

-- `lose I`
unfoldable pub lose : List Token → Result Line Complaint
lose tokens = fields (one_of tokens) (λ t. made Lose (number t))

-- `faulty PARTY`
unfoldable pub faulty : List Token → Result Line Complaint
faulty tokens = made Faulty (only_party tokens)

-- `divert I PARTY`
unfoldable pub divert : List Token → Result Line Complaint
divert [] = Err Misspelt
divert (i ∷ tokens) = made2 Divert (number i) (only_party tokens)

-- `clock S R T`
unfoldable pub clock : List Token → Result Line Complaint
clock tokens = fields (three_of tokens) (λ t. made2 (λ at moment. Clock at.0 at.1 moment) (place t.0 t.1) (number t.2))

-- `vote S R NAME D C`
unfoldable pub vote : List Token → Result Line Complaint
vote tokens =
    fields (five_of tokens)
    (λ t. made4 (λ at n d c. Vote at.0 at.1 n d c) (place t.0 t.1) (name t.2) (decision t.3) (client t.4))

-- `second NAME D R`
unfoldable pub second : List Token → Result Line Complaint
second tokens = fields (three_of tokens) (λ t. made3 Second (name t.0) (decision t.1) (replica t.2))

-- `logged S R NAME D DECIDED CURRENT C`
unfoldable pub logged : List Token → Result Line Complaint
logged tokens =
    fields (seven_of tokens)
    (λ t. made5 (λ at n d v c. Logged at.0 at.1 n d v.0 v.1 c)
    (place t.0 t.1) (name t.2) (decision t.3) (views t.4 t.5) (client t.6))

-- `elect S R NAME D VIEW`
unfoldable pub elect : List Token → Result Line Complaint
elect tokens =
    fields (five_of tokens)
    (λ t. made4 (λ at n d v. Elect at.0 at.1 n d v) (place t.0 t.1) (name t.2) (decision t.3) (view t.4))

-- `decide S R NAME D VIEW Q`
unfoldable pub decide : List Token → Result Line Complaint
decide tokens =
    fields (six_of tokens)
    (λ t. made5 (λ at n d v q. Decide at.0 at.1 n d v q)
    (place t.0 t.1) (name t.2) (decision t.3) (view t.4) (replica t.5))

-- `raw PARTY PARTY HEX`
unfoldable pub raw : List Token → Result Line Complaint
raw tokens =
    fields (party tokens)
    (λ from. fields (party from.1) (λ to. fields (one_of to.1) (λ t. made3 Raw from.0 to.0 (frame t))))

-- `show HEX`
unfoldable pub show : List Token → Result Line Complaint
show tokens = fields (one_of tokens) (λ t. made Show (frame t))

-- `stop S R I W HEX`
unfoldable pub stop : List Token → Result Line Complaint
stop tokens =
    fields (five_of tokens)
    (λ t. made4 (λ at i w b. Stop at.0 at.1 i w b) (place t.0 t.1) (number t.2) (write t.3) (hex t.4))

-- what the tokens behind the first one say
unfoldable pub line_of : Kind → List Token → Result Line Complaint
line_of kind.Basil tokens = header tokens
line_of kind.Faulty tokens = faulty tokens
line_of kind.Begin tokens = begin tokens
line_of kind.Read tokens = read tokens
line_of kind.Write tokens = write_of tokens
line_of kind.Delete tokens = delete tokens
line_of kind.Claim tokens = claim tokens
line_of kind.Prepare tokens = prepare tokens
line_of kind.Settle tokens = settle tokens
line_of kind.Recover tokens = recover tokens
line_of kind.Invoke tokens = invoke tokens
line_of kind.Round tokens = round tokens
line_of kind.Deliver tokens = deliver tokens
line_of kind.Lose tokens = lose tokens
line_of kind.Divert tokens = divert tokens
line_of kind.Clock tokens = clock tokens
line_of kind.Vote tokens = vote tokens
line_of kind.Second tokens = second tokens
line_of kind.Logged tokens = logged tokens
line_of kind.Elect tokens = elect tokens
line_of kind.Decide tokens = decide tokens
line_of kind.Raw tokens = raw tokens
line_of kind.Show tokens = show tokens
line_of kind.Stop tokens = stop tokens
