-- The kinds of lines, by their first tokens.
use Rattle.std.specs.Prelude.{codes, bytes_eq, if◌then◌else◌, Option, Some, None}
use Rattle.schedule_text.specs.declared.kinds.Kind.{Kind}
use Rattle.schedule_text.specs.declared.kinds.Kind.TheVariants.{Basil, Faulty, Begin, Read, Write, Delete}
use Rattle.schedule_text.specs.declared.kinds.Kind.TheVariants.{Claim, Prepare, Settle, Recover, Invoke}
use Rattle.schedule_text.specs.declared.kinds.Kind.TheVariants.{Round, Deliver, Lose, Divert, Clock, Vote}
use Rattle.schedule_text.specs.declared.kinds.Kind.TheVariants.{Second, Logged, Elect, Decide, Raw, Show, Stop}
use Rattle.line_fields.specs.Tokens.{Token}

-- the kind that a first token names, of those that speak of messages or of faulty replicas
unfoldable pub message_kind_of : Token → Option Kind
message_kind_of token =
    if bytes_eq token (codes "round") then Some Round
    else if bytes_eq token (codes "deliver") then Some Deliver
    else if bytes_eq token (codes "lose") then Some Lose
    else if bytes_eq token (codes "divert") then Some Divert
    else if bytes_eq token (codes "clock") then Some Clock
    else if bytes_eq token (codes "vote") then Some Vote
    else if bytes_eq token (codes "second") then Some Second
    else if bytes_eq token (codes "logged") then Some Logged
    else if bytes_eq token (codes "elect") then Some Elect
    else if bytes_eq token (codes "decide") then Some Decide
    else if bytes_eq token (codes "raw") then Some Raw
    else if bytes_eq token (codes "show") then Some Show
    else if bytes_eq token (codes "stop") then Some Stop
    else None

-- the kind that a first token names
unfoldable pub kind_of : Token → Option Kind
kind_of token =
    if bytes_eq token (codes "basil") then Some Basil
    else if bytes_eq token (codes "faulty") then Some Faulty
    else if bytes_eq token (codes "begin") then Some Begin
    else if bytes_eq token (codes "read") then Some Read
    else if bytes_eq token (codes "write") then Some Write
    else if bytes_eq token (codes "delete") then Some Delete
    else if bytes_eq token (codes "claim") then Some Claim
    else if bytes_eq token (codes "prepare") then Some Prepare
    else if bytes_eq token (codes "settle") then Some Settle
    else if bytes_eq token (codes "recover") then Some Recover
    else if bytes_eq token (codes "invoke") then Some Invoke
    else message_kind_of token
