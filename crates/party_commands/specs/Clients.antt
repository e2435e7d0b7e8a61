-- `client`, `form`, `recover` and `certify`: a client of a cluster's file that carries one transaction through, or only
-- forms it, or carries through one that was formed.
use Rattle.std.specs.Prelude.{◌≡◌, ◌⊎◌, ◌≤◌, ⊤, ℕ, max, length, List, [], ◌∷◌, codes, if◌then◌else◌}
use Rattle.std.specs.Prelude.{Option, Some, None, option_map, Result, Ok, Err, IfOk}
use Rattle.std.specs.Str.{bytes_eq}
use Rattle.basil_types.specs.Limits.{most_clients}
use Rattle.basil_types.specs.Links.{LinkState}
use Rattle.client_core.specs.Shown.{own, ShowsClient}
use Rattle.client_core.specs.Clients.{ClientSelf, ClientValue}
use Rattle.client_core.specs.declared.client.Client.{Client}
use Rattle.client_link.specs.declared.fault.RunFault.{RunFault}
use Rattle.client_link.specs.declared.fault.RunFault.TheVariants as runs
use Rattle.client_link.specs.declared.aim.Aim.TheVariants as aims
use Rattle.client_link.specs.Running.{Going, RunsPlan, RunsRecovery, starting}
use Rattle.client_link.specs.Talking.{Talk}
use Rattle.client_text.specs.Certifying.{certified}
use Rattle.client_text.specs.Handing.{handed_over, signed_of}
use Rattle.client_text.specs.Ops.{plan_of}
use Rattle.client_text.specs.Reports.{report_of}
use Rattle.cluster_file.specs.Listing.{Listing}
use Rattle.cluster_file.specs.Text.{cluster_in}
use Rattle.frame_views.specs.Values.{SignedValue}
use Rattle.keyring.specs.declared.verifier.Verifier as verifiers
use Rattle.keyring.specs.declared.signer.Signer as signers
use Rattle.node_link.specs.Asking.{RoseBy}
use Rattle.node_link.specs.Serving.{next_moment}
use Rattle.party_seat.specs.Limits.{most_connections}
use Rattle.party_seat.specs.Clients.{SeatedClient, client_in}
use Rattle.party_seat.specs.declared.client.ClientSeat.{ClientSeat}
use Rattle.party_seat.specs.declared.fault.SeatFault.{SeatFault}
use Rattle.party_seat.specs.declared.fault.SeatFault.TheVariants as seats
use Rattle.line_fields.specs.Fields.{number_in}
use Rattle.line_fields.specs.Tokens.{Token}
use Rattle.line_fields.specs.declared.reason.Reason.TheVariants.{RefusedCall}
use Rattle.command_input.specs.Ranges.{seed_size, most_leaves}
use Rattle.command_ends.specs.Answers.{Answers, Counts, IsTold}
use Rattle.command_input.specs.Commands.{hex_of, said}
use Rattle.command_input.specs.Files.{file_reason}
use Rattle.party_commands.specs.Nodes.{node_of, seat_reason}
use Rattle.command_ends.specs.Outcome.{Outcome, BadLine, TooLong, Undecided, Written, is_too_long}
use Rattle.command_ends.specs.Endings.{outcome_is}
use Rattle.party_commands.specs.declared.client.ClientCall.{ClientCall}
use Rattle.party_commands.specs.declared.client.ClientTask.{ClientTask}
use Rattle.party_commands.specs.declared.client.ClientTask.TheVariants.{Transact, Form, Recover, Certify}
use Rattle.command_ends.specs.declared.ending.Ending.{Ending}
use Rattle.command_input.specs.declared.input.InputFail.{InputFail}
use Rattle.command_input.specs.declared.input.InputFail.TheVariants as input
use Rattle.party_commands.specs.declared.parties.PartyCall.{PartyCall}
use Rattle.party_commands.specs.declared.parties.PartyCall.TheVariants as parties
use Rattle.command_ends.specs.declared.status.Status.{Status}
use Rattle.command_ends.specs.declared.status.Status.TheVariants as ends

-- ---- its arguments

abbrev pub client_seat_with : Option ℕ → Option (List ℕ) → Option ℕ → Option ClientSeat
client_seat_with (Some number) (Some seed) (Some leaf) =
    Some (record { number = number; seed = seed; leaf = leaf })
client_seat_with _ _ _ = None

-- C SEED LEAF: a number from 1 to 16, 32 bytes, and the first leaf that may be used
abbrev pub client_seat_of : Token → Token → Token → Option ClientSeat
client_seat_of number seed leaf =
    client_seat_with (said (number_in 1 most_clients number)) (hex_of seed_size seed)
    (said (number_in 0 most_leaves leaf))

-- TRANSACTION SIGNATURE
abbrev pub formed_of : List Token → Option SignedValue
formed_of (transaction ∷ signature ∷ []) = signed_of transaction signature
formed_of _ = None

-- what a client is to do, by its command and the arguments behind its seat
abbrev pub task_of : (name : Token) → List Token → Option ClientTask
task_of name arguments =
    if bytes_eq name (codes "client") then option_map Transact (plan_of arguments)
    else if bytes_eq name (codes "form") then option_map Form (plan_of arguments)
    else if bytes_eq name (codes "recover") then option_map Recover (formed_of arguments)
    else if bytes_eq name (codes "certify") then option_map Certify (formed_of arguments)
    else None

abbrev pub client_call_with : Option ClientTask → Option ClientSeat → Option ClientCall
client_call_with (Some task) (Some seat) = Some (record { seat = seat; task = task })
client_call_with _ _ = None

-- C SEED LEAF, and what is to be done
abbrev pub client_call_of : (name : Token) → List Token → Option ClientCall
client_call_of name (number ∷ seed ∷ leaf ∷ arguments) =
    client_call_with (task_of name arguments) (client_seat_of number seed leaf)
client_call_of name _ = None

-- `client C SEED LEAF OP...`, `form C SEED LEAF OP...`, and `recover` and `certify C SEED LEAF TRANSACTION SIGNATURE`
abbrev pub client_of : List Token → Option ClientCall
client_of [] = None
client_of (name ∷ arguments) = client_call_of name arguments

-- arguments that call neither a node nor a client
pub record CallsNone (arguments : List Token) : Type 0 where
  pub no_node : node_of arguments ≡ None
  pub no_client : client_of arguments ≡ None

-- they call this party, or none
abbrev pub IsPartyCall : List Token → Option PartyCall → Type 0
IsPartyCall arguments None = CallsNone arguments
IsPartyCall arguments (Some (parties.Node call)) = node_of arguments ≡ Some call
IsPartyCall arguments (Some (parties.Client call)) = client_of arguments ≡ Some call

-- few connections, or a client's number
abbrev pub IsReady : Option PartyCall → Type 0
IsReady None = ⊤
IsReady (Some (parties.Node call)) = call.connections ≤ most_connections
IsReady (Some (parties.Client call)) = (1 ≤ call.seat.number) × (call.seat.number ≤ most_clients)

-- ---- its seat

-- the cluster's file, and the client that sits in it
pub record ClientStation : Type 0 where
  pub listing : Listing
  pub seated : SeatedClient

abbrev pub client_seated : Listing → Result SeatedClient SeatFault → Result ClientStation Outcome
client_seated l (Ok seated) = Ok (record { listing = l; seated = seated })
client_seated l (Err fault) = Err (BadLine 1 (seat_reason fault))

abbrev pub client_seated_in : Result Listing ℕ → ClientSeat → Result ClientStation Outcome
client_seated_in (Ok l) seat = client_seated l (client_in l seat)
client_seated_in (Err number) seat = Err (BadLine 1 (file_reason number))

-- where a client sits that has this file, or what its file and its seat lead to instead
abbrev pub client_station : ClientSeat → List ℕ → Result ClientStation Outcome
client_station seat bytes = if is_too_long bytes then Err TooLong else client_seated_in (cluster_in bytes) seat

-- ---- what it comes to

-- its time: the clock's moment, 1 at least
abbrev pub time_at : (moments : List ℕ) → ℕ
time_at moments = max (next_moment moments) 1

-- how a client goes on that has this to do; what it begins has this time
abbrev pub RunsTask : ClientSelf → Listing → (time : ℕ) → ClientTask → Going
RunsTask me l time (Transact plan) = RunsPlan me l aims.Decision time plan
RunsTask me l time (Form plan) = RunsPlan me l aims.Form time plan
RunsTask me l time (Recover x) = RunsRecovery me l x
RunsTask me l time (Certify x) = RunsRecovery me l x

-- what it tells then; its transaction is the first that it holds
abbrev pub told_of : ClientSelf → ClientTask → ClientValue → List ℕ
told_of me (Transact plan) v = report_of me 0 plan v
told_of me (Form plan) v = handed_over 0 v
told_of me (Recover x) v = report_of me 0 [] v
told_of me (Certify x) v = certified me 0 v

-- a run that ended so
abbrev pub outcome_of_run : ClientSelf → ClientTask → ClientValue → Option RunFault → Outcome
outcome_of_run me task v None = Written (told_of me task v)
outcome_of_run me task v (Some (runs.Undecided replies)) = Undecided replies
outcome_of_run me task v (Some (runs.Call fault)) = BadLine 1 RefusedCall
outcome_of_run me task v (Some runs.NoMemory) = BadLine 1 RefusedCall

-- how a run of code ended
abbrev pub end_of : Result ℕ RunFault → Option RunFault
end_of (Ok slot) = None
end_of (Err fault) = Some fault

-- what a seat that isn't given leads to, unless memory is wanting
abbrev pub SeatTold : SeatFault → Result Ending InputFail → Type 0
SeatTold seats.NoMemory result = result ≡ Err input.NoMemory
SeatTold fault result = IfOk result (λ e. outcome_is e ≡ BadLine 1 (seat_reason fault))

-- an ending of a run
pub data IsRunEnding (outcome : Outcome) : Type 0 where
  Reported : (text : List ℕ) → outcome ≡ Written text → IsRunEnding outcome
  Open : (replies : ℕ) → outcome ≡ Undecided replies → IsRunEnding outcome
  CallRefused : outcome ≡ BadLine 1 RefusedCall → IsRunEnding outcome

-- a client before its first call is the one that sits in this file
pub record SitsInFile {V S : Type 0} {v : verifiers.Ghosts V} {g : signers.Ghosts S} (client : Client V S v g)
    (file : Listing) (s : ClientStation) : Type 0 where
  pub me : own client ≡ s.seated.me
  pub shows : ShowsClient client s.seated.client
  pub listing_is : file ≡ s.listing
  pub first : length s.seated.client.slots ≡ 0

-- it made a run over links that told this, in which so many calls of the links failed as their count rose at least, and
-- came to that outcome
pub record RanTo (s : ClientStation) (task : ClientTask) (moments : List ℕ) (state : LinkState)
    (told : Option LinkState) (before now : ℕ) (outcome : Outcome) : Type 0 where
  pub end : Option RunFault
  pub new : Talk
  pub failed : ℕ
  pub ran : RunsTask s.seated.me s.listing (time_at moments) task (starting s.seated.client state) failed end new
  pub links : told ≡ Some new.links
  pub risen : RoseBy failed before now
  pub is : outcome ≡ outcome_of_run s.seated.me task new.client end

-- and told it
pub record ToldRun (s : ClientStation) (task : ClientTask) (moments : List ℕ) (state : LinkState)
    (told : Option LinkState) (counts : Counts) (status : Status) (taken_before taken_now : Option (List ℕ)) :
    Type 0 where
  pub outcome : Outcome
  pub ran : RanTo s task moments state told counts.links_before counts.links_now outcome
  pub answers : Answers status outcome counts taken_before taken_now

-- a client in its seat is done, undecided or refused a call, another has the status of what is refused; or memory is
-- wanting
abbrev pub IsClientTold : Status → Result ClientStation Outcome → Type 0
IsClientTold status (Ok s) =
    (status ≡ ends.Done) ⊎ ((replies : ℕ) × (status ≡ ends.Undecided replies))
    ⊎ (status ≡ ends.BadInput 1 RefusedCall) ⊎ (status ≡ ends.NoMemory)
IsClientTold status (Err refusal) = IsTold status refusal
