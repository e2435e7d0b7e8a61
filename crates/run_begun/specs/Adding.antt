-- What a faulty client adds to a transaction that it began, and whether it can form it.
use Rattle.std.specs.Prelude.{◌≡◌, ℕ, List, Bool, false, ◌&&◌, ◌==◌, nat_lt, length, Option}
use Rattle.std.specs.Prelude.{Some, None, option_map, is_some, Result, Ok, Err, if◌then◌else◌}
use Rattle.basil_types.specs.Limits.{most_keys}
use Rattle.basil_types.specs.Built.{key_fits, or_else, write_fits}
use Rattle.basil_types.specs.declared.party.Party.TheVariants.{Client}
use Rattle.basil_types.specs.declared.transaction.parts.ReadPart.{ReadPart}
use Rattle.basil_types.specs.declared.transaction.parts.WritePart.{WritePart}
use Rattle.basil_types.specs.declared.version.Version.{Version}
use Rattle.client_steps.specs.declared.fault.CallFault.{CallFault}
use Rattle.client_steps.specs.declared.fault.CallFault.TheVariants.{NotOpen, TooMany, SizeOut, Empty}
use Rattle.client_core.specs.Slots.{put_write}
use Rattle.cluster_run.specs.declared.fault.WorldFault.{WorldFault}
use Rattle.cluster_run.specs.declared.fault.WorldFault.TheVariants as fault
use Rattle.cluster_run.specs.Events.{claims_at, prepare_fault, put_claim, set_begun, writes_at}
use Rattle.cluster_run.specs.Faulty.{has_left}
use Rattle.cluster_run.specs.States.{BegunValue, Setup, State}

-- ---- what is added

-- until the transaction is formed, what fits
abbrev pub added : BegunValue → (fits : Bool) → (after : BegunValue) → Result BegunValue CallFault
added b fits after = if is_some b.formed then Err NotOpen else if fits then Ok after else Err SizeOut

abbrev pub written : WritePart → BegunValue → Result BegunValue CallFault
written w b = added b (write_fits w) (record b { writes = put_write w b.writes })

-- a read of the key at this version
abbrev pub claim_of : List ℕ → Version → ReadPart
claim_of key v = record { key = key; version = v; dependency = false }

abbrev pub claimed : List ℕ → Version → BegunValue → Result BegunValue CallFault
claimed key v b = added b (key_fits key) (record b { reads = put_claim (claim_of key v) b.reads })

-- ---- what can't be formed, whoever signs it

abbrev pub forming_fault : BegunValue → Option CallFault
forming_fault b =
    if is_some b.formed then Some NotOpen
    else if nat_lt most_keys (length b.reads) then Some TooMany
    else if nat_lt most_keys (length b.writes) then Some TooMany
    else if (length b.reads == 0) && (length b.writes == 0) then Some Empty
    else None

-- ---- the same in a run

-- the begun transaction is this from now on, or the event is refused
abbrev pub after_adding : ℕ → State → Result BegunValue CallFault → Result State WorldFault
after_adding tx st (Ok after) = Ok (set_begun tx after st)
after_adding tx st (Err f) = Err (fault.Call f)

abbrev pub WritesAreAdded : Type 0
WritesAreAdded =
    (s : Setup) (tx : ℕ) (w : WritePart) (b : BegunValue) (st : State) → b.slot ≡ None →
    writes_at s tx w b st ≡ after_adding tx st (written w b)

abbrev pub ClaimsAreAdded : Type 0
ClaimsAreAdded =
    (tx : ℕ) (key : List ℕ) (v : Version) (b : BegunValue) (st : State) →
    claims_at tx key (Some v) b st ≡ after_adding tx st (claimed key v b)

-- a signature is wanting
abbrev pub exhausted : Setup → BegunValue → State → Option WorldFault
exhausted s b st = if has_left s st (Client b.client) then None else Some (fault.Exhausted (Client b.client))

abbrev pub FormingIsRefused : Type 0
FormingIsRefused =
    (s : Setup) (b : BegunValue) (st : State) →
    prepare_fault s b st ≡ or_else (option_map fault.Call (forming_fault b)) (exhausted s b st)
