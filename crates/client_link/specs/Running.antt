-- A transaction that a client carries through over its links: its reads and writes, stages 1 and 2 (Basil, sections 4
-- and 5), and at most two rounds of recovery; or it only forms it, or finishes one that was formed.
use Rattle.std.specs.Prelude.{◌≡◌, ℕ, ◌+◌, List, [], ◌∷◌, ◌++◌, length, Bool, true, false, Option, Some, None, is_some}
use Rattle.std.specs.Prelude.{Result, Ok, Err, option_and_then, slice_get, if◌then◌else◌}
use Rattle.std.specs.Option.{option_map_or}
use Rattle.basil_types.specs.Links.{LinkState}
use Rattle.client_steps.specs.declared.fault.CallFault.{CallFault}
use Rattle.client_steps.specs.declared.fault.CallFault.TheVariants as calls
use Rattle.client_core.specs.Calls.{call_begin, call_invoke, call_prepare, call_read, call_recover, call_settle}
use Rattle.client_core.specs.Calls.{call_write, recovered_at}
use Rattle.client_core.specs.Clients.{ClientDone, ClientSelf, ClientValue, SlotValue, quiet}
use Rattle.client_core.specs.Slots.{ReadStateValue, NotRead, Pending, formed_in, held_in, outcome_in, value}
use Rattle.client_recover.specs.Taken.{DecidedValue}
use Rattle.cluster_file.specs.Listing.{Listing}
use Rattle.frame_views.specs.Values.{SignedValue}
use Rattle.client_link.specs.declared.aim.Aim.{Aim}
use Rattle.client_link.specs.declared.aim.Aim.TheVariants.{Decision, Form}
use Rattle.client_link.specs.declared.op.Op.{Op}
use Rattle.client_link.specs.declared.op.Op.TheVariants.{Read, Write}
use Rattle.client_link.specs.declared.fault.RunFault.{RunFault}
use Rattle.client_link.specs.declared.fault.RunFault.TheVariants.{Undecided, Call}
use Rattle.client_link.specs.Talking.{AsksAll, Talk, answered}

-- ---- what the slot tells

abbrev pub outcome_at : ClientSelf → (slot : ℕ) → ClientValue → Option DecidedValue
outcome_at me slot v = option_and_then (outcome_in me.cluster) (slice_get v.slots slot)

abbrev pub formed_at : (slot : ℕ) → ClientValue → Option SignedValue
formed_at slot v = option_and_then formed_in (slice_get v.slots slot)

abbrev pub held_at : (slot : ℕ) → ClientValue → ℕ
held_at slot v = option_map_or held_in (slice_get v.slots slot) 0

abbrev pub value_at : ClientSelf → (slot : ℕ) → (key : List ℕ) → ClientValue → ReadStateValue
value_at me slot key v = option_map_or (λ (s : SlotValue). value me.cluster s key) (slice_get v.slots slot) NotRead

-- a read without a choice
abbrev pub is_pending : ReadStateValue → Bool
is_pending Pending = true
is_pending _ = false

-- ---- its calls

-- a call, and whether what was answered to it doesn't let the transaction go on
pub record Turn : Type 0 where
  pub call : ClientValue → Result ClientDone CallFault
  pub stops : ClientValue → Bool

abbrev pub never : ClientValue → Bool
never v = false

-- a read stops it that has no choice after its asks
abbrev pub turn_of : ClientSelf → (slot : ℕ) → Op → Turn
turn_of me slot (Read key) =
    record { call = λ v. call_read me v slot key; stops = λ v. is_pending (value_at me slot key v) }
turn_of me slot (Write key bytes) =
    record { call = λ v. call_write v slot (record { key = key; value = bytes; deletes = false }); stops = never }

abbrev pub turns_of : ClientSelf → (slot : ℕ) → List Op → List Turn
turns_of me slot [] = []
turns_of me slot (op ∷ ops) = turn_of me slot op ∷ turns_of me slot ops

abbrev pub prepares : ClientSelf → (slot : ℕ) → Turn
prepares me slot = record { call = λ v. call_prepare me v slot; stops = never }

abbrev pub settles : ClientSelf → (slot : ℕ) → Turn
settles me slot = record { call = λ v. call_settle me v slot; stops = never }

abbrev pub recovery : ClientSelf → ClientValue → Option SignedValue → Result ClientDone CallFault
recovery me v None = Ok (quiet v)
recovery me v (Some x) = call_recover me v x.transaction x.signature

-- only while no outcome is held
abbrev pub recovers : ClientSelf → (slot : ℕ) → Turn
recovers me slot = record {
  call = λ v. if is_some (outcome_at me slot v) then Ok (quiet v) else recovery me v (formed_at slot v);
  stops = never;
}

-- only where a log reply is held
abbrev pub if_logged : ClientValue → Result ClientDone CallFault → Result ClientDone CallFault
if_logged v (Err calls.NothingLogged) = Ok (quiet v)
if_logged v answer = answer

abbrev pub invokes : ClientSelf → (slot : ℕ) → Turn
invokes me slot = record { call = λ v. if_logged v (call_invoke me v slot); stops = never }

-- a fallback round; once an outcome is held it does nothing
abbrev pub round : ClientSelf → (slot : ℕ) → List Turn
round me slot = recovers me slot ∷ settles me slot ∷ invokes me slot ∷ []

-- behind the reads and writes, unless the transaction is only to be formed
abbrev pub closing : ClientSelf → (slot : ℕ) → Aim → List Turn
closing me slot Decision = prepares me slot ∷ settles me slot ∷ round me slot ++ round me slot
closing me slot Form = []

-- a transaction that was formed is taken up, with its client's signature
abbrev pub takes_up : ClientSelf → SignedValue → Turn
takes_up me x = record { call = λ v. call_recover me v x.transaction x.signature; stops = never }

-- behind that: the rest of its fallback round, and one more
abbrev pub finishing : ClientSelf → (slot : ℕ) → List Turn
finishing me slot = settles me slot ∷ invokes me slot ∷ round me slot

-- ---- a run

-- after a call its messages wait
abbrev pub sends : Talk → ClientDone → Talk
sends t d = answered t (Ok d)

-- no fault where an outcome is held
abbrev pub ending : ClientSelf → (slot : ℕ) → ClientValue → Option RunFault
ending me slot v = if is_some (outcome_at me slot v) then None else Some (Undecided (held_at slot v))

-- it ends here, and no call of the links fails any more
pub record Stops (end is : Option RunFault) (old new : Talk) (failed : ℕ) : Type 0 where
  pub ended : end ≡ is
  pub same : new ≡ old
  pub none : failed ≡ 0

-- how it goes on from a talk: how many calls of the links fail, how it ends, and what it leaves
abbrev pub Going : Type 1
Going = (old : Talk) → (failed : ℕ) → (end : Option RunFault) → (new : Talk) → Type 0

-- the talk stops it, or it goes on
abbrev pub StopsOr : (slot : ℕ) → (stops : Bool) → Going → Going
StopsOr slot true later old failed end new = Stops end (Some (Undecided (held_at slot old.client))) old new failed
StopsOr slot false later old failed end new = later old failed end new

-- all that waits behind a call is asked first
pub record AsksThen (me : ClientSelf) (l : Listing) (later : Going) (old : Talk) (failed : ℕ) (end : Option RunFault)
    (new : Talk) : Type 0 where
  pub mid : Talk
  pub now : ℕ
  pub rest : ℕ
  pub asks : AsksAll me l old mid now
  pub onward : later mid rest end new
  pub sum : failed ≡ now + rest

-- a call is refused, or its messages are asked
abbrev pub Calling : ClientSelf → Listing → (slot : ℕ) → Turn → Result ClientDone CallFault → Going → Going
Calling me l slot turn (Err fault) later old failed end new = Stops end (Some (Call fault)) old new failed
Calling me l slot turn (Ok d) later old failed end new =
    AsksThen me l (λ mid. StopsOr slot (turn.stops mid.client) later mid) (sends old d) failed end new

-- the transaction is formed, and its messages wait for nobody
abbrev pub FormsBy : Result ClientDone CallFault → Going
FormsBy (Err fault) old failed end new = Stops end (Some (Call fault)) old new failed
FormsBy (Ok d) old failed end new = Stops end None (sends old d) new failed

-- where no call is left
abbrev pub Ends : ClientSelf → (slot : ℕ) → Aim → Going
Ends me slot Decision old failed end new = Stops end (ending me slot old.client) old new failed
Ends me slot Form old failed end new = FormsBy (call_prepare me old.client slot) old failed end new

-- one call after another, until one is refused or stops it
abbrev pub Runs : ClientSelf → Listing → (slot : ℕ) → Aim → List Turn → Going
Runs me l slot aim [] old failed end new = Ends me slot aim old failed end new
Runs me l slot aim (turn ∷ turns) old failed end new =
    Calling me l slot turn (turn.call old.client) (Runs me l slot aim turns) old failed end new

-- ---- the whole of it

-- how many envelopes for replicas are carried, at most
abbrev pub most_carried : ℕ
most_carried = 4096

abbrev pub starting : ClientValue → LinkState → Talk
starting v s = record { client = v; links = s; queue = []; left = most_carried }

abbrev pub RunsBegun : ClientSelf → Listing → Aim → List Op → (slot : ℕ) → Result ClientDone CallFault → Going
RunsBegun me l aim plan slot (Err fault) old failed end new = Stops end (Some (Call fault)) old new failed
RunsBegun me l aim plan slot (Ok d) old failed end new =
    Runs me l slot aim (turns_of me slot plan ++ closing me slot aim) (sends old d) failed end new

-- a transaction of this time is begun in the next slot, and carried through or formed
abbrev pub RunsPlan : ClientSelf → Listing → Aim → (time : ℕ) → List Op → Going
RunsPlan me l aim time plan old failed end new =
    RunsBegun me l aim plan (length old.client.slots) (call_begin old.client time) old failed end new

-- a transaction that was formed is carried through, in the slot that it has or the next one
abbrev pub RunsRecovery : ClientSelf → Listing → SignedValue → Going
RunsRecovery me l x old failed end new =
    let slot = recovered_at old.client x.transaction in
    Runs me l slot Decision (takes_up me x ∷ finishing me slot) old failed end new
