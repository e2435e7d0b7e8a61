-- A client with its links and the messages of its run, and the talk that these show.
use Rattle.std.specs.Prelude.{◌≡◌, ◌≢◌, ℕ, ◌+◌, ◌-◌, ◌≤◌, Bool, true, false, List, [], ◌∷◌, ◌++◌, length, drop}
use Rattle.std.specs.Prelude.{Option, Some, None, Result, Ok, Err, ⊤}
use Rattle.basil_types.specs.declared.outbox.Envelope.{Envelope}
use Rattle.basil_types.specs.Links.{LinkState}
use Rattle.basil_types.specs.Setting.{Setting}
use Rattle.client_core.specs.Shown.{ShowsClient, own}
use Rattle.client_steps.specs.declared.fault.CallFault.{CallFault}
use Rattle.client_steps.specs.declared.fault.CallFault.TheVariants as calls
use Rattle.client_core.specs.Clients.{ClientDone, ClientSelf, ClientValue}
use Rattle.client_core.specs.declared.client.Client.{Client}
use Rattle.cluster_file.specs.Listing.{Listing, address_in}
use Rattle.keyring.specs.declared.verifier.Verifier as verifiers
use Rattle.keyring.specs.declared.signer.Signer as signers
use Rattle.node_link.specs.Asking.{Fate, RoseBy, failures_of}
use Rattle.client_link.specs.declared.aim.Aim.{Aim}
use Rattle.client_link.specs.declared.errands.Errands.{Errands}
use Rattle.client_link.specs.declared.fault.RunFault.{RunFault}
use Rattle.client_link.specs.declared.fault.RunFault.TheVariants.{Undecided, Call, NoMemory}
use Rattle.client_link.specs.Running.{Going, Runs, Turn, sends}
use Rattle.client_laws.specs.Saying.{said}
use Rattle.client_link.specs.Talking.{AsksAll, Talk, asking, asks, asks_next, failures, given_at, links_after}

-- the client shows what it holds, the links tell theirs, and behind the messages that were asked stand those that wait
pub record IsTalk {V S : Type 0} {v : verifiers.Ghosts V} {g : signers.Ghosts S} (client : Client V S v g)
    (told : Option LinkState) (e : Errands) (t : Talk) : Type 0 where
  pub client_is : ShowsClient client t.client
  pub links : told ≡ Some t.links
  pub within : e.asked ≤ length e.out.messages.items
  pub queue : t.queue ≡ drop e.asked e.out.messages.items
  pub left : e.left ≡ t.left

-- ---- what the client says of itself

-- it takes back nothing, and said more where it sent anything
pub record Speaks (c : Setting) (old new : ClientValue) (sent : Bool) : Type 0 where
  pub slots : length new.slots ≡ length old.slots
  pub later : said c old.slots ≤ said c new.slots
  pub more : sent ≡ true → said c old.slots + 1 ≤ said c new.slots

-- every message more is an envelope less that is carried
pub record SameWork (old new : Errands) : Type 0 where
  pub sum : length new.out.messages.items + new.left ≡ length old.out.messages.items + old.left
  pub grows : length old.out.messages.items ≤ length new.out.messages.items
  pub asked : new.asked ≡ old.asked

-- what is left to do: the messages that wait, and the envelopes that may still join them
abbrev pub work_left : Errands → ℕ
work_left e = (length e.out.messages.items - e.asked) + e.left

-- ---- what was taken and asked

-- the envelope joined the messages, unless no more may
pub data Carries (old new : Errands) (e : Envelope) : Type 0 where
  Full : old.left ≡ 0 → new ≡ old → Carries old new e
  Joins : new.out.messages.items ≡ old.out.messages.items ++ e ∷ [] → new.left + 1 ≡ old.left →
      new.asked ≡ old.asked → Carries old new e

-- it came to this
pub record HasTaken {V S : Type 0} {v : verifiers.Ghosts V} {g : signers.Ghosts S} (client : Client V S v g)
    (told : Option LinkState) (e : Errands) (old new : Talk) (sent : Bool) : Type 0 where
  pub at : IsTalk client told e new
  pub speaks : Speaks client.seat.cluster old.client new.client sent

-- a message was asked, or has no receiver with an address
pub record IsAskedAt (l : Listing) (number : ℕ) (e : Envelope) (s : LinkState) (told : Option LinkState)
    (before now : ℕ) (taken : List Envelope) : Type 0 where
  pub fate : Fate
  pub links : told ≡ Some (links_after fate (address_in l e.to) (asking number e) s)
  pub given : taken ≡ given_at fate (address_in l e.to) l.cluster s
  pub failed : RoseBy (failures_of fate) before now

-- the first message that waits was asked
pub record HasAskedOne {V S : Type 0} {v : verifiers.Ghosts V} {g : signers.Ghosts S} (client : Client V S v g)
    (l : Listing) (told : Option LinkState) (e : Errands) (old : Talk) (sent : Bool) (before now : ℕ) : Type 0 where
  pub fate : Fate
  pub taken : HasTaken client told e old (asks_next (own client) l old fate) sent
  pub failed : RoseBy (failures_of fate) before now

-- some were: all, where the client sent nothing
pub record HasAskedSome {V S : Type 0} {v : verifiers.Ghosts V} {g : signers.Ghosts S} (client : Client V S v g)
    (l : Listing) (told : Option LinkState) (e : Errands) (old : Talk) (sent : Bool) (before now : ℕ) : Type 0 where
  pub fates : List Fate
  pub taken : HasTaken client told e old (asks (own client) l old fates) sent
  pub still : sent ≡ false → (asks (own client) l old fates).queue ≡ []
  pub failed : RoseBy (failures fates) before now

-- all were
pub record HasAskedAll {V S : Type 0} {v : verifiers.Ghosts V} {g : signers.Ghosts S} (client : Client V S v g)
    (l : Listing) (told : Option LinkState) (e : Errands) (old : Talk) (before now : ℕ) : Type 0 where
  pub new : Talk
  pub at : IsTalk client told e new
  pub failed : ℕ
  pub asks : AsksAll (own client) l old new failed
  pub risen : RoseBy failed before now

-- ---- calls

-- want of memory is told as such
abbrev pub fault_told : CallFault → RunFault
fault_told calls.NoMemory = NoMemory
fault_told fault = Call fault

-- a call was answered so
abbrev pub HasCalled : {V S : Type 0} {v : verifiers.Ghosts V} {g : signers.Ghosts S} → Client V S v g →
    (told : Option LinkState) → (e : Errands) → (old : Talk) → (answer : Result ClientDone CallFault) →
    (called : Result (Unit {0}) CallFault) → Type 0
HasCalled client told e old answer (Ok x) = (d : ClientDone) × (answer ≡ Ok d) × IsTalk client told e (sends old d)
HasCalled client told e old answer (Err fault) =
    fault ≢ calls.NoMemory → (answer ≡ Err fault) × IsTalk client told e old

-- what it sent was asked, with all that came of it
pub record HasCome {V S : Type 0} {v : verifiers.Ghosts V} {g : signers.Ghosts S} (client : Client V S v g)
    (l : Listing) (told : Option LinkState) (e : Errands) (old : Talk) (answer : Result ClientDone CallFault)
    (before now : ℕ) : Type 0 where
  pub done : ClientDone
  pub is : answer ≡ Ok done
  pub asked : HasAskedAll client l told e (sends old done) before now

-- or it was refused
abbrev pub ComesTo : {V S : Type 0} {v : verifiers.Ghosts V} {g : signers.Ghosts S} → Client V S v g → Listing →
    (told : Option LinkState) → (e : Errands) → (old : Talk) → (answer : Result ClientDone CallFault) →
    (before now : ℕ) → Result (Unit {0}) RunFault → Type 0
ComesTo client l told e old answer before now (Ok x) = HasCome client l told e old answer before now
ComesTo client l told e old answer before now (Err (Call fault)) = (answer ≡ Err fault) × IsTalk client told e old
ComesTo client l told e old answer before now (Err (Undecided replies)) = ⊥
ComesTo client l told e old answer before now (Err NoMemory) = ⊤

-- ---- turns

-- a run that goes on from there began here, with these turns and so many failed calls of the links
abbrev pub GoesTo : ClientSelf → Listing → (slot : ℕ) → List Turn → (old mid : Talk) → (failed : ℕ) → Type 0
GoesTo me l slot turns old mid failed =
    (aim : Aim) (more : List Turn) (rest : ℕ) (end : Option RunFault) (new : Talk) →
    Runs me l slot aim more mid rest end new → Runs me l slot aim (turns ++ more) old (failed + rest) end new

-- a run that begins with these turns ends there
abbrev pub EndsIn : ClientSelf → Listing → (slot : ℕ) → List Turn → (old new : Talk) → (failed : ℕ) → RunFault → Type 0
EndsIn me l slot turns old new failed fault =
    (aim : Aim) (more : List Turn) → Runs me l slot aim (turns ++ more) old failed (Some fault) new

pub record HasGone {V S : Type 0} {v : verifiers.Ghosts V} {g : signers.Ghosts S} (client : Client V S v g)
    (l : Listing) (slot : ℕ) (turns : List Turn) (told : Option LinkState) (e : Errands) (old : Talk)
    (before now : ℕ) : Type 0 where
  pub mid : Talk
  pub failed : ℕ
  pub at : IsTalk client told e mid
  pub goes : GoesTo (own client) l slot turns old mid failed
  pub risen : RoseBy failed before now

pub record HasEnded {V S : Type 0} {v : verifiers.Ghosts V} {g : signers.Ghosts S} (client : Client V S v g)
    (l : Listing) (slot : ℕ) (turns : List Turn) (told : Option LinkState) (old : Talk) (before now : ℕ)
    (fault : RunFault) : Type 0 where
  pub new : Talk
  pub failed : ℕ
  pub client_is : ShowsClient client new.client
  pub links : told ≡ Some new.links
  pub ends : EndsIn (own client) l slot turns old new failed fault
  pub risen : RoseBy failed before now

-- these turns were made, or the run ended in them
abbrev pub HasTurned : {V S : Type 0} {v : verifiers.Ghosts V} {g : signers.Ghosts S} → Client V S v g → Listing →
    (slot : ℕ) → List Turn → (told : Option LinkState) → (e : Errands) → (old : Talk) → (before now : ℕ) →
    Result (Unit {0}) RunFault → Type 0
HasTurned client l slot turns told e old before now (Ok x) = HasGone client l slot turns told e old before now
HasTurned client l slot turns told e old before now (Err (Undecided replies)) =
    HasEnded client l slot turns told old before now (Undecided replies)
HasTurned client l slot turns told e old before now (Err (Call fault)) =
    HasEnded client l slot turns told old before now (Call fault)
HasTurned client l slot turns told e old before now (Err NoMemory) = ⊤

-- whatever slot was answered
abbrev pub slot_given : Result ℕ RunFault → Result (Unit {0}) RunFault
slot_given (Ok slot) = Ok tt
slot_given (Err fault) = Err fault

-- ---- a run

-- where it isn't want of memory: none at Ok, or the fault
abbrev pub OnEnd : {T : Type 0} → Result T RunFault → (Option RunFault → Type 0) → Type 0
OnEnd (Ok done) P = P None
OnEnd (Err (Undecided replies)) P = P (Some (Undecided replies))
OnEnd (Err (Call fault)) P = P (Some (Call fault))
OnEnd (Err NoMemory) P = ⊤

-- it went so from a talk, and so many calls of the links failed in it
pub record HasRun {V S : Type 0} {v : verifiers.Ghosts V} {g : signers.Ghosts S} (client : Client V S v g)
    (told : Option LinkState) (runs : Going) (old : Talk) (before now : ℕ) (end : Option RunFault) : Type 0 where
  pub new : Talk
  pub client_is : ShowsClient client new.client
  pub links : told ≡ Some new.links
  pub failed : ℕ
  pub runs_so : runs old failed end new
  pub risen : RoseBy failed before now
