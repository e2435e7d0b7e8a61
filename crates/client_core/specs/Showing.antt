-- Which values a client shows.
use Rattle.std.specs.Prelude.{◌≡◌, ◌≢◌, Bool, true, false, Result, Ok, Err, List, [], ◌∷◌, ⊤, Option, Some, None, map}
use Rattle.client_core.specs.declared.asking.Asking.{Asking}
use Rattle.client_core.specs.declared.held.Formed.{Formed}
use Rattle.client_core.specs.declared.held.Held.{Held}
use Rattle.client_core.specs.declared.held.Slot.{Slot}
use Rattle.client_steps.specs.declared.fault.CallFault.{CallFault}
use Rattle.client_steps.specs.declared.fault.CallFault.TheVariants.{NoMemory}
use Rattle.client_core.specs.Clients.{AskedRead, SlotValue, ClientValue}
use Rattle.client_core.specs.Kept.{kept_read, shown_read}
use Rattle.client_recover.specs.declared.pursuit.Pursuit.{Pursuit}
use Rattle.client_recover.specs.Standing.{StandsFor, GoesBackTo}
use Rattle.client_recover.specs.Taken.{PursuitValue}

-- the replies to these reads were kept
abbrev pub KeepsReads : List Asking → List AskedRead → Type 0
KeepsReads asked reads = map shown_read asked ≡ map kept_read reads

-- while a frame is held back the pursuit stands for the list with it, and goes back to the list without it
abbrev pub StandsNow : (held_back : Bool) → Pursuit → PursuitValue → Type 0
StandsNow true u p = GoesBackTo u p
StandsNow false u p = StandsFor u p

-- the frames were taken one after the other, all but one that is held back
pub record ShowsPursuit (f : Formed) (p : PursuitValue) : Type 0 where
  pub stands : StandsNow f.held_back f.pursuit p
  pub second : f.second ≡ p.second

abbrev pub ShowsFormed : Option Formed → Option PursuitValue → Type 0
ShowsFormed None None = ⊤
ShowsFormed None (Some p) = ⊥
ShowsFormed (Some f) None = ⊥
ShowsFormed (Some f) (Some p) = ShowsPursuit f p

-- what the slot tells, with these reads and this pursuit
abbrev pub slot_value : Slot → List AskedRead → Option PursuitValue → SlotValue
slot_value slot reads pursuit =
    record { begun = slot.begun; time = slot.time; reads = reads; writes = slot.writes.items; pursuit = pursuit }

pub record ShowsSlot (slot : Slot) (s : SlotValue) : Type 0 where
  pub value : s ≡ slot_value slot s.reads s.pursuit
  pub reads : KeepsReads slot.reads.items s.reads
  pub formed : ShowsFormed slot.formed s.pursuit

abbrev pub ShowsSlots : List Slot → List SlotValue → Type 0
ShowsSlots [] [] = ⊤
ShowsSlots [] (s ∷ ss) = ⊥
ShowsSlots (slot ∷ slots) [] = ⊥
ShowsSlots (slot ∷ slots) (s ∷ ss) = ShowsSlot slot s × ShowsSlots slots ss

pub record ShowsHeld (held : Held) (v : ClientValue) : Type 0 where
  pub last : held.last ≡ v.last
  pub slots : ShowsSlots held.slots.items v.slots

-- nothing changed but room
abbrev pub SameHeld : Held → Held → Type 0
SameHeld old new =
    (new.last ≡ old.last) × (new.slots.items ≡ old.slots.items) × (new.cluster ≡ old.cluster)

-- Ok exactly where the answer is, or the first refusal, or memory is wanting
abbrev pub Answers : {A B : Type 0} → Result A CallFault → Result B CallFault → B → Type 0
Answers (Ok x) answer done = answer ≡ Ok done
Answers (Err e) answer done = e ≢ NoMemory → answer ≡ Err e
