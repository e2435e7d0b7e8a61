-- Lists of calls and frames of one client.
use Rattle.std.specs.Prelude.{◌<◌, ◌++◌, ⊤, ℕ, List, [], ◌∷◌, Result, Ok, Err, filter, map}
use Rattle.basil_types.specs.declared.transaction.parts.WritePart.{WritePart}
use Rattle.basil_types.specs.Transaction.{TransactionValue}
use Rattle.basil_types.specs.Words.{SignedWords}
use Rattle.node_steps.specs.Pens.{PenValue}
use Rattle.client_core.specs.Answers.{on_frame}
use Rattle.client_core.specs.Calls.{call_begin, call_read, call_write, call_prepare, call_settle, call_recover}
use Rattle.client_core.specs.Calls.{call_invoke}
use Rattle.client_core.specs.Clients.{ClientSelf, ClientValue, ClientDone, SlotValue, empty_client, quiet}

-- what a client is asked, or handed; a write may delete
pub data Step : Type 0 where
  Begin : (time : ℕ) → Step
  Read : (slot : ℕ) (key : List ℕ) → Step
  Write : (slot : ℕ) (write : WritePart) → Step
  Prepare : (slot : ℕ) → Step
  Settle : (slot : ℕ) → Step
  Recover : (transaction : TransactionValue) (signature : List ℕ) → Step
  Invoke : (slot : ℕ) → Step
  Frame : (frame : List ℕ) → Step

-- an accepted call or frame leaves what its answer says, a refused one leaves all as it was
abbrev pub left_by : {E : Type 0} → ClientValue → Result ClientDone E → ClientDone
left_by client (Ok done) = done
left_by client (Err fault) = quiet client

abbrev pub step : ClientSelf → ClientValue → Step → ClientDone
step me client (Begin time) = left_by client (call_begin client time)
step me client (Read slot key) = left_by client (call_read me client slot key)
step me client (Write slot write) = left_by client (call_write client slot write)
step me client (Prepare slot) = left_by client (call_prepare me client slot)
step me client (Settle slot) = left_by client (call_settle me client slot)
step me client (Recover transaction signature) = left_by client (call_recover me client transaction signature)
step me client (Invoke slot) = left_by client (call_invoke me client slot)
step me client (Frame frame) = left_by client (on_frame me client frame)

-- the client after all of them
abbrev pub client_after : ClientSelf → ClientValue → List Step → ClientValue
client_after me client [] = client
client_after me client (s ∷ ss) = client_after me (step me client s).client ss

-- all words that are signed, in order
abbrev pub signed_in : ClientSelf → ClientValue → List Step → List SignedWords
signed_in me client [] = []
signed_in me client (s ∷ ss) = (step me client s).signed ++ signed_in me (step me client s).client ss

-- ---- times

-- each stands above the one before it
abbrev pub RiseAbove : ℕ → List ℕ → Type 0
RiseAbove floor [] = ⊤
RiseAbove floor (n ∷ ns) = (floor < n) × RiseAbove n ns

-- the times of the transactions that were begun, in order
abbrev pub begun_times : List SlotValue → List ℕ
begun_times slots = map (λ (s : SlotValue). s.time) (filter (λ (s : SlotValue). s.begun) slots)

abbrev pub TimesRise : Type 0
TimesRise =
    (me : ClientSelf) (pen : PenValue) (steps : List Step) →
    RiseAbove 0 (begun_times (client_after me (empty_client pen) steps).slots)
