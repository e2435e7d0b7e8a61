-- When a breach that ends a run is real.
use Rattle.std.specs.Prelude.{◌≡◌, ◌⊎◌, ℕ, List, [], ◌∷◌, ◌++◌, not, ◌||◌, false, true, Option, Some, None}
use Rattle.std.specs.Prelude.{option_and_then, Result, Ok, Err, Contains, map, slice_get, if◌then◌else◌}
use Rattle.std.specs.Option.{option_map_or}
use Rattle.basil_types.specs.Id.{id_of}
use Rattle.basil_types.specs.declared.party.Party.{Party}
use Rattle.basil_types.specs.declared.party.Party.TheVariants.{Replica, Client}
use Rattle.basil_types.specs.Transaction.{id}
use Rattle.basil_types.specs.Words.{SignedWords, words_of}
use Rattle.client_core.specs.Answers.{on_frame}
use Rattle.client_core.specs.Calls.{call_begin, call_read, call_write, call_prepare}
use Rattle.client_core.specs.Calls.{call_settle, call_recover, call_invoke}
use Rattle.client_core.specs.Clients.{ClientValue, ClientDone}
use Rattle.client_core.specs.Slots.{slot_of_id}
use Rattle.frame_views.specs.Values.{MessageValue}
use Rattle.premise_watch.specs.declared.broken.Broken.{Broken}
use Rattle.premise_watch.specs.declared.broken.Broken.TheVariants.{Forged, Collision}
use Rattle.premise_watch.specs.Breaches.{NotedWords, WatchValue, first_breach}
use Rattle.premise_watch.specs.Marks.{marks}
use Rattle.replica_core.specs.declared.refusal.Refusal.{Refusal}
use Rattle.replica_core.specs.Answers.{answer}
use Rattle.replica_core.specs.Replicas.{Done}
use Rattle.cluster_run.specs.declared.fault.WorldFault.{WorldFault}
use Rattle.cluster_run.specs.declared.fault.WorldFault.TheVariants as fault
use Rattle.cluster_run.specs.Events as event
use Rattle.cluster_run.specs.Events.{EventValue, held_call, happens, kept, run}
use Rattle.cluster_run.specs.Headline.{IsSafe}
use Rattle.cluster_run.specs.Parts.{are_bytes, read_frame, replica_self, client_self}
use Rattle.cluster_run.specs.Safety.{AreEvents, AreSigned}
use Rattle.cluster_run.specs.States.{posted_at, Setup, IsSetup, is_faulty, Posted, BegunValue}
use Rattle.cluster_run.specs.States.{FormedValue, Standing, standing, client_at, State, start}

-- ---- a breach, against what had been signed

pub record IsForgery (s : Setup) (signed : List NotedWords) (p : Party) (words signature : List ℕ) : Type 0 where
  pub correct : is_faulty s p ≡ false
  pub accepted : s.kit.accepts p words signature ≡ true
  pub unsigned : (n : NotedWords) → Contains signed n → n.party ≡ p → words_of n.words ≡ words → ⊥

-- two texts with one SHA-256
pub record IsCollision (first second : List ℕ) : Type 0 where
  pub differ : first ≡ second → ⊥
  pub one_id : id_of first ≡ id_of second

abbrev pub IsReal : Setup → List NotedWords → Broken → Type 0
IsReal s signed (Forged p words signature) = IsForgery s signed p words signature
IsReal s signed (Collision first second) = IsCollision first second

-- ---- what is signed in an event: by replicas and by the clients that the run keeps

abbrev pub by_party : Party → List SignedWords → List NotedWords
by_party p words = map (λ x. record { party = p; words = x }) words

abbrev pub replica_words : Standing → Result Done Refusal → List NotedWords
replica_words x (Ok d) = by_party (Replica x.shard x.index) d.signed
replica_words x (Err e) = []

abbrev pub call_words : {E : Type 0} → (client : ℕ) → Result ClientDone E → List NotedWords
call_words client (Ok d) = by_party (Client client) d.signed
call_words client (Err e) = []

abbrev pub client_words : {E : Type 0} → (client : ℕ) → (ClientValue → Result ClientDone E) → State → List NotedWords
client_words client call st = option_map_or (λ c. call_words client (call c)) (client_at st client) []

abbrev pub node_words : Setup → (from to : Party) → List ℕ → State → List NotedWords
node_words s from (Replica shard index) frame st =
    option_map_or (λ x. replica_words x (answer (replica_self s x.shard x.index) x.moment from x.book frame))
    (standing st shard index) []
node_words s from (Client client) frame st = client_words client (λ c. on_frame (client_self s client) c frame) st

abbrev pub handled_words : Setup → (from to : Party) → List ℕ → State → List NotedWords
handled_words s from to frame st = if is_faulty s to || not (are_bytes frame) then [] else node_words s from to frame st

abbrev pub tx_words : ℕ → (BegunValue → List NotedWords) → State → List NotedWords
tx_words tx words st = option_map_or words (slice_get st.begun tx) []

-- of the slot that a correct client began
abbrev pub slot_words : BegunValue → (ℕ → List NotedWords) → List NotedWords
slot_words b words = option_map_or words b.slot []

abbrev pub formed_words : ℕ → (FormedValue → List NotedWords) → State → List NotedWords
formed_words tx words st =
    option_map_or words (option_and_then (λ (b : BegunValue). b.formed) (slice_get st.begun tx)) []

abbrev pub message_words : ℕ → (Posted → List NotedWords) → State → List NotedWords
message_words message words st = option_map_or words (posted_at st message) []

abbrev pub signed_in : Setup → EventValue → State → List NotedWords
signed_in s (event.Begin client time) st =
    if is_faulty s (Client client) then [] else client_words client (λ c. call_begin c time) st
signed_in s (event.Read tx key) st =
    tx_words tx (λ b. slot_words b (λ slot. client_words b.client
    (λ c. call_read (client_self s b.client) c slot key) st)) st
signed_in s (event.Write tx w) st =
    tx_words tx (λ b. slot_words b (λ slot. client_words b.client (λ c. call_write c slot w) st)) st
signed_in s (event.Prepare tx) st =
    tx_words tx (λ b. slot_words b (λ slot. client_words b.client
    (λ c. call_prepare (client_self s b.client) c slot) st)) st
signed_in s (event.Settle tx client) st =
    formed_words tx (λ f. client_words client
    (λ c. held_call (slot_of_id c (id f.transaction)) (call_settle (client_self s client) c)) st) st
signed_in s (event.Recover tx client) st =
    formed_words tx (λ f. client_words client (λ c. call_recover (client_self s client) c f.transaction f.signature) st)
    st
signed_in s (event.Invoke tx client) st =
    formed_words tx (λ f. client_words client
    (λ c. held_call (slot_of_id c (id f.transaction)) (call_invoke (client_self s client) c)) st) st
signed_in s (event.Deliver message given) st = message_words message (λ p. handled_words s p.from p.to given st) st
signed_in s (event.Divert message to given) st = message_words message (λ p. handled_words s p.from to given st) st
signed_in s _ st = []

-- an event that is refused has nobody sign
abbrev pub signed_if : Result State WorldFault → List NotedWords → List NotedWords
signed_if (Ok t) words = words
signed_if (Err e) words = []

abbrev pub along : Result State Broken → (State → List NotedWords) → List NotedWords
along (Ok t) rest = rest t
along (Err b) rest = []

-- what is signed in a list of events
abbrev pub signed_along : Setup → List EventValue → State → List NotedWords
signed_along s [] st = []
signed_along s (e ∷ es) st =
    signed_if (happens s e st) (signed_in s e st) ++ along (kept st (happens s e st)) (signed_along s es)

-- ---- where an event breaks

-- the frame that an event hands to a node
abbrev pub handed : EventValue → Option (List ℕ)
handed (event.Deliver message given) = Some given
handed (event.Divert message to given) = Some given
handed _ = None

-- the frame that is handed breaks a premise before the node takes it
pub record IsAtSight (s : Setup) (e : EventValue) (w : WatchValue) (b : Broken) : Type 0 where
  pub frame : List ℕ
  pub given : handed e ≡ Some frame
  pub message : MessageValue
  pub read : read_frame s frame ≡ Ok message
  pub breaks : first_breach s.kit.accepts w (marks message) ≡ Some b
  pub real : IsReal s w.signed b

-- at the sight of what is handed, against what had been signed before the event; else against that and what the event
-- signs
abbrev pub IsBreach : Setup → EventValue → State → Broken → Type 0
IsBreach s e st b = IsAtSight s e st.watch b ⊎ IsReal s (st.watch.signed ++ signed_in s e st) b

-- the run from a state meets its breach at an event
pub record MeetsBreach (s : Setup) (from : State) (events : List EventValue) (b : Broken) : Type 0 where
  pub before : List EventValue
  pub event : EventValue
  pub after : List EventValue
  pub parts : events ≡ before ++ event ∷ after
  pub st : State
  pub reached : run s before from ≡ Ok st
  -- what is noted there is what was signed till then, event by event
  pub noted : st.watch.signed ≡ from.watch.signed ++ signed_along s before from
  pub broke : happens s event st ≡ Err (fault.Broken b)
  pub real : IsBreach s event st b

-- what ends a run is a breach
abbrev pub BreachesAreReal : Type 0
BreachesAreReal =
    (s : Setup) (events : List EventValue) (b : Broken) → run s events (start s) ≡ Err b →
    MeetsBreach s (start s) events b

-- ---- until the breach

-- each part of the run before the event that breaks is without a breach, and safe
pub record IsSafeUntil (s : Setup) (events : List EventValue) (b : Broken) : Type 0 where
  pub meets : MeetsBreach s (start s) events b
  pub safe : (first rest : List EventValue) → meets.before ≡ first ++ rest →
      (st : State) × (run s first (start s) ≡ Ok st) × IsSafe s st

-- the parts of a run that ends in a breach are safe until there
abbrev pub RunsUpToABreachAreSafe : Type 0
RunsUpToABreachAreSafe =
    (s : Setup) → IsSetup s → AreSigned s.kit → (events : List EventValue) (b : Broken) → AreEvents events →
    run s events (start s) ≡ Err b → IsSafeUntil s events b
