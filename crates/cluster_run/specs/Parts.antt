-- The parts of events: frames are seen, nodes answer, messages enter the pool.
use Rattle.std.specs.Prelude.{ℕ, ◌+◌, ◌-◌, List, [], ◌∷◌, ◌++◌, Bool, not, ◌&&◌, ◌||◌, Option, Some, None, Result}
use Rattle.std.specs.Prelude.{Ok, Err, filter, map, length, slice_set, sum, nat_lt, nat_le, is_none, if◌then◌else◌}
use Rattle.std.specs.List.{list_all}
use Rattle.basil_types.specs.declared.outbox.Envelope.{Envelope}
use Rattle.basil_types.specs.Steps.{◌>>=◌}
use Rattle.basil_types.specs.declared.party.Party.{Party}
use Rattle.basil_types.specs.declared.party.Party.TheVariants.{Replica, Client}
use Rattle.basil_types.specs.Words.{SignedWords}
use Rattle.certificates.specs.Refusals.{decision_of, refusal}
use Rattle.client_core.specs.Answers.{on_frame}
use Rattle.client_core.specs.Clients.{ClientSelf, ClientValue, ClientDone}
use Rattle.certificates.specs.declared.fault.FrameFault.{FrameFault}
use Rattle.frame_views.specs.declared.fault.BadFrame.{BadFrame}
use Rattle.frame_views.specs.declared.fault.BadFrame.TheVariants.{Kind}
use Rattle.frame_views.specs.Fitting.{bounds_of}
use Rattle.frame_views.specs.Frames.{frame_in}
use Rattle.frame_views.specs.Spelling.{spelling}
use Rattle.frame_views.specs.Values.{MessageValue, PairValue}
pub use Rattle.message_pool.specs.Posts.{pool_bytes}
use Rattle.premise_watch.specs.declared.broken.Broken.{Broken}
use Rattle.premise_watch.specs.Breaches.{WatchValue, first_breach, after_marks}
use Rattle.premise_watch.specs.Marks.{marks}
use Rattle.replica_core.specs.declared.refusal.Refusal.{Refusal}
use Rattle.replica_core.specs.Answers.{answer}
use Rattle.replica_core.specs.Replicas.{ReplicaSelf, Done}
use Rattle.node_steps.specs.Envelopes.{EnvelopeValue}
use Rattle.txn_meta.specs.Form.{form_fault}
use Rattle.cluster_run.specs.declared.fault.WorldFault.{WorldFault}
use Rattle.cluster_run.specs.declared.fault.WorldFault.TheVariants as fault
use Rattle.cluster_run.specs.States.{Setup, is_faulty, Posted, Waiting, Standing}
use Rattle.cluster_run.specs.States.{put_standing, standing, client_at, State}
use Rattle.frame_views.specs.Carried.{pairs_in}

-- ---- seeing

-- the pair proves its decision
abbrev pub is_proven : Setup → PairValue → Bool
is_proven s p =
    is_none (form_fault p.transaction)
    && is_none (refusal s.kit.accepts s.cluster p.transaction (decision_of p.certificate.body) p.certificate)

abbrev pub saw : Setup → MessageValue → State → State
saw s m st =
    record st {
      watch = after_marks st.watch (marks m);
      certified = st.certified ++ filter (is_proven s) (pairs_in m);
    }

abbrev pub unless_broken : Option Broken → State → Result State WorldFault
unless_broken None st = Ok st
unless_broken (Some b) st = Err (fault.Broken b)

abbrev pub see_message : Setup → Result MessageValue BadFrame → State → Result State WorldFault
see_message s (Ok m) st = unless_broken (first_breach s.kit.accepts st.watch (marks m)) (saw s m st)
see_message s (Err e) st = Ok st

-- numbers below 256; what else stands in a list of numbers is no frame
abbrev pub are_bytes : List ℕ → Bool
are_bytes frame = list_all (λ b. nat_lt b 256) frame

abbrev pub read_frame : Setup → List ℕ → Result MessageValue BadFrame
read_frame s frame = if are_bytes frame then frame_in (bounds_of s.cluster) frame else Err Kind

-- bytes that are no frame show nothing
abbrev pub see : Setup → List ℕ → State → Result State WorldFault
see s frame st = see_message s (read_frame s frame) st

-- ---- the pool

-- what enters the pool
pub record Mail : Type 0 where
  pub from : Party
  pub to : Party
  pub frame : List ℕ

-- an envelope that a party sends
abbrev pub mail_from : Party → Envelope → Mail
mail_from from e = record { from = from; to = e.to; frame = e.frame }

abbrev pub mail_bytes : List Mail → ℕ
mail_bytes mail = sum (map (λ (m : Mail). length m.frame) mail)

abbrev pub has_room : Setup → State → List Mail → Bool
has_room s st mail =
    nat_le (length st.pool + length mail) s.messages && nat_le (pool_bytes st.pool + mail_bytes mail) s.bytes

abbrev pub posted : Mail → Posted
posted m = record { from = m.from; to = m.to; frame = m.frame; fate = Waiting }

-- messages enter in order, and each is seen as it enters
abbrev pub enter_all : Setup → List Mail → State → Result State WorldFault
enter_all s [] st = Ok st
enter_all s (m ∷ mail) st = see s m.frame (record st { pool = st.pool ++ posted m ∷ [] }) >>= enter_all s mail

-- none enters where they would pass a limit
abbrev pub enter : Setup → List Mail → State → Result State WorldFault
enter s mail st =
    if has_room s st mail then enter_all s mail st else Err (fault.PoolFull (length st.pool) (pool_bytes st.pool))

abbrev pub mail_of : Party → EnvelopeValue → Mail
mail_of from m = record { from = from; to = m.to; frame = spelling m.message }

-- ---- nodes

abbrev pub replica_self : Setup → (shard index : ℕ) → ReplicaSelf
replica_self s shard index =
    record {
      home = record { cluster = s.cluster; shard = shard };
      index = index;
      accepts = s.kit.accepts;
      signing = s.kit.signing (Replica shard index);
    }

abbrev pub client_self : Setup → (number : ℕ) → ClientSelf
client_self s number =
    record {
      cluster = s.cluster;
      number = number;
      accepts = s.kit.accepts;
      signing = s.kit.signing (Client number);
    }

abbrev pub noted : Party → List SignedWords → WatchValue → WatchValue
noted p words w = record w { signed = w.signed ++ map (λ x. record { party = p; words = x }) words }

-- what is signed is noted before the messages enter
abbrev pub send : Setup → Party → List SignedWords → List EnvelopeValue → State → Result State WorldFault
send s from words sent st = enter s (map (mail_of from) sent) (record st { watch = noted from words st.watch })

-- a node that refuses leaves its state
abbrev pub refuse : ℕ → State → Result State WorldFault
refuse number st = Ok (record st { refused = Some number })

abbrev pub replica_did : Setup → ℕ → Standing → Result Done Refusal → State → Result State WorldFault
replica_did s number x (Ok d) st =
    send s (Replica x.shard x.index) d.signed d.sent
    (record st { replicas = put_standing (record x { book = d.book }) st.replicas })
replica_did s number x (Err e) st = refuse number st

-- of a replica that isn't one of the cluster nothing happens
abbrev pub replica_handles : Setup → ℕ → Party → List ℕ → Option Standing → State → Result State WorldFault
replica_handles s number from frame (Some x) st =
    replica_did s number x (answer (replica_self s x.shard x.index) x.moment from x.book frame) st
replica_handles s number from frame None st = Ok st

abbrev pub client_did : Setup → ℕ → (client : ℕ) → Result ClientDone FrameFault → State → Result State WorldFault
client_did s number client (Ok d) st =
    send s (Client client) d.signed d.sent (record st { clients = slice_set st.clients (client - 1) d.client })
client_did s number client (Err e) st = refuse number st

abbrev pub client_handles :
    Setup → ℕ → (client : ℕ) → List ℕ → Option ClientValue → State → Result State WorldFault
client_handles s number client frame (Some c) st =
    client_did s number client (on_frame (client_self s client) c frame) st
client_handles s number client frame None st = Ok st

abbrev pub handle_by : Setup → ℕ → Party → Party → List ℕ → State → Result State WorldFault
handle_by s number from (Replica shard index) frame st =
    replica_handles s number from frame (standing st shard index) st
handle_by s number from (Client client) frame st = client_handles s number client frame (client_at st client) st

-- a frame delivered to a faulty party does nothing
abbrev pub handle : Setup → ℕ → Party → Party → List ℕ → State → Result State WorldFault
handle s number from to frame st =
    if is_faulty s to || not (are_bytes frame) then Ok st else handle_by s number from to frame st

-- the bytes are seen, and then the node takes them
abbrev pub hand : Setup → ℕ → Party → Party → List ℕ → State → Result State WorldFault
hand s number from to frame st = see s frame st >>= handle s number from to frame
