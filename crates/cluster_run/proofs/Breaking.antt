-- A breach that ends a run is real.
use Rattle.node_steps.specs.Refusing.{unless_refused}
use Rattle.client_steps.specs.declared.fault.CallFault.TheVariants as call
use Rattle.cluster_run.proofs.Members.{any_of}
use Rattle.std.proofs.Common.{◌≡◌, ℕ, Bool, true, false, cond, not, ◌&&◌, ◌||◌, List, [], ◌∷◌, ◌++◌, Option, Some, None, refl, sym, ap}
use Rattle.std.proofs.Common.{subst, ◌∙◌, inl, inr, append-nil, append_assoc}
use Rattle.std.specs.Prelude.{length, ◌==◌, find, option_map, option_and_then, Result, Ok, Err, slice_get, is_some}
use Rattle.std.specs.Prelude.{nat_lt, ◌-◌}
use Rattle.std.specs.List.{list_any}
use Rattle.std.specs.Option.{option_map_or}
use Rattle.std.specs.Str.{bytes_eq}
use Rattle.std.proofs.lemmas.Bool.{and_parts, and_from}
use Rattle.basil_types.specs.Built.{key_fits, or_else, write_fits}
use Rattle.basil_types.specs.Id.{id_of}
use Rattle.basil_types.specs.Steps.{◌>>=◌}
use Rattle.basil_types.specs.declared.party.Party.{Party}
use Rattle.basil_types.specs.declared.party.Party.TheVariants.{Replica, Client}
use Rattle.basil_types.specs.declared.version.Version.{Version}
use Rattle.basil_types.specs.Version.{genesis}
use Rattle.basil_types.specs.Transaction.{TransactionValue, id, canonical}
use Rattle.basil_types.specs.Words.{SignedWords}
use Rattle.certificates.specs.Accepted.{accepts}
use Rattle.client_steps.specs.declared.fault.CallFault.{CallFault}
use Rattle.client_core.specs.Answers.{on_frame}
use Rattle.client_core.specs.Calls.{call_begin, call_read, call_write, call_prepare, call_settle, call_recover, call_invoke}
use Rattle.client_core.specs.Clients.{ClientValue, ClientDone}
use Rattle.client_core.specs.Slots.{put_write, slot_of_id}
use Rattle.certificates.specs.declared.fault.FrameFault.{FrameFault}
use Rattle.frame_views.specs.declared.fault.BadFrame.{BadFrame}
use Rattle.frame_views.specs.Signed.{SignedBy}
use Rattle.frame_views.specs.Values.{MessageValue, CommittedValue}
use Rattle.premise_watch.specs.declared.broken.Broken.{Broken}
use Rattle.premise_watch.specs.declared.broken.Broken.TheVariants.{Forged, Collision}
use Rattle.premise_watch.specs.Breaches.{NotedWords, WatchValue, is_noted, said, forged, collides, collision, seen_text, first_breach}
use Rattle.premise_watch.specs.Marks.{MarkValue, Signature, Text, marks}
use Rattle.replica_core.specs.declared.refusal.Refusal.{Refusal}
use Rattle.replica_core.specs.Answers.{answer}
use Rattle.replica_core.specs.Replicas.{Done}
use Rattle.node_steps.specs.Envelopes.{EnvelopeValue}
use Rattle.txn_table.specs.Entries.{same_party}
use Rattle.cluster_run.specs.declared.fault.WorldFault.{WorldFault}
use Rattle.cluster_run.specs.declared.fault.WorldFault.TheVariants as fault
use Rattle.cluster_run.specs.Breaking.{IsForgery, IsCollision, IsReal, by_party, replica_words, call_words, client_words, node_words}
use Rattle.cluster_run.specs.Breaking.{handled_words, slot_words, signed_in, signed_if, along, signed_along, handed, IsBreach, MeetsBreach}
use Rattle.cluster_run.specs.Breaking.{BreachesAreReal, RunsUpToABreachAreSafe}
use Rattle.cluster_run.specs.Safety.{AreEvents, RunsAreSafe}
use Rattle.cluster_run.specs.Events as event
use Rattle.cluster_run.specs.Events.{EventValue, called, at_client, by_client, begun_by, with_begun, begins_in, begins, set_begun, at_tx}
use Rattle.cluster_run.specs.Events.{at_formed, reads_at, unless_formed, writes_at, put_claim, formed_version, claims_at}
use Rattle.cluster_run.specs.Events.{prepared_by, prepares_own, prepare_fault, prepares_at, held_call, settles_at, invokes_at}
use Rattle.cluster_run.specs.Events.{recovers_at, marked, at_message, lost, ticks, happens, kept, run}
use Rattle.cluster_run.specs.Faulty.{LieValue, has_left, after_lie, lies, faulty_vote, faulty_reply, faulty_word, faulty_proposal}
use Rattle.cluster_run.specs.Faulty.{faulty_second}
use Rattle.cluster_run.specs.Parts.{are_bytes, read_frame, saw, unless_broken, see_message, see, Mail, posted, has_room, pool_bytes}
use Rattle.cluster_run.specs.Parts.{enter_all, enter, mail_of, replica_self, client_self, noted, send, replica_did, replica_handles}
use Rattle.cluster_run.specs.Parts.{client_did, client_handles, handle_by, handle, hand}
use Rattle.cluster_run.specs.States.{posted_at, Setup, is_faulty, Posted, Delivered, BegunValue, FormedValue, Standing, standing, client_at}
use Rattle.cluster_run.specs.States.{State, start}
use Rattle.cluster_run.proofs.Finding.{same_true, same_self, true_false}
use Rattle.cluster_run.proofs.Parting.{between}
use Rattle.cluster_run.proofs.Running.{party_self}
use Rattle.cluster_run.proofs.Seeing.{faulty_after, signed_after, find_some}

-- ---- one mark

neither : (a b : Bool) → (a || b) ≡ false → (a ≡ false) × (b ≡ false)
neither true b h = absurd cc
neither false b h = (refl, h)

module _ (s : Setup) where
  forged_real : (w : WatchValue) → w.faulty ≡ s.faulty → (g : SignedBy) (b : Broken) → forged s.kit.accepts w g ≡ Some b →
      IsReal s w.signed b
  forged_real w same g b h = by (accepts s.kit.accepts g) (accepts (said w) g) refl refl
    where
      by : (x y : Bool) → accepts s.kit.accepts g ≡ x → accepts (said w) g ≡ y → IsReal s w.signed b
      by true true i j =
          let q : None ≡ Some b =
          sym (ap (λ z. cond (z && not (accepts (said w) g)) (Some (Forged g.party g.words g.signature)) None) i
          ∙ ap (λ z. cond (not z) (Some (Forged g.party g.words g.signature)) None) j) ∙ h in
          absurd cc
      by false y i j =
          let q : None ≡ Some b =
          sym (ap (λ z. cond (z && not (accepts (said w) g)) (Some (Forged g.party g.words g.signature)) None) i) ∙ h in
          absurd cc
      by true false i j =
          let q : Some (Forged g.party g.words g.signature) ≡ Some b =
          sym (ap (λ z. cond (z && not (accepts (said w) g)) (Some (Forged g.party g.words g.signature)) None) i
          ∙ ap (λ z. cond (not z) (Some (Forged g.party g.words g.signature)) None) j) ∙ h in
          let is : Forged g.party g.words g.signature ≡ b = cc in
          let parts = neither (list_any (same_party g.party) w.faulty) (list_any (is_noted g.party g.words) w.signed) j in
          let it : IsForgery s w.signed g.party g.words g.signature = record {
            correct = ap (λ ps. list_any (same_party g.party) ps) (sym same) ∙ parts.0;
            accepted = i;
            unsigned =
                λ n has p k. true_false (list_any (is_noted g.party g.words) w.signed)
                (any_of (is_noted g.party g.words) w.signed n has
                (and_from _ _ (ap (same_party g.party) p ∙ party_self g.party) (ap (λ z. bytes_eq z g.words) k ∙ same_self g.words)))
                parts.1;
          } in
          subst (IsReal s w.signed) is it

  collision_real : (w : WatchValue) (t : TransactionValue) (b : Broken) → collision w t ≡ Some b → IsReal s w.signed b
  collision_real w t b h = by (find (collides t) w.texts) refl
    where
      by : (o : Option TransactionValue) → find (collides t) w.texts ≡ o → IsReal s w.signed b
      by None i = (let q : None ≡ Some b = sym (ap (option_map (λ u. Collision (canonical u) (canonical t))) i) ∙ h in absurd cc)
      by (Some u) i =
          let q : Some (Collision (canonical u) (canonical t)) ≡ Some b =
          sym (ap (option_map (λ u. Collision (canonical u) (canonical t))) i) ∙ h in
          let is : Collision (canonical u) (canonical t) ≡ b = cc in
          let parts =
          and_parts (bytes_eq (id_of (canonical u)) (id_of (canonical t))) (not (bytes_eq (canonical u) (canonical t)))
          (find_some (collides t) w.texts u i).1 in
          let it : IsCollision (canonical u) (canonical t) = record {
            differ = λ e. (let k : bytes_eq (canonical u) (canonical t) ≡ true = ap (λ z. bytes_eq z (canonical t)) e
                ∙ same_self (canonical t) in let n : false ≡ true = sym (ap not k) ∙ parts.1 in absurd cc);
            one_id = same_true _ _ parts.0;
          } in
          subst (IsReal s w.signed) is it

  marks_real : (ms : List MarkValue) (w : WatchValue) → w.faulty ≡ s.faulty → (b : Broken) → first_breach s.kit.accepts w ms ≡ Some b →
      IsReal s w.signed b
  marks_real [] w same b h = absurd cc
  marks_real (Signature g ∷ ms) w same b h = by (forged s.kit.accepts w g) refl h (marks_real ms w same b)
    where
      by : (o : Option Broken) → forged s.kit.accepts w g ≡ o → or_else o (first_breach s.kit.accepts w ms) ≡ Some b →
          (first_breach s.kit.accepts w ms ≡ Some b → IsReal s w.signed b) → IsReal s w.signed b
      by None i h rest = rest h
      by (Some x) i h rest = forged_real w same g b (i ∙ h)
  marks_real (Text t ∷ ms) w same b h = by (collision w t) refl h (marks_real ms (seen_text w t) same b)
    where
      by : (o : Option Broken) → collision w t ≡ o → or_else o (first_breach s.kit.accepts (seen_text w t) ms) ≡ Some b →
          (first_breach s.kit.accepts (seen_text w t) ms ≡ Some b → IsReal s w.signed b) → IsReal s w.signed b
      by None i h rest = rest h
      by (Some x) i h rest = collision_real w t b (i ∙ h)

  -- ---- what comes of a part

  abbrev Comes : (Result State Broken → Type 0) → Result State WorldFault → Type 0
  Comes P (Ok t) = P (Ok t)
  Comes P (Err (fault.Broken b)) = P (Err b)
  Comes P (Err (fault.PoolFull messages bytes)) = Unit {0}
  Comes P (Err (fault.Call f)) = Unit {0}
  Comes P (Err (fault.Exhausted party)) = Unit {0}

  -- what is wanted, of a part that notes these words
  record Wants (P : Result State Broken → Type 0) (st : State) (words : List NotedWords) : Type 0 where
    bad : (b : Broken) → IsReal s (st.watch.signed ++ words) b → P (Err b)
    good : (t : State) → t.watch.faulty ≡ s.faulty → t.watch.signed ≡ st.watch.signed ++ words → P (Ok t)

  stay : (P : Result State Broken → Type 0) (st t : State) → Wants P st [] → t.watch.faulty ≡ s.faulty → t.watch.signed ≡ st.watch.signed →
      P (Ok t)
  stay P st t w same k = w.good t same (k ∙ sym (append-nil st.watch.signed))

  none_signed : (P : Result State Broken → Type 0) (st : State) → Wants P st [] → (b : Broken) → IsReal s st.watch.signed b → P (Err b)
  none_signed P st w b r = w.bad b (subst (λ l. IsReal s l b) (sym (append-nil st.watch.signed)) r)

  moved : (P : Result State Broken → Type 0) (st u : State) (words more : List NotedWords) → u.watch.signed ++ more ≡ st.watch.signed
      ++ words → Wants P st words → Wants P u more
  moved P st u words more k w = record { bad = λ b r. w.bad b (subst (λ l. IsReal s l b) k r); good = λ t f e. w.good t f (e ∙ k) }

  see_then : (P : Result State Broken → Type 0) (frame : List ℕ) (st : State) (f : State → Result State WorldFault) → st.watch.faulty
      ≡ s.faulty →
      ((m : MessageValue) (b : Broken) → read_frame s frame ≡ Ok m → first_breach s.kit.accepts st.watch (marks m) ≡ Some b →
      IsReal s st.watch.signed b → P (Err b)) →
      Comes P (f st) → ((m : MessageValue) → (saw s m st).watch.faulty ≡ s.faulty → (saw s m st).watch.signed ≡ st.watch.signed →
      Comes P (f (saw s m st))) →
      Comes P (see s frame st >>= f)
  see_then P frame st f same bad stays goes = by (read_frame s frame) refl
    where
      by : (r : Result MessageValue BadFrame) → read_frame s frame ≡ r → Comes P (see_message s r st >>= f)
      by (Err e) i = stays
      by (Ok m) i = on (first_breach s.kit.accepts st.watch (marks m)) refl
        where
          on : (o : Option Broken) → first_breach s.kit.accepts st.watch (marks m) ≡ o → Comes P (unless_broken o (saw s m st) >>= f)
          on None k = goes m (faulty_after st.watch (marks m) ∙ same) (signed_after st.watch (marks m))
          on (Some b) k = bad m b i k (marks_real (marks m) st.watch same b k)

  enters_all : (P : Result State Broken → Type 0) (mail : List Mail) (st : State) → st.watch.faulty ≡ s.faulty → Wants P st [] →
      Comes P (enter_all s mail st)
  enters_all P [] st same w = stay P st st w same refl
  enters_all P (m ∷ mail) st same w =
      let next : State = record st { pool = st.pool ++ posted m ∷ [] } in
      let there : Wants P next [] = moved P st next [] [] refl w in
      see_then P m.frame next (enter_all s mail) same (λ x b i k r. none_signed P st w b r) (enters_all P mail next same there)
      (λ x f k. enters_all P mail (saw s x next) f (moved P next (saw s x next) [] [] (ap (λ l. l ++ []) k) there))

  enters : (P : Result State Broken → Type 0) (mail : List Mail) (st : State) → st.watch.faulty ≡ s.faulty → Wants P st [] →
      Comes P (enter s mail st)
  enters P mail st same w = by (has_room s st mail)
    where
      by : (x : Bool) → Comes P (cond x (enter_all s mail st) (Err (fault.PoolFull (length st.pool) (pool_bytes st.pool))))
      by true = enters_all P mail st same w
      by false = tt

  sends : (P : Result State Broken → Type 0) (p : Party) (words : List SignedWords) (sent : List EnvelopeValue) (st : State) →
      st.watch.faulty ≡ s.faulty → Wants P st (by_party p words) → Comes P (send s p words sent st)
  sends P p words sent st same w =
      let next : State = record st { watch = noted p words st.watch } in
      enters P (Rattle.std.specs.Prelude.map (mail_of p) sent) next same
      (moved P st next (by_party p words) [] (append-nil (st.watch.signed ++ by_party p words)) w)

  -- ---- nodes

  replica_does : (P : Result State Broken → Type 0) (number : ℕ) (x : Standing) (r : Result Done Refusal) (st : State) → st.watch.faulty
      ≡ s.faulty → Wants P st (replica_words x r) → Comes P (replica_did s number x r st)
  replica_does P number x (Ok d) st same bad =
      sends P (Replica x.shard x.index) d.signed d.sent _ same (moved P st _ (replica_words x (Ok d)) _ refl bad)
  replica_does P number x (Err e) st same bad = stay P st _ bad same refl

  client_does : (P : Result State Broken → Type 0) (number client : ℕ) (r : Result ClientDone FrameFault) (st : State) → st.watch.faulty
      ≡ s.faulty → Wants P st (call_words client r) → Comes P (client_did s number client r st)
  client_does P number client (Ok d) st same bad =
      sends P (Client client) d.signed d.sent _ same (moved P st _ (by_party (Client client) d.signed) _ refl bad)
  client_does P number client (Err e) st same bad = stay P st _ bad same refl

  node_does : (P : Result State Broken → Type 0) (number : ℕ) (from to : Party) (frame : List ℕ) (st : State) → st.watch.faulty ≡ s.faulty →
      Wants P st (node_words s from to frame st) → Comes P (handle_by s number from to frame st)
  node_does P number from (Replica shard index) frame st same bad = by (standing st shard index) bad
    where
      by : (o : Option Standing) → Wants P st (option_map_or
          (λ (x : Standing). replica_words x (answer (replica_self s x.shard x.index) x.moment from x.book frame)) o []) →
          Comes P (replica_handles s number from frame o st)
      by None bad = stay P st _ bad same refl
      by (Some x) bad = replica_does P number x _ st same bad
  node_does P number from (Client client) frame st same bad = by (client_at st client) bad
    where
      by : (o : Option ClientValue) → Wants P st (option_map_or
          (λ (c : ClientValue). call_words client (on_frame (client_self s client) c frame)) o []) →
          Comes P (client_handles s number client frame o st)
      by None bad = stay P st _ bad same refl
      by (Some c) bad = client_does P number client _ st same bad

  handles : (P : Result State Broken → Type 0) (number : ℕ) (from to : Party) (frame : List ℕ) (st : State) → st.watch.faulty ≡ s.faulty →
      Wants P st (handled_words s from to frame st) → Comes P (handle s number from to frame st)
  handles P number from to frame st same bad = by (is_faulty s to || not (are_bytes frame)) bad
    where
      by : (x : Bool) → Wants P st (cond x [] (node_words s from to frame st)) →
          Comes P (cond x (Ok st) (handle_by s number from to frame st))
      by true bad = stay P st _ bad same refl
      by false bad = node_does P number from to frame st same bad

  -- the message that is handed, first seen
  abbrev Sights : (Result State Broken → Type 0) → WatchValue → List ℕ → Type 0
  Sights P w frame =
      (m : MessageValue) (b : Broken) → read_frame s frame ≡ Ok m → first_breach s.kit.accepts w (marks m) ≡ Some b → IsReal s w.signed b →
      P (Err b)

  -- what a node signs hangs on the nodes alone
  nodes_alike : (from to : Party) (frame : List ℕ) (st : State) (w : WatchValue) (certified : List CommittedValue) (pool : List Posted) →
      handled_words s from to frame (record st { watch = w; certified = certified; pool = pool }) ≡ handled_words s from to frame st
  nodes_alike from (Replica shard index) frame st w certified pool = refl
  nodes_alike from (Client client) frame st w certified pool = refl

  hands : (P : Result State Broken → Type 0) (number : ℕ) (from to : Party) (frame : List ℕ) (st : State) → st.watch.faulty ≡ s.faulty →
      Sights P st.watch frame → Wants P st (handled_words s from to frame st) → Comes P (hand s number from to frame st)
  hands P number from to frame st same sight bad =
      see_then P frame st (handle s number from to frame) same sight (handles P number from to frame st same bad)
      (λ m f k. handles P number from to frame (saw s m st) f
      (moved P st (saw s m st) _ _ (ap (λ l. l ++ handled_words s from to frame (saw s m st)) k
      ∙ ap (λ l. st.watch.signed ++ l) (nodes_alike from to frame st (saw s m st).watch (saw s m st).certified st.pool)) bad))

  -- ---- calls

  calls : (P : Result State Broken → Type 0) (client : ℕ) (r : Result ClientDone CallFault) (st : State) → st.watch.faulty ≡ s.faulty →
      Wants P st (call_words client r) → Comes P (called s client r st)
  calls P client (Ok d) st same bad =
      sends P (Client client) d.signed d.sent _ same (moved P st _ (by_party (Client client) d.signed) _ refl bad)
  calls P client (Err f) st same bad = tt

  by_clients : (P : Result State Broken → Type 0) (client : ℕ) (call : ClientValue → Result ClientDone CallFault) (st : State) →
      st.watch.faulty ≡ s.faulty → Wants P st (client_words client call st) → Comes P (by_client s client call st)
  by_clients P client call st same bad = by (client_at st client) bad
    where
      by : (o : Option ClientValue) → Wants P st (option_map_or (λ c. call_words client (call c)) o []) →
          Comes P (at_client s client call o st)
      by None bad = stay P st _ bad same refl
      by (Some c) bad = calls P client (call c) st same bad

  -- of a look-up, with what its words are
  maybe : {A : Type 0} (P : Result State Broken → Type 0) (o : Option A) (what : A → Result State WorldFault) (words : A → List NotedWords)
      (other : Result State WorldFault) (st : State) →
      Wants P st (option_map_or words o []) → ((a : A) → Wants P st (words a) → Comes P (what a)) → (Wants P st [] → Comes P other) →
      Comes P (option_map_or what o other)
  maybe P None what words other st bad f g = g bad
  maybe P (Some a) what words other st bad f g = f a bad

  -- nothing is signed
  plain : {A : Type 0} (P : Result State Broken → Type 0) (o : Option A) (what : A → Result State WorldFault) (st : State) → st.watch.faulty
      ≡ s.faulty → Wants P st [] → ((a : A) → Comes P (what a)) → Comes P (option_map_or what o (Ok st))
  plain P None what st same bad f = stay P st st bad same refl
  plain P (Some a) what st same bad f = f a

  begins_with : (P : Result State Broken → Type 0) (client time : ℕ) (o : Option ClientValue) (st : State) → st.watch.faulty ≡ s.faulty →
      Wants P st (option_map_or (λ (c : ClientValue). call_words client (call_begin c time)) o []) → Comes P (begins_in s client time o st)
  begins_with P client time None st same bad = stay P st st bad same refl
  begins_with P client time (Some c) st same bad =
      calls P client (call_begin c time) _ same (moved P st _ (call_words client (call_begin c time)) _ refl bad)

  begun : (P : Result State Broken → Type 0) (client time : ℕ) (st : State) → st.watch.faulty ≡ s.faulty →
      Wants P st (signed_in s (event.Begin client time) st) → Comes P (begins s client time st)
  begun P client time st same bad = by (is_faulty s (Client client)) bad
    where
      by : (x : Bool) → Wants P st (cond x [] (client_words client (λ c. call_begin c time) st)) →
          Comes P (cond x (Ok (with_begun (begun_by client time None) st)) (begins_in s client time (client_at st client) st))
      by true bad = stay P st _ bad same refl
      by false bad = begins_with P client time (client_at st client) st same bad

  unformed : (P : Result State Broken → Type 0) (b : BegunValue) (fits : Bool) (answer : Result State WorldFault) → Comes P answer →
      Comes P (unless_formed b fits answer)
  unformed P b fits answer h = by (is_some b.formed) fits
    where
      by : (x y : Bool) → Comes P (cond x (Err (fault.Call call.NotOpen)) (cond y answer (Err (fault.Call call.SizeOut))))
      by true y = tt
      by false true = h
      by false false = tt

  claims : (P : Result State Broken → Type 0) (tx : ℕ) (key : List ℕ) (v : Option Version) (b : BegunValue) (st : State) → st.watch.faulty
      ≡ s.faulty → Wants P st [] → Comes P (claims_at tx key v b st)
  claims P tx key None b st same bad = stay P st st bad same refl
  claims P tx key (Some v) b st same bad =
      let next = set_begun tx (record b { reads = put_claim (record { key = key; version = v; dependency = false }) b.reads }) st in
      unformed P b (key_fits key) (Ok next) (stay P st next bad same refl)

  prepared : (P : Result State Broken → Type 0) (tx : ℕ) (b : BegunValue) (slot : ℕ) (r : Result ClientDone CallFault) (st : State) →
      st.watch.faulty ≡ s.faulty → Wants P st (call_words b.client r) → Comes P (prepared_by s tx b slot r st)
  prepared P tx b slot (Ok d) st same bad = calls P b.client (Ok d) _ same (moved P st _ (by_party (Client b.client) d.signed) _ refl bad)
  prepared P tx b slot (Err e) st same bad = tt

  choice : (P : Result State Broken → Type 0) (answer : Result State WorldFault) (x : Bool) (f g : Option WorldFault) →
      Comes P (unless_refused f answer) → Comes P (unless_refused g answer) → Comes P (unless_refused (cond x f g) answer)
  choice P answer true f g h k = h
  choice P answer false f g h k = k

  -- a fault of a form is no breach
  unbroken : (P : Result State Broken → Type 0) (b : BegunValue) (st : State) (answer : Result State WorldFault) → Comes P answer →
      Comes P (unless_refused (prepare_fault s b st) answer)
  unbroken P b st answer h =
      choice P answer (is_some b.formed) _ _ tt (choice P answer (nat_lt 32 (length b.reads)) _ _ tt
      (choice P answer (nat_lt 32 (length b.writes)) _ _ tt
      (choice P answer ((length b.reads == 0) && (length b.writes == 0)) _ _ tt
      (choice P answer (has_left s st (Client b.client)) _ _ h tt))))

  prepares : (P : Result State Broken → Type 0) (tx : ℕ) (b : BegunValue) (st : State) → st.watch.faulty ≡ s.faulty →
      Wants P st (slot_words b (λ slot. client_words b.client (λ c. call_prepare (client_self s b.client) c slot) st)) →
      Comes P (prepares_at s tx b st)
  prepares P tx b st same bad =
      maybe P b.slot (λ slot. prepares_own s tx b slot st)
      (λ slot. client_words b.client (λ c. call_prepare (client_self s b.client) c slot) st) _ st bad
      (λ slot bad. maybe P (client_at st b.client) (λ c. prepared_by s tx b slot (call_prepare (client_self s b.client) c slot) st)
      (λ c. call_words b.client (call_prepare (client_self s b.client) c slot)) (Ok st) st bad
      (λ c bad. prepared P tx b slot _ st same bad) (λ bad. stay P st st bad same refl))
      (λ bad. unbroken P b st _ (sends P (Client b.client) [] _ _ same (moved P st _ [] [] refl bad)))

  lying : (P : Result State Broken → Type 0) (p : Party) (lie : LieValue) (st : State) → st.watch.faulty ≡ s.faulty → Wants P st [] →
      Comes P (lies s p lie st)
  lying P p lie st same bad = by (has_left s st p)
    where
      by : (x : Bool) → Comes P (cond x (enter s (mail_of p lie.envelope ∷ []) (after_lie st p lie.words)) (Err (fault.Exhausted p)))
      by true =
          enters P (mail_of p lie.envelope ∷ []) (after_lie st p lie.words) same (moved P st (after_lie st p lie.words) [] [] refl bad)
      by false = tt

  ticked : (P : Result State Broken → Type 0) (moment : ℕ) (o : Option Standing) (st : State) → st.watch.faulty ≡ s.faulty → Wants P st [] →
      P (Ok (ticks moment o st))
  ticked P moment None st same bad = stay P st st bad same refl
  ticked P moment (Some x) st same bad = stay P st _ bad same refl

  -- ---- one event

  abbrev Out : EventValue → State → Type 1
  Out e st =
      (P : Result State Broken → Type 0) → ((frame : List ℕ) → handed e ≡ Some frame → Sights P st.watch frame) →
      Wants P st (signed_in s e st) → Comes P (happens s e st)

  of_tx : (P : Result State Broken → Type 0) (tx : ℕ) (what : BegunValue → State → Result State WorldFault)
      (words : BegunValue → List NotedWords) (st : State) → st.watch.faulty ≡ s.faulty →
      Wants P st (option_map_or words (slice_get st.begun tx) []) → ((b : BegunValue) → Wants P st (words b) → Comes P (what b st)) →
      Comes P (at_tx tx what st)
  of_tx P tx what words st same bad f =
      maybe P (slice_get st.begun tx) (λ b. what b st) words (Ok st) st bad f (λ bad. stay P st st bad same refl)

  of_formed : (P : Result State Broken → Type 0) (tx : ℕ) (what : FormedValue → State → Result State WorldFault)
      (words : FormedValue → List NotedWords) (st : State) → st.watch.faulty ≡ s.faulty →
      Wants P st (option_map_or words (option_and_then (λ (b : BegunValue). b.formed) (slice_get st.begun tx)) []) →
      ((a : FormedValue) → Wants P st (words a) → Comes P (what a st)) → Comes P (at_formed tx what st)
  of_formed P tx what words st same bad f =
      maybe P (option_and_then (λ (b : BegunValue). b.formed) (slice_get st.begun tx)) (λ a. what a st) words (Ok st) st bad f
      (λ bad. stay P st st bad same refl)

  of_message : (P : Result State Broken → Type 0) (message : ℕ) (what : Posted → State → Result State WorldFault)
      (words : Posted → List NotedWords) (st : State) → st.watch.faulty ≡ s.faulty →
      Wants P st (option_map_or words (posted_at st message) []) → ((p : Posted) → Wants P st (words p) → Comes P (what p st)) →
      Comes P (at_message message what st)
  of_message P message what words st same bad f =
      maybe P (posted_at st message) (λ p. what p st) words (Ok st) st bad f (λ bad. stay P st st bad same refl)

  lie_formed : (P : Result State Broken → Type 0) (tx : ℕ) (p : Party) (lie : FormedValue → State → LieValue) (st : State) → st.watch.faulty
      ≡ s.faulty → Wants P st [] → Comes P (at_formed tx (λ f st. lies s p (lie f st) st) st)
  lie_formed P tx p lie st same bad =
      plain P (option_and_then (λ (b : BegunValue). b.formed) (slice_get st.begun tx)) (λ f. lies s p (lie f st) st) st same bad
      (λ f. lying P p (lie f st) st same bad)

  events : (e : EventValue) (st : State) → st.watch.faulty ≡ s.faulty → Out e st
  events (event.Begin client time) st same P sight bad = begun P client time st same bad
  events (event.Read tx key) st same P sight bad =
      of_tx P tx (reads_at s key) (λ b. slot_words b (λ slot. client_words b.client
      (λ c. call_read (client_self s b.client) c slot key) st)) st same bad
      (λ b bad. maybe P b.slot (λ slot. by_client s b.client (λ c. call_read (client_self s b.client) c slot key) st)
      (λ slot. client_words b.client (λ c. call_read (client_self s b.client) c slot key) st) (Ok st) st bad
      (λ slot bad. by_clients P b.client (λ c. call_read (client_self s b.client) c slot key) st same bad)
      (λ bad. stay P st st bad same refl))
  events (event.Write tx w) st same P sight bad =
      of_tx P tx (writes_at s tx w) (λ b. slot_words b (λ slot. client_words b.client (λ c. call_write c slot w) st)) st same bad
      (λ b bad. maybe P b.slot (λ slot. by_client s b.client (λ c. call_write c slot w) st)
      (λ slot. client_words b.client (λ c. call_write c slot w) st) _ st bad
      (λ slot bad. by_clients P b.client (λ c. call_write c slot w) st same bad)
      (λ bad. unformed P b (write_fits w) _ (stay P st (set_begun tx (record b { writes = put_write w b.writes }) st) bad same refl)))
  events (event.Claim tx key None) st same P sight bad =
      plain P (slice_get st.begun tx) (λ b. claims_at tx key (Some genesis) b st) st same bad
      (λ b. claims P tx key (Some genesis) b st same bad)
  events (event.Claim tx key (Some writer)) st same P sight bad =
      plain P (slice_get st.begun tx) (λ b. claims_at tx key (formed_version st writer) b st) st same bad
      (λ b. claims P tx key (formed_version st writer) b st same bad)
  events (event.Prepare tx) st same P sight bad =
      of_tx P tx (prepares_at s tx) (λ b. slot_words b
      (λ slot. client_words b.client (λ c. call_prepare (client_self s b.client) c slot) st)) st same bad
      (λ b bad. prepares P tx b st same bad)
  events (event.Settle tx client) st same P sight bad =
      of_formed P tx (settles_at s client) (λ f. client_words client
      (λ c. held_call (slot_of_id c (id f.transaction)) (call_settle (client_self s client) c)) st) st same bad
      (λ f bad. by_clients P client (λ c. held_call (slot_of_id c (id f.transaction)) (call_settle (client_self s client) c)) st same bad)
  events (event.Recover tx client) st same P sight bad =
      of_formed P tx (recovers_at s client) (λ f. client_words client
      (λ c. call_recover (client_self s client) c f.transaction f.signature) st) st same bad
      (λ f bad. by_clients P client (λ c. call_recover (client_self s client) c f.transaction f.signature) st same bad)
  events (event.Invoke tx client) st same P sight bad =
      of_formed P tx (invokes_at s client) (λ f. client_words client
      (λ c. held_call (slot_of_id c (id f.transaction)) (call_invoke (client_self s client) c)) st) st same bad
      (λ f bad. by_clients P client (λ c. held_call (slot_of_id c (id f.transaction)) (call_invoke (client_self s client) c)) st same bad)
  events (event.Deliver message given) st same P sight bad =
      of_message P message (λ p st. hand s message p.from p.to given (marked (message - 1) Delivered p st))
      (λ p. handled_words s p.from p.to given st) st same bad
      (λ p bad. hands P message p.from p.to given (marked (message - 1) Delivered p st) same (sight given refl)
      (moved P st (marked (message - 1) Delivered p st) _ _
      (ap (λ l. st.watch.signed ++ l) (nodes_alike p.from p.to given st st.watch st.certified
      (marked (message - 1) Delivered p st).pool)) bad))
  events (event.Lose message) st same P sight bad =
      plain P (posted_at st message) (λ p. Ok (marked (message - 1) (lost p.fate) p st)) st same bad
      (λ p. stay P st _ bad same refl)
  events (event.Divert message to given) st same P sight bad =
      of_message P message (λ p st. hand s message p.from to given st) (λ p. handled_words s p.from to given st) st same bad
      (λ p bad. hands P message p.from to given st same (sight given refl) bad)
  events (event.Clock shard r moment) st same P sight bad = ticked P moment (standing st shard r) st same bad
  events (event.Vote shard r tx d client) st same P sight bad =
      lie_formed P tx (Replica shard r) (λ f st. faulty_vote s shard r f.transaction d client st) st same bad
  events (event.Second tx d r) st same P sight bad =
      plain P (option_and_then (λ (b : BegunValue). b.formed) (slice_get st.begun tx))
      (λ f. enter s (faulty_second s f d r st) st) st same bad (λ f. enters P (faulty_second s f d r st) st same bad)
  events (event.Logged shard r tx d decided current client) st same P sight bad =
      lie_formed P tx (Replica shard r) (λ f st. faulty_reply s shard r f.transaction d decided current client st) st same bad
  events (event.Elect shard r tx d view) st same P sight bad =
      lie_formed P tx (Replica shard r) (λ f st. faulty_word s shard r f.transaction d view st) st same bad
  events (event.Decide shard r tx d view to) st same P sight bad =
      lie_formed P tx (Replica shard r) (λ f st. faulty_proposal s shard r f.transaction d view to st) st same bad
  events (event.Raw from to frame) st same P sight bad = enters P (record { from = from; to = to; frame = frame } ∷ []) st same bad
  events (event.Show frame) st same P sight bad = sees (read_frame s frame)
    where
      sees : (r : Result MessageValue BadFrame) → Comes P (see_message s r st)
      sees (Err e) = stay P st st bad same refl
      sees (Ok m) = on (first_breach s.kit.accepts st.watch (marks m)) refl
        where
          on : (o : Option Broken) → first_breach s.kit.accepts st.watch (marks m) ≡ o → Comes P (unless_broken o (saw s m st))
          on None k = stay P st (saw s m st) bad (faulty_after st.watch (marks m) ∙ same) (signed_after st.watch (marks m))
          on (Some b) k = none_signed P st bad b (marks_real (marks m) st.watch same b k)

  -- what one event turns a state into
  record IsNoted (e : EventValue) (st t : State) : Type 0 where
    faulty : t.watch.faulty ≡ s.faulty
    signed : t.watch.signed ≡ st.watch.signed ++ signed_in s e st

  abbrev Turns : EventValue → State → Result State Broken → Type 0
  Turns e st (Ok t) = IsNoted e st t
  Turns e st (Err b) = IsBreach s e st b

  event_comes : (e : EventValue) (st : State) → st.watch.faulty ≡ s.faulty → Comes (Turns e st) (happens s e st)
  event_comes e st same =
      events e st same (Turns e st)
      (λ frame h m b i k r. inl (record { frame = frame; given = h; message = m; read = i; breaks = k; real = r }))
      (record { bad = λ b r. inr r; good = λ t f k. record { faulty = f; signed = k } })

  -- ---- the run

  meets : (es : List EventValue) (st : State) (b : Broken) → st.watch.faulty ≡ s.faulty → run s es st ≡ Err b → MeetsBreach s st es b
  meets [] st b same h = absurd cc
  meets (e ∷ es) st b same h = by (happens s e st) refl (event_comes e st same) h (λ t f k. meets es t b f k)
    where
      goes : (t : State) → kept st (happens s e st) ≡ Ok t → t.watch.signed ≡ st.watch.signed
          ++ signed_if (happens s e st) (signed_in s e st) → MeetsBreach s t es b → MeetsBreach s st (e ∷ es) b
      goes t k d m =
          record {
            before = e ∷ m.before;
            event = m.event;
            after = m.after;
            parts = ap (λ l. e ∷ l) m.parts;
            st = m.st;
            reached = ap (λ (r : Result State Broken). r >>= run s m.before) k ∙ m.reached;
            noted =
                m.noted ∙ (ap (λ l. l ++ signed_along s m.before t) d
                ∙ (append_assoc st.watch.signed (signed_if (happens s e st) (signed_in s e st)) (signed_along s m.before t)
                ∙ ap (λ r. st.watch.signed ++ (signed_if (happens s e st) (signed_in s e st) ++ along r (signed_along s m.before)))
                (sym k)));
            broke = m.broke;
            real = m.real;
          }

      -- a refused event
      still : (r : Result State WorldFault) → happens s e st ≡ r → signed_if r (signed_in s e st) ≡ [] → st.watch.signed ≡ st.watch.signed
          ++ signed_if (happens s e st) (signed_in s e st)
      still r i n = sym (ap (λ l. st.watch.signed ++ l) (ap (λ x. signed_if x (signed_in s e st)) i ∙ n) ∙ append-nil st.watch.signed)

      by : (r : Result State WorldFault) → happens s e st ≡ r → Comes (Turns e st) r → (kept st r >>= run s es) ≡ Err b →
          ((t : State) → t.watch.faulty ≡ s.faulty → run s es t ≡ Err b → MeetsBreach s t es b) → MeetsBreach s st (e ∷ es) b
      by (Ok t) i f h rest =
          goes t (ap (kept st) i) (f.signed ∙ ap (λ x. st.watch.signed ++ signed_if x (signed_in s e st)) (sym i)) (rest t f.faulty h)
      by (Err (fault.Broken x)) i f h rest =
          let is : x ≡ b = cc in
          record {
            before = [];
            event = e;
            after = es;
            parts = refl;
            st = st;
            reached = refl;
            noted = sym (append-nil st.watch.signed);
            broke = i ∙ ap (λ (z : Broken). Err (fault.Broken z)) is;
            real = subst (IsBreach s e st) is f;
          }
      by (Err (fault.PoolFull messages bytes)) i f h rest = goes st (ap (kept st) i) (still _ i refl) (rest st same h)
      by (Err (fault.Call x)) i f h rest = goes st (ap (kept st) i) (still _ i refl) (rest st same h)
      by (Err (fault.Exhausted party)) i f h rest = goes st (ap (kept st) i) (still _ i refl) (rest st same h)

pub breaches_are_real : (s : Setup) (events : List EventValue) (b : Broken) → run s events (start s) ≡ Err b →
    MeetsBreach s (start s) events b
breaches_are_real s es b h = meets s es (start s) b refl h

-- ---- until there

are_first : (xs ys : List EventValue) → AreEvents (xs ++ ys) → AreEvents xs
are_first [] ys h = tt
are_first (x ∷ xs) ys h = (h.0, are_first xs ys h.1)

first_runs : (s : Setup) (xs ys : List EventValue) (st t : State) → run s (xs ++ ys) st ≡ Ok t → (u : State) × (run s xs st ≡ Ok u)
first_runs s [] ys st t h = (st, refl)
first_runs s (x ∷ xs) ys st t h =
    let b = between (kept st (happens s x st)) (run s (xs ++ ys)) t h in
    let rest = first_runs s xs ys b.start t b.second in
    (rest.0, ap (λ (r : Result State Broken). r >>= run s xs) b.first ∙ rest.1)

pub safe_until : RunsAreSafe → BreachesAreReal → RunsUpToABreachAreSafe
safe_until are_safe are_real s ok signs es b sized h =
    let m = are_real s es b h in
    record {
      meets = m;
      safe = λ first rest parts.
          let before = are_first m.before (m.event ∷ m.after) (subst AreEvents m.parts sized) in
          let got = first_runs s first rest (start s) m.st (ap (λ es. run s es (start s)) (sym parts) ∙ m.reached) in
          (got.0, got.1, are_safe s ok signs first got.0 (are_first first rest (subst AreEvents parts before)) got.1);
    }
