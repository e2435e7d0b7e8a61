-- Frames are seen, and enter the pool.
use Rattle.std.proofs.Common.{◌≡◌, ◌∙◌, ◌<◌, ◌≤◌, ℕ, ◌+◌, ◌-◌, Bool, true, false, cond, List, [], ◌∷◌, ◌++◌, length, map, refl, sym, ap}
use Rattle.std.proofs.Common.{subst, arith, inl, inr, ◌⊎◌, zero, suc}
use Rattle.std.specs.Result.{IsErrAnd}
use Rattle.std.specs.Prelude.{Contains, Option, Some, None, Result, Ok, Err, nat_le, slice_get, sum, ◌&&◌}
use Rattle.std.specs.Option.{option_map_or}
use Rattle.std.specs.Str.{bytes_eq}
use Rattle.std.proofs.lemmas.Bool.{le-leb}
use Rattle.std.proofs.lemmas.Bool.Decides.{leb_tells}
use Rattle.std.proofs.lemmas.List.{length-append}
use Rattle.std.proofs.lemmas.Option.{same_Some}
use Rattle.std.proofs.lemmas.List.Sums.{sum-map, sum_by-cons}
use Rattle.basil_types.proofs.KeyLaws.{bytes_tell}
use Rattle.basil_types.proofs.MemberLaws.{in_head, in_tail}
use Rattle.basil_types.specs.Steps.{◌>>=◌}
use Rattle.basil_types.specs.declared.outbox.Envelope.{Envelope}
use Rattle.basil_types.specs.declared.party.Party.{Party}
use Rattle.basil_types.specs.Words.{SignedWords, words_of}
use Rattle.frame_views.specs.declared.fault.BadFrame.{BadFrame}
use Rattle.frame_views.specs.Values.{MessageValue}
use Rattle.keyring.specs.declared.verifier.Verifier as verifiers
use Rattle.keyring.specs.declared.signer.Signer as signers
use Rattle.message_pool.specs.declared.pool.Room.{Room}
use Rattle.message_pool.specs.declared.posted.Posted.{Posted}
use Rattle.message_pool.specs.Posts.{PoolValue, pool_bytes}
use Rattle.node_steps.specs.Envelopes.{EnvelopeValue}
use Rattle.node_steps.specs.Framed.{framed}
use Rattle.node_steps.specs.Pendings.{bytes_sent}
use Rattle.premise_watch.specs.declared.broken.Broken.{Broken}
use Rattle.premise_watch.specs.declared.broken.WatchFault.{WatchFault}
use Rattle.premise_watch.specs.declared.broken.WatchFault.TheVariants as watches
use Rattle.basil_types.specs.Transaction.{TransactionValue}
use Rattle.premise_watch.specs.Breaches.{WatchValue, after_marks, first_breach, seen_text}
use Rattle.premise_watch.specs.Marks.{MarkValue, Signature, Text, marks}
use Rattle.cluster_nodes.specs.Handling.{fits}
use Rattle.cluster_run.specs.Parts.{mail_from}
use Rattle.cluster_run.specs.declared.fault.WorldFault.{WorldFault}
use Rattle.cluster_run.specs.declared.fault.WorldFault.TheVariants as worlds
use Rattle.cluster_run.specs.Parts.{Mail, mail_bytes, has_room, posted, read_frame, see, see_message, enter, enter_all, mail_of, noted, saw}
use Rattle.cluster_run.specs.Parts.{send, unless_broken}
use Rattle.cluster_run.specs.States.{Setup, State}
use Rattle.run_sight.specs.Sights.{BreaksByFrame, Ends, Looks, Notes, Sees, SeesFrame, SightValue, sight_of, taken_back}
use Rattle.cluster_world.specs.declared.engine.Engine.{Engine}
use Rattle.cluster_world.specs.declared.fault.StepFault.{StepFault}
use Rattle.cluster_world.specs.declared.fault.StepFault.TheVariants as faults
use Rattle.cluster_world.specs.Breaking.{step_fault}
use Rattle.cluster_world.specs.Comes.{Comes}
use Rattle.cluster_world.specs.Sending.{Goes, HasRoomFor, IsWithin, full_of, has_frame_at, mails, room_of}
use Rattle.sight_laws.specs.Seen.{IsSeenFrame, PoolIsSeen}
use Rattle.sight_laws.proofs.Growing.{enter_grows, grows_noted, see_grows}
use Rattle.sight_laws.proofs.Happening.{pool_seen}
use Rattle.cluster_world.specs.Shows.{Shows, Stands, limits_of}

-- ---- results

abbrev ok_or : {A E : Type 0} → A → Result A E → A
ok_or other (Ok x) = x
ok_or other (Err e) = other

pub same_Ok : (x y : State) (r : Result State WorldFault) → r ≡ Ok x → r ≡ Ok y → x ≡ y
same_Ok x y r a b = ap (ok_or x) (sym a ∙ b)

-- ---- seeing changes what is seen alone

abbrev pub with_seen : State → State → State
with_seen st after = record st { watch = after.watch; certified = after.certified }

seen_by : (s : Setup) (m : MessageValue) (st after : State) (breach : Option Broken) →
    unless_broken breach (saw s m st) ≡ Ok after → after ≡ with_seen st after
seen_by s m st after None h = subst (λ x. x ≡ with_seen st x) (same_Ok (saw s m st) after (Ok (saw s m st)) refl h) refl
seen_by s m st after (Some b) h = absurd cc

read_by : (s : Setup) (r : Result MessageValue BadFrame) (st after : State) → see_message s r st ≡ Ok after → after ≡ with_seen st after
read_by s (Ok m) st after h = seen_by s m st after (first_breach s.kit.accepts st.watch (marks m)) h
read_by s (Err e) st after h = subst (λ x. x ≡ with_seen st x) (same_Ok st after (Ok st) refl h) refl

pub see_only : (s : Setup) (frame : List ℕ) (st after : State) → see s frame st ≡ Ok after → after ≡ with_seen st after
see_only s frame st after h = read_by s (read_frame s frame) st after h

-- what was signed, and who is faulty, stays
marks_back : (w : WatchValue) (ms : List MarkValue) (ts : List TransactionValue) →
    record (after_marks w ms) { texts = ts } ≡ record w { texts = ts }
marks_back w [] ts = refl
marks_back w (Signature x ∷ ms) ts = marks_back w ms ts
marks_back w (Text t ∷ ms) ts = marks_back (seen_text w t) ms ts

abbrev back_in : State → State → WatchValue
back_in st after = record after.watch { texts = st.watch.texts }

back_by : (s : Setup) (m : MessageValue) (st after : State) (breach : Option Broken) →
    unless_broken breach (saw s m st) ≡ Ok after → back_in st after ≡ st.watch
back_by s m st after None h =
    subst (λ x. back_in st x ≡ st.watch) (same_Ok (saw s m st) after (Ok (saw s m st)) refl h)
    (marks_back st.watch (marks m) st.watch.texts)
back_by s m st after (Some b) h = absurd cc

back_read : (s : Setup) (r : Result MessageValue BadFrame) (st after : State) → see_message s r st ≡ Ok after →
    back_in st after ≡ st.watch
back_read s (Ok m) st after h = back_by s m st after (first_breach s.kit.accepts st.watch (marks m)) h
back_read s (Err e) st after h = subst (λ x. back_in st x ≡ st.watch) (same_Ok st after (Ok st) refl h) refl

pub see_back : (s : Setup) (frame : List ℕ) (st after : State) → see s frame st ≡ Ok after →
    taken_back (sight_of after) (sight_of st) ≡ sight_of st
see_back s frame st after h =
    ap (λ (w : WatchValue). record { watch = w; certified = st.certified }) (back_read s (read_frame s frame) st after h)

module _ {V S : Type 0} (v : verifiers.Ghosts V) (g : signers.Ghosts S) (s : Setup) where
  abbrev Sighted : Engine V S v g → Engine V S v g → Type 0
  Sighted old new = new ≡ record old { sight = new.sight }

  -- a world whose sight alone has changed
  pub stands_seen : (old new : Engine V S v g) (st after : State) (earlier : SightValue) → Sighted old new → after ≡ with_seen st after →
      Stands s old st → Sees v new.sight s (sight_of after) earlier → Stands s new after
  stands_seen old new st after earlier own only h sees =
      subst (λ c. Stands s c after) (sym own)
      (subst (λ x. Stands s (record old { sight = new.sight }) x) (sym only)
      (record {
        members = h.members;
        earlier = earlier;
        sight = sees;
        pens = h.pens;
        replicas = h.replicas;
        clients = h.clients;
        begun = h.begun;
        limits = h.limits;
        refused = h.refused;
      }))

  -- the messages don't matter
  pub stands_pool : (core : Engine V S v g) (st : State) (posts : List Posted) → Stands s core st →
      Stands s core (record st { pool = posts })
  stands_pool core st posts h =
      record {
        members = h.members;
        earlier = h.earlier;
        sight = h.sight;
        pens = h.pens;
        replicas = h.replicas;
        clients = h.clients;
        begun = h.begun;
        limits = h.limits;
        refused = h.refused;
      }

  -- another pool with the same limits
  pub stands_pooled : (old new : Engine V S v g) (st : State) → new ≡ record old { pool = new.pool } →
      new.pool.limits ≡ old.pool.limits → Stands s old st → Stands s new st
  stands_pooled old new st own same h =
      subst (λ c. Stands s c st) (sym own)
      (record {
        members = h.members;
        earlier = h.earlier;
        sight = h.sight;
        pens = h.pens;
        replicas = h.replicas;
        clients = h.clients;
        begun = h.begun;
        limits = same ∙ h.limits;
        refused = h.refused;
      })

  -- ---- a breach, or want of memory

  pub goes_comes : (before : State) (answer : Result State WorldFault) (core : Engine V S v g) (w : WatchFault) (e : StepFault) →
      Ends answer w → e ≡ step_fault w → Comes s before answer core (Err e)
  goes_comes before answer core w e h is = subst (λ x. Comes s before answer core (Err x)) (sym is) (by w h)
    where
      by : (w : WatchFault) → Ends answer w → Comes s before answer core (Err (step_fault w))
      by (watches.Broken b) h = h
      by watches.NoMemory h = tt

-- ---- what `?` answers

module _ {V S : Type 0} (v : verifiers.Ghosts V) (g : signers.Ghosts S) (s : Setup) (answer : Result State WorldFault)
    (core : Engine V S v g) where
  pub comes_err : (before : State) (r : Result (Unit {0}) StepFault) (w : WatchFault) → IsErrAnd r (λ x. x ≡ step_fault w) →
      Ends answer w → Comes s before answer core r
  comes_err before (Ok u) w h e = absurd h
  comes_err before (Err x) w h e = goes_comes v g s before answer core w x e h

  pub comes_wanting : (before : State) (r : Result (Unit {0}) StepFault) → IsErrAnd r (λ x. x ≡ faults.NoMemory) →
      Comes s before answer core r
  comes_wanting before (Ok u) h = absurd h
  comes_wanting before (Err x) h = subst (λ e. Comes s before answer core (Err e)) (sym h) tt

  pub goes_err : (r : Result (Unit {0}) WatchFault) (w : WatchFault) → IsErrAnd r (λ x. x ≡ w) → Ends answer w → Goes s answer core r
  goes_err (Ok u) w h e = absurd h
  goes_err (Err x) w h e = subst (λ y. Ends answer y) (sym h) e

  pub goes_wanting : (r : Result (Unit {0}) WatchFault) → IsErrAnd r (λ x. x ≡ watches.NoMemory) → Goes s answer core r
  goes_wanting (Ok u) h = absurd h
  goes_wanting (Err x) h = subst (λ y. Ends answer y) (sym h) tt

  -- what goes well comes so
  pub goes_on : (before : State) (u : Unit {0}) → Goes s answer core (Ok u) → Comes s before answer core (Ok u)
  goes_on before u h = h

-- ---- what enters

bind_end : (s : Setup) (r : Result State WorldFault) → r >>= enter_all s [] ≡ r
bind_end s (Ok st) = refl
bind_end s (Err e) = refl

abbrev with_posted : Mail → State → State
with_posted m st = record st { pool = st.pool ++ posted m ∷ [] }

pub one_enters : (s : Setup) (m : Mail) (st : State) (r : Result State WorldFault) → see s m.frame (with_posted m st) ≡ r →
    enter_all s (m ∷ []) st ≡ r
one_enters s m st r h = bind_end s (see s m.frame (with_posted m st)) ∙ h

pub next_enters : (s : Setup) (m : Mail) (rest : List Mail) (st : State) (r : Result State WorldFault) → enter_all s (m ∷ []) st ≡ r →
    enter_all s (m ∷ rest) st ≡ r >>= enter_all s rest
next_enters s m rest st r h = ap (λ x. x >>= enter_all s rest) (sym (bind_end s (see s m.frame (with_posted m st))) ∙ h)

pub ends_one : (s : Setup) (m : Mail) (st : State) (w : WatchFault) → Ends (see s m.frame (with_posted m st)) w →
    Ends (enter_all s (m ∷ []) st) w
ends_one s m st w h = subst (λ r. Ends r w) (sym (bind_end s (see s m.frame (with_posted m st)))) h

ends_bind : (s : Setup) (rest : List Mail) (r : Result State WorldFault) (w : WatchFault) → Ends r w → Ends (r >>= enter_all s rest) w
ends_bind s rest r (watches.Broken b) h = ap (λ x. x >>= enter_all s rest) h
ends_bind s rest r watches.NoMemory h = tt

pub ends_next : (s : Setup) (m : Mail) (rest : List Mail) (st : State) (w : WatchFault) → Ends (enter_all s (m ∷ []) st) w →
    Ends (enter_all s (m ∷ rest) st) w
ends_next s m rest st w h =
    subst (λ r. Ends r w) (sym (next_enters s m rest st (enter_all s (m ∷ []) st) refl))
    (ends_bind s rest (enter_all s (m ∷ []) st) w h)

-- ---- room

pub sum_cons : {A : Type 0} (f : A → ℕ) (x : A) (xs : List A) → sum (map f (x ∷ xs)) ≡ f x + sum (map f xs)
sum_cons f x xs = sum-map f (x ∷ xs) ∙ sum_by-cons f x xs ∙ ap (λ n. f x + n) (sym (sum-map f xs))

mails_count : (from : Party) (mail : List EnvelopeValue) → length (map (mail_of from) mail) ≡ length (map framed mail)
mails_count from [] = refl
mails_count from (e ∷ mail) = ap suc (mails_count from mail)

mails_bytes : (from : Party) (mail : List EnvelopeValue) → mail_bytes (map (mail_of from) mail) ≡ bytes_sent (map framed mail)
mails_bytes from [] = refl
mails_bytes from (e ∷ mail) =
    sum_cons (λ (m : Mail). length m.frame) (mail_of from e) (map (mail_of from) mail)
    ∙ ap (λ n. length (framed e).frame + n) (mails_bytes from mail)

pub mails_same : (from : Party) (mail : List EnvelopeValue) → map (mail_of from) mail ≡ mails from (map framed mail)
mails_same from [] = refl
mails_same from (e ∷ mail) = ap (λ l. mail_of from e ∷ l) (mails_same from mail)

leb_room : (n p m : ℕ) → p ≤ m → nat_le n (m - p) ≡ nat_le (p + n) m
leb_room n p m h = by (leb_tells n (m - p)) (leb_tells (p + n) m)
  where
    by : ((nat_le n (m - p) ≡ true) × (n ≤ m - p)) ⊎ ((nat_le n (m - p) ≡ false) × (m - p < n)) →
        ((nat_le (p + n) m ≡ true) × (p + n ≤ m)) ⊎ ((nat_le (p + n) m ≡ false) × (m < p + n)) → nat_le n (m - p) ≡ nat_le (p + n) m
    by (inl a) (inl b) = a.0 ∙ sym b.0
    by (inl a) (inr b) = let x = a.1 in let y = b.1 in absurd (omega arith)
    by (inr a) (inl b) = let x = a.1 in let y = b.1 in absurd (omega arith)
    by (inr a) (inr b) = a.0 ∙ sym b.0

-- as many messages, with as many bytes
pub record SameSize (a b : List Posted) : Type 0 where
  pub count : length a ≡ length b
  pub bytes : pool_bytes a ≡ pool_bytes b

pub same_size : (a b : List Posted) → a ≡ b → SameSize a b
same_size a b e = record { count = ap length e; bytes = ap pool_bytes e }

-- what fits the room of the pool is what the run has room for
pub fits_room : (s : Setup) (st : State) (pool : PoolValue) (from : Party) (mail : List EnvelopeValue) → IsWithin pool →
    SameSize pool.posts st.pool → pool.limits ≡ limits_of s → fits (room_of pool) mail ≡ has_room s st (map (mail_of from) mail)
fits_room s st pool from mail in_limits same limits =
    ap (λ (a : Bool). a && nat_le (bytes_sent (map framed mail)) (room_of pool).bytes)
    (leb_room (length (map framed mail)) (length pool.posts) pool.limits.messages in_limits.messages)
    ∙ ap (λ (b : Bool). nat_le (length pool.posts + length (map framed mail)) pool.limits.messages && b)
    (leb_room (bytes_sent (map framed mail)) (pool_bytes pool.posts) pool.limits.bytes in_limits.bytes)
    ∙ ap (λ (l : Room). nat_le (length pool.posts + length (map framed mail)) l.messages
    && nat_le (pool_bytes pool.posts + bytes_sent (map framed mail)) l.bytes) limits
    ∙ ap (λ (n : ℕ). nat_le (n + length (map framed mail)) s.messages
    && nat_le (pool_bytes pool.posts + bytes_sent (map framed mail)) s.bytes) same.count
    ∙ ap (λ (n : ℕ). nat_le (length st.pool + length (map framed mail)) s.messages && nat_le (n + bytes_sent (map framed mail)) s.bytes)
    same.bytes
    ∙ ap (λ (n : ℕ). nat_le (length st.pool + n) s.messages && nat_le (pool_bytes st.pool + bytes_sent (map framed mail)) s.bytes)
    (sym (mails_count from mail))
    ∙ ap (λ (n : ℕ). nat_le (length st.pool + length (map (mail_of from) mail)) s.messages && nat_le (pool_bytes st.pool + n) s.bytes)
    (sym (mails_bytes from mail))

-- where there is room the messages enter
pub enters_by : (s : Setup) (st : State) (mail : List Mail) → has_room s st mail ≡ true → enter s mail st ≡ enter_all s mail st
enters_by s st mail h =
    ap (λ (b : Bool). cond b (enter_all s mail st) (Err (worlds.PoolFull (length st.pool) (pool_bytes st.pool)))) h

pub full_by : (s : Setup) (st : State) (mail : List Mail) → has_room s st mail ≡ false →
    enter s mail st ≡ Err (worlds.PoolFull (length st.pool) (pool_bytes st.pool))
full_by s st mail h =
    ap (λ (b : Bool). cond b (enter_all s mail st) (Err (worlds.PoolFull (length st.pool) (pool_bytes st.pool)))) h

-- the pool has room for messages that a run has room for
mails_room : (s : Setup) (st : State) (from : Party) (messages : List Envelope) →
    length st.pool + length messages ≤ s.messages → pool_bytes st.pool + bytes_sent messages ≤ s.bytes →
    has_room s st (mails from messages) ≡ true
mails_room s st from messages few small =
    ap (λ (b : Bool). b && nat_le (pool_bytes st.pool + mail_bytes (mails from messages)) s.bytes)
    (le-leb (length st.pool + length (mails from messages)) s.messages
    (subst (λ n. length st.pool + n ≤ s.messages) (sym (count messages)) few))
    ∙ le-leb (pool_bytes st.pool + mail_bytes (mails from messages)) s.bytes
    (subst (λ n. pool_bytes st.pool + n ≤ s.bytes) (sym (size messages)) small)
  where
    count : (ms : List Envelope) → length (mails from ms) ≡ length ms
    count [] = refl
    count (m ∷ ms) = ap suc (count ms)

    size : (ms : List Envelope) → mail_bytes (mails from ms) ≡ bytes_sent ms
    size [] = refl
    size (m ∷ ms) =
        sum_cons (λ (x : Mail). length x.frame) (mail_from from m) (mails from ms) ∙ ap (λ n. length m.frame + n) (size ms)

pub room_by : (s : Setup) (st : State) (pool : PoolValue) (from : Party) (messages : List Envelope) → pool.posts ≡ st.pool →
    pool.limits ≡ limits_of s → HasRoomFor pool messages → has_room s st (mails from messages) ≡ true
room_by s st pool from messages posts limits has =
    mails_room s st from messages
    (subst (λ (l : Room). length st.pool + length messages ≤ l.messages) limits
    (subst (λ (q : List Posted). length q + length messages ≤ pool.limits.messages) posts has.few))
    (subst (λ (l : Room). pool_bytes st.pool + bytes_sent messages ≤ l.bytes) limits
    (subst (λ (q : List Posted). pool_bytes q + bytes_sent messages ≤ pool.limits.bytes) posts has.small))

-- ---- a frame that was seen

in_got : {X : Type 0} (xs : List X) (n : ℕ) (y : X) → slice_get xs n ≡ Some y → Contains xs y
in_got [] n y h = absurd cc
in_got (x ∷ xs) zero y h = subst (Contains (x ∷ xs)) (same_Some x y h) (in_head x xs)
in_got (x ∷ xs) (suc n) y h = in_tail x xs y (in_got xs n y h)

-- a message that has this frame is one of the pool
own_frame : (posts : List Posted) (message : ℕ) (frame : List ℕ) →
    has_frame_at posts message frame ≡ true →
    (p : Posted) × Contains posts p × (p.frame ≡ frame)
own_frame posts message frame h = by (nat_le 1 message) h
  where
    at : (o : Option Posted) → slice_get posts (message - 1) ≡ o → option_map_or (λ (p : Posted). bytes_eq p.frame frame) o false ≡ true →
        (p : Posted) × Contains posts p × (p.frame ≡ frame)
    at None e k = absurd cc
    at (Some p) e k = (p, in_got posts (message - 1) p e, bytes_tell p.frame frame k)

    by : (b : Bool) → option_map_or (λ (p : Posted). bytes_eq p.frame frame) (cond b (slice_get posts (message - 1)) None) false ≡ true →
        (p : Posted) × Contains posts p × (p.frame ≡ frame)
    by true k = at (slice_get posts (message - 1)) refl k
    by false k = absurd cc

-- so it was seen
pub seen_own : (s : Setup) (st : State) (posts : List Posted) (message : ℕ) (frame : List ℕ) → posts ≡ st.pool → PoolIsSeen s st →
    has_frame_at posts message frame ≡ true →
    IsSeenFrame s st.watch st.certified frame
seen_own s st posts message frame same seen h =
    let p = own_frame posts message frame h in
    subst (λ f. IsSeenFrame s st.watch st.certified f) p.2 (seen p.0 (subst (λ q. Contains q p.0) same p.1))

-- ---- a frame is shown

module _ {V S : Type 0} (v : verifiers.Ghosts V) (g : signers.Ghosts S) (s : Setup) (old new : Engine V S v g) (st : State) where
  pub shown : (frame : List ℕ) → new ≡ record old { sight = new.sight } → SeesFrame v old.sight new.sight frame → Shows s old st →
      Comes s st (see s frame st) new (Ok tt)
  shown frame own sees h =
      let k = sees s st h.stands.earlier h.stands.sight in (
        k.0,
        k.1,
        record {
          stands = stands_seen v g s old new st k.0 (sight_of st) own (see_only s frame st k.0 k.1) h.stands k.2;
          posts = ap (λ (c : Engine V S v g). c.pool.posts) own ∙ h.posts ∙ sym (ap (λ (x : State). x.pool) (see_only s frame st k.0 k.1));
          seen = pool_seen s st k.0 (see_grows s frame st k.0 k.1) h.seen;
        },
      )

  pub not_shown : (frame : List ℕ) (r : Result (Unit {0}) StepFault) (w : WatchFault) → IsErrAnd r (λ x. x ≡ step_fault w) →
      BreaksByFrame v old.sight frame w → Shows s old st → Comes s st (see s frame st) new r
  not_shown frame r w h breaks k =
      comes_err v g s (see s frame st) new st r w h (breaks s st k.stands.earlier k.stands.sight)

  -- a message is seen, and enters
  pub not_entered : (m : Mail) (r : Result (Unit {0}) WatchFault) (w : WatchFault) → IsErrAnd r (λ x. x ≡ w) →
      BreaksByFrame v old.sight m.frame w → Shows s old st → Goes s (enter_all s (m ∷ []) st) new r
  not_entered m r w h breaks k =
      goes_err v g s (enter_all s (m ∷ []) st) new r w h
      (ends_one s m st w (breaks s (with_posted m st) k.stands.earlier k.stands.sight))

  pub entered : (m : Mail) (mid : Engine V S v g) (message : ℕ) (was_seen : Bool) → mid ≡ record old { sight = mid.sight } →
      new ≡ record mid { pool = new.pool } → new.pool.limits ≡ mid.pool.limits → new.pool.posts ≡ mid.pool.posts ++ posted m ∷ [] →
      was_seen ≡ has_frame_at old.pool.posts message m.frame → Looks v old.sight mid.sight m.frame was_seen → Shows s old st →
      Goes s (enter_all s (m ∷ []) st) new (Ok tt)
  entered m mid message was_seen own_mid own limits grown own_is looks h =
      let now = with_posted m st in
      let k = looks s now h.stands.earlier h.stands.sight
      (λ e. seen_own s st old.pool.posts message m.frame h.posts h.seen (sym own_is ∙ e)) in
      let only = see_only s m.frame now k.0 k.1 in (
        k.0,
        one_enters s m st (Ok k.0) k.1,
        record {
          stands = stands_pooled v g s mid new k.0 own limits
              (stands_seen v g s old mid now k.0 (sight_of now) own_mid only (stands_pool v g s old st now.pool h.stands) k.2);
          posts = grown
              ∙ ap (λ (c : Engine V S v g). c.pool.posts ++ posted m ∷ []) own_mid
              ∙ ap (λ q. q ++ posted m ∷ []) h.posts
              ∙ sym (ap (λ (x : State). x.pool) only);
          seen = pool_seen s st k.0 (enter_grows s m st k.0 k.1) h.seen;
        },
      )

-- ---- messages enter one after the other

module _ {V S : Type 0} (v : verifiers.Ghosts V) (g : signers.Ghosts S) (s : Setup) (from : Party) where
  -- the first messages have entered
  pub record Along (all rest : List Envelope) (st : State) (core : Engine V S v g) : Type 0 where
    pub now : State
    pub same : enter_all s (mails from all) st ≡ enter_all s (mails from rest) now
    pub shows : Shows s core now

  pub along_next : (all rest : List Envelope) (m : Envelope) (st : State) (core next : Engine V S v g) →
      (a : Along all (m ∷ rest) st core) → Goes s (enter_all s (mail_from from m ∷ []) a.now) next (Ok tt) → Along all rest st next
  along_next all rest m st core next a one =
      record {
        now = one.0;
        same = a.same ∙ next_enters s (mail_from from m) (mails from rest) a.now (Ok one.0) one.1;
        shows = one.2;
      }

  pub along_breaks : (all rest : List Envelope) (m : Envelope) (st : State) (core next : Engine V S v g)
      (r : Result (Unit {0}) WatchFault) (w : WatchFault) → IsErrAnd r (λ x. x ≡ w) → (a : Along all (m ∷ rest) st core) →
      Ends (enter_all s (mail_from from m ∷ []) a.now) w → Goes s (enter_all s (mails from all) st) next r
  along_breaks all rest m st core next r w h a ends =
      goes_err v g s (enter_all s (mails from all) st) next r w h
      (subst (λ x. Ends x w) (sym a.same) (ends_next s (mail_from from m) (mails from rest) a.now w ends))

  pub along_end : (all : List Envelope) (st : State) (core : Engine V S v g) → Along all [] st core →
      Goes s (enter_all s (mails from all) st) core (Ok tt)
  along_end all st core a = (a.now, a.same, a.shows)

-- room for the next message, and for the others behind it
pub room_next : (pool : PoolValue) (m : Envelope) (rest : List Envelope) → HasRoomFor pool (m ∷ rest) →
    (length pool.posts + 1 ≤ pool.limits.messages) × (pool_bytes pool.posts + length m.frame ≤ pool.limits.bytes)
room_next pool m rest h =
    let few : length pool.posts + length (m ∷ rest) ≤ pool.limits.messages = h.few in
    let small : pool_bytes pool.posts + (length m.frame + bytes_sent rest) ≤ pool.limits.bytes = h.small in
    (omega arith, omega arith)

bytes_push : (posts : List Posted) (p : Posted) → pool_bytes (posts ++ p ∷ []) ≡ pool_bytes posts + length p.frame
bytes_push [] p = sum_cons (λ (x : Posted). length x.frame) p [] ∙ omega arith
bytes_push (q ∷ posts) p =
    let h = bytes_push posts p in
    let a = sum_cons (λ (x : Posted). length x.frame) q (posts ++ p ∷ []) in
    let b = sum_cons (λ (x : Posted). length x.frame) q posts in
    omega (arith, h, a, b)

count_push : (posts : List Posted) (p : Posted) → length (posts ++ p ∷ []) ≡ length posts + 1
count_push posts p = length-append posts (p ∷ [])

pub room_behind : (pool next : PoolValue) (p : Posted) (m : Envelope) (rest : List Envelope) → next.posts ≡ pool.posts ++ p ∷ [] →
    length p.frame ≡ length m.frame → next.limits ≡ pool.limits → HasRoomFor pool (m ∷ rest) → HasRoomFor next rest
room_behind pool next p m rest grown size same h =
    let few : length pool.posts + length (m ∷ rest) ≤ pool.limits.messages = h.few in
    let small : pool_bytes pool.posts + (length m.frame + bytes_sent rest) ≤ pool.limits.bytes = h.small in
    let c : length next.posts ≡ length pool.posts + 1 = ap length grown ∙ count_push pool.posts p in
    let b : pool_bytes next.posts ≡ pool_bytes pool.posts + length p.frame = ap pool_bytes grown ∙ bytes_push pool.posts p in
    record {
      few = subst (λ (l : Room). length next.posts + length rest ≤ l.messages) (sym same) (omega arith);
      small = subst (λ (l : Room). pool_bytes next.posts + bytes_sent rest ≤ l.bytes) (sym same) (omega arith);
    }

-- ---- a party sends

module _ {V S : Type 0} (v : verifiers.Ghosts V) (g : signers.Ghosts S) (s : Setup) (old mid new : Engine V S v g) (st : State) where
  pub noted_shows : (from : Party) (said : List SignedWords) (words : List (List ℕ)) → mid ≡ record old { sight = mid.sight } →
      Notes v old.sight mid.sight from words → map words_of said ≡ words → Shows s old st →
      Shows s mid (record st { watch = noted from said st.watch })
  noted_shows from said words own notes same h =
      record {
        stands = subst (λ c. Stands s c (record st { watch = noted from said st.watch })) (sym own)
            (record {
              members = h.stands.members;
              earlier = h.stands.earlier;
              sight = notes s (sight_of st) h.stands.earlier said same h.stands.sight;
              pens = h.stands.pens;
              replicas = h.stands.replicas;
              clients = h.stands.clients;
              begun = h.stands.begun;
              limits = h.stands.limits;
              refused = h.stands.refused;
            });
        posts = ap (λ (c : Engine V S v g). c.pool.posts) own ∙ h.posts;
        seen = pool_seen s st (record st { watch = noted from said st.watch }) (grows_noted s st from said) h.seen;
      }

  pub sends_so : (from : Party) (said : List SignedWords) (mail : List EnvelopeValue) (messages : List Envelope)
      (r : Result (Unit {0}) WatchFault) → messages ≡ map framed mail → HasRoomFor old.pool messages → Shows s old st →
      Goes s (enter_all s (mails from messages) (record st { watch = noted from said st.watch })) new r →
      Goes s (send s from said mail st) new r
  sends_so from said mail messages r same room h go =
      let now : State = record st { watch = noted from said st.watch } in
      subst (λ x. Goes s x new r)
      (sym (enters_by s now (mails from messages) (room_by s now old.pool from messages h.posts h.stands.limits room))
      ∙ ap (λ l. enter s (mails from l) now) same
      ∙ ap (λ l. enter s l now) (sym (mails_same from mail)))
      go

-- ---- what is left of a pool

pub record Leaves (pool : PoolValue) (room : Room) : Type 0 where
  pub messages : room.messages + length pool.posts ≡ pool.limits.messages
  pub bytes : room.bytes + pool_bytes pool.posts ≡ pool.limits.bytes

pub within_limits : (pool : PoolValue) (room : Room) → Leaves pool room → IsWithin pool
within_limits pool room h =
    let a : room.messages + length pool.posts ≡ pool.limits.messages = h.messages in
    let b : room.bytes + pool_bytes pool.posts ≡ pool.limits.bytes = h.bytes in
    record { messages = omega arith; bytes = omega arith }

leb_left : (n r p m : ℕ) → r + p ≡ m → nat_le n r ≡ nat_le (p + n) m
leb_left n r p m h = by (leb_tells n r) (leb_tells (p + n) m)
  where
    by : ((nat_le n r ≡ true) × (n ≤ r)) ⊎ ((nat_le n r ≡ false) × (r < n)) →
        ((nat_le (p + n) m ≡ true) × (p + n ≤ m)) ⊎ ((nat_le (p + n) m ≡ false) × (m < p + n)) → nat_le n r ≡ nat_le (p + n) m
    by (inl a) (inl b) = a.0 ∙ sym b.0
    by (inl a) (inr b) = let x = a.1 in let y = b.1 in absurd (omega arith)
    by (inr a) (inl b) = let x = a.1 in let y = b.1 in absurd (omega arith)
    by (inr a) (inr b) = a.0 ∙ sym b.0

module _ {V S : Type 0} (v : verifiers.Ghosts V) (g : signers.Ghosts S) (s : Setup) (core : Engine V S v g) (st : State) (m : Mail)
    (frame : List ℕ) (room : Room) (leaves : Leaves core.pool room) (same : frame ≡ m.frame) (h : Shows s core st) where
  one_size : mail_bytes (m ∷ []) ≡ length m.frame
  one_size = sum_cons (λ (x : Mail). length x.frame) m [] ∙ omega arith

  -- there is room for one message exactly where the run has room for it
  pub one_room : (nat_le 1 room.messages && nat_le (length frame) room.bytes) ≡ has_room s st (m ∷ [])
  one_room =
      ap (λ (a : Bool). a && nat_le (length frame) room.bytes)
      (leb_left 1 room.messages (length core.pool.posts) core.pool.limits.messages leaves.messages)
      ∙ ap (λ (b : Bool). nat_le (length core.pool.posts + 1) core.pool.limits.messages && b)
      (leb_left (length frame) room.bytes (pool_bytes core.pool.posts) core.pool.limits.bytes leaves.bytes)
      ∙ ap (λ (l : Room). nat_le (length core.pool.posts + 1) l.messages && nat_le (pool_bytes core.pool.posts + length frame) l.bytes)
      h.stands.limits
      ∙ ap (λ (q : List Posted). nat_le (length q + 1) s.messages && nat_le (pool_bytes q + length frame) s.bytes) h.posts
      ∙ ap (λ (f : List ℕ). nat_le (length st.pool + 1) s.messages && nat_le (pool_bytes st.pool + length f) s.bytes) same
      ∙ ap (λ (n : ℕ). nat_le (length st.pool + 1) s.messages && nat_le (pool_bytes st.pool + n) s.bytes) (sym one_size)

  pub enter_full : false ≡ (nat_le 1 room.messages && nat_le (length frame) room.bytes) → (e : StepFault) → e ≡ full_of core.pool →
      Comes s st (enter s (m ∷ []) st) core (Err e)
  enter_full lacks e is =
      subst (λ x. Comes s st (enter s (m ∷ []) st) core (Err x)) (sym is) (
        full_by s st (m ∷ []) (sym one_room ∙ sym lacks)
            ∙ ap (λ q. Err (worlds.PoolFull (length q) (pool_bytes q))) (sym h.posts),
        h,
      )

  enter_is : true ≡ (nat_le 1 room.messages && nat_le (length frame) room.bytes) → enter s (m ∷ []) st ≡ enter_all s (m ∷ []) st
  enter_is has = enters_by s st (m ∷ []) (sym one_room ∙ sym has)

  pub enter_goes : true ≡ (nat_le 1 room.messages && nat_le (length frame) room.bytes) → (new : Engine V S v g) →
      Goes s (enter_all s (m ∷ []) st) new (Ok tt) → Comes s st (enter s (m ∷ []) st) new (Ok tt)
  enter_goes has new go = (go.0, enter_is has ∙ go.1, go.2)

  pub enter_ends : true ≡ (nat_le 1 room.messages && nat_le (length frame) room.bytes) → (new : Engine V S v g)
      (r : Result (Unit {0}) StepFault) (w : WatchFault) → IsErrAnd r (λ x. x ≡ step_fault w) → Ends (enter_all s (m ∷ []) st) w →
      Comes s st (enter s (m ∷ []) st) new r
  enter_ends has new r w e ends =
      comes_err v g s (enter s (m ∷ []) st) new st r w e (subst (λ x. Ends x w) (sym (enter_is has)) ends)
