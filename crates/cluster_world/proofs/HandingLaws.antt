-- A frame is seen, and its receiver takes it.
use Rattle.std.proofs.Common.{◌≡◌, ◌∙◌, ◌≤◌, ℕ, zero, suc, ◌+◌, ◌-◌, Bool, true, false, cond, List, [], ◌∷◌, length, refl, sym}
use Rattle.std.proofs.Common.{ap, subst}
use Rattle.std.proofs.lemmas.Bool.{le-leb, lt-ltb}
use Rattle.std.proofs.lemmas.Option.{same_Some}
use Rattle.std.specs.Result.{IsErrAnd}
use Rattle.std.specs.Prelude.{◌&&◌, ◌||◌, not, Option, Some, None, Result, Ok, Err, is_some, option_map, slice_get, slice_set}
use Rattle.std.specs.Option.{option_map_or}
use Rattle.basil_types.specs.declared.party.Party.{Party}
use Rattle.basil_types.specs.Steps.{◌>>=◌}
use Rattle.keyring.specs.declared.verifier.Verifier as verifiers
use Rattle.keyring.specs.declared.signer.Signer as signers
use Rattle.message_pool.specs.declared.posted.Fate.{Fate}
use Rattle.message_pool.specs.declared.posted.Posted.{Posted}
use Rattle.message_pool.specs.Posts.{PoolValue, pool_bytes, posted_at}
use Rattle.basil_types.specs.declared.outbox.Outbox.{Outbox}
use Rattle.basil_types.specs.Texts.{IsBytes}
use Rattle.basil_types.specs.Words.{SignedWords}
use Rattle.node_steps.specs.Holding.{Holds}
use Rattle.node_steps.specs.Envelopes.{EnvelopeValue}
use Rattle.cluster_run.specs.declared.fault.WorldFault.{WorldFault}
use Rattle.cluster_run.specs.declared.fault.WorldFault.TheVariants as worlds
use Rattle.cluster_run.specs.Parts.{are_bytes, handle, handle_by, hand, see, send}
use Rattle.cluster_run.specs.States.{Delivered, Setup, State, is_faulty}
use Rattle.node_steps.specs.Pendings.{bytes_sent}
use Rattle.premise_watch.specs.declared.broken.WatchFault.{WatchFault}
use Rattle.premise_watch.specs.declared.broken.WatchFault.TheVariants as watches
use Rattle.run_sight.specs.Sights.{Sees, Ends, sight_of, taken_back}
use Rattle.cluster_world.specs.Breaking.{step_fault}
use Rattle.cluster_run.specs.Events as events
use Rattle.cluster_run.specs.Events.{happens, lost, marked}
use Rattle.cluster_world.specs.Comes.{Comes}
use Rattle.cluster_world.specs.declared.engine.Engine.{Engine}
use Rattle.cluster_world.specs.declared.fault.StepFault.{StepFault}
use Rattle.cluster_world.specs.declared.fault.StepFault.TheVariants as faults
use Rattle.cluster_world.specs.declared.taking.Took.{Took}
use Rattle.cluster_world.specs.declared.taking.Took.TheVariants as tooks
use Rattle.cluster_world.specs.Handing.{Hands, handling}
use Rattle.cluster_world.specs.Sending.{Goes, has_frame_at}
use Rattle.cluster_world.specs.Shows.{Shows, Stands}
use Rattle.sight_laws.specs.Seen.{IsSeenFrame, PoolIsSeen}
use Rattle.sight_laws.proofs.Growing.{see_grows, still}
use Rattle.sight_laws.proofs.Happening.{marked_grows, pool_seen}
use Rattle.cluster_world.specs.Taking.{Handles, IsTaken, Sends, Takes}
use Rattle.cluster_world.proofs.SendingLaws.{SameSize, same_size, seen_own, sum_cons, see_back, see_only, stands_pool, stands_pooled}
use Rattle.cluster_world.proofs.CallLaws.{send_full}

-- the fault that is told
abbrev world_of : StepFault → WorldFault
world_of (faults.World f) = f
world_of faults.NoMemory = worlds.PoolFull 0 0

module _ {V S : Type 0} (v : verifiers.Ghosts V) (g : signers.Ghosts S) (s : Setup) where
  module _ (old mid new : Engine V S v g) (st seen : State) (pool : PoolValue) (from to : Party) (frame : List ℕ)
      (saw : see s frame st ≡ Ok seen) where
    pub handed : (took : Took) → Takes s seen pool (handling s from to frame) new (Ok took) →
        Hands s st pool from to frame new (Ok took)
    handed took t = (seen, saw, t)

    -- the sight alone is taken back
    undone : new ≡ record mid { sight = new.sight } → Stands s mid seen →
        Sees v new.sight s (taken_back (sight_of seen) (sight_of st)) (sight_of st) → Stands s new st
    undone own h sees =
        let k = subst (λ x. Stands s mid x) (see_only s frame st seen saw) h in
        subst (λ c. Stands s c st) (sym own)
        (record {
          members = k.members;
          earlier = sight_of st;
          sight = subst (λ x. Sees v new.sight s x (sight_of st)) (see_back s frame st seen saw) sees;
          pens = k.pens;
          replicas = k.replicas;
          clients = k.clients;
          begun = k.begun;
          limits = k.limits;
          refused = k.refused;
        })

    -- where there is no room, all is as it was
    pub not_handed : (fault : StepFault) → new ≡ record mid { sight = new.sight } →
        Takes s seen pool (handling s from to frame) mid (Err fault) →
        Sees v new.sight s (taken_back (sight_of seen) (sight_of st)) (sight_of st) → Hands s st pool from to frame new (Err fault)
    not_handed (faults.World (worlds.Broken b)) own t sees = absurd cc
    not_handed (faults.World (worlds.PoolFull messages bytes)) own t sees = (t.0, t.1, seen, saw, t.2, t.3, undone own t.4 sees)
    not_handed (faults.World (worlds.Call f)) own t sees = absurd cc
    not_handed (faults.World (worlds.Exhausted p)) own t sees = absurd cc
    not_handed faults.NoMemory own t sees = tt

-- a breach, or want of memory, at the sight
pub not_seen : {V S : Type 0} (v : verifiers.Ghosts V) (g : signers.Ghosts S) (s : Setup) (st : State) (pool : PoolValue)
    (from to : Party) (frame : List ℕ) (core : Engine V S v g) (w : WatchFault) (e : StepFault) → Ends (see s frame st) w →
    e ≡ step_fault w → Hands s st pool from to frame core (Err e)
not_seen v g s st pool from to frame core w e h is = subst (λ x. Hands s st pool from to frame core (Err x)) (sym is) (by w h)
  where
    by : (w : WatchFault) → Ends (see s frame st) w → Hands s st pool from to frame core (Err (step_fault w))
    by (watches.Broken b) h = h
    by watches.NoMemory h = tt

-- ---- marks

-- a message with another fate has the size that it had
pub marked_size : (posts : List Posted) (place : ℕ) (p : Posted) (fate : Fate) → slice_get posts place ≡ Some p →
    SameSize posts (slice_set posts place (record p { fate = fate }))
marked_size [] place p fate e = absurd cc
marked_size (q ∷ qs) zero p fate e =
    let same : q ≡ p = same_Some q p e in
    record {
      count = refl;
      bytes = sum_cons (λ (x : Posted). length x.frame) q qs
          ∙ ap (λ (x : Posted). length x.frame + pool_bytes qs) same
          ∙ sym (sum_cons (λ (x : Posted). length x.frame) (record p { fate = fate }) qs);
    }
marked_size (q ∷ qs) (suc place) p fate e =
    let h = marked_size qs place p fate e in
    record {
      count = ap suc h.count;
      bytes = sum_cons (λ (x : Posted). length x.frame) q qs
          ∙ ap (λ n. length q.frame + n) h.bytes
          ∙ sym (sum_cons (λ (x : Posted). length x.frame) q (slice_set qs place (record p { fate = fate })));
    }

pub taken_marked : (pool : PoolValue) (posts : List Posted) (took : Took) → SameSize pool.posts posts → IsTaken pool took →
    IsTaken (record pool { posts = posts }) took
taken_marked pool posts tooks.Nothing same t = tt
taken_marked pool posts tooks.Refused same t = tt
taken_marked pool posts (tooks.Sent party out) same t =
    record {
      few = subst (λ n. n + length out.messages.items ≤ pool.limits.messages) same.count t.few;
      small = subst (λ n. n + bytes_sent out.messages.items ≤ pool.limits.bytes) same.bytes t.small;
    }

-- ---- the receiver takes a frame

bytes_from : (xs : List ℕ) → IsBytes xs → are_bytes xs ≡ true
bytes_from [] h = refl
bytes_from (x ∷ xs) h = ap (λ b. b && are_bytes xs) (lt-ltb x 256 (h 0)) ∙ bytes_from xs (λ i. h (suc i))

pub handle_faulty : (s : Setup) (number : ℕ) (from to : Party) (frame : List ℕ) (st : State) → is_faulty s to ≡ true →
    handle s number from to frame st ≡ Ok st
handle_faulty s number from to frame st e =
    ap (λ b. cond (b || not (are_bytes frame)) (Ok st) (handle_by s number from to frame st)) e

pub handle_right : (s : Setup) (number : ℕ) (from to : Party) (frame : List ℕ) (st : State) → is_faulty s to ≡ false → IsBytes frame →
    handle s number from to frame st ≡ handle_by s number from to frame st
handle_right s number from to frame st e bytes =
    ap (λ b. cond (b || not (are_bytes frame)) (Ok st) (handle_by s number from to frame st)) e
    ∙ ap (λ b. cond (not b) (Ok st) (handle_by s number from to frame st)) (bytes_from frame bytes)

module _ {V S : Type 0} (v : verifiers.Ghosts V) (g : signers.Ghosts S) (s : Setup) (st : State) (pool : PoolValue)
    (handles other : Handles) (e : (number : ℕ) → handles number st ≡ other number st) where
  abbrev sends_same : Sends s other st → Sends s handles st
  sends_same a =
      record {
        party = a.party;
        said = a.said;
        mail = a.mail;
        after = a.after;
        same = a.same;
        watched = a.watched;
        certified = a.certified;
        is = λ number. e number ∙ a.is number;
      }

  -- what is handled alike is taken alike
  pub takes_same : (core : Engine V S v g) (r : Result Took StepFault) → Takes s st pool other core r → Takes s st pool handles core r
  takes_same core (Ok tooks.Nothing) t = (λ number. e number ∙ t.0 number, t.1)
  takes_same core (Ok tooks.Refused) t = (λ number. e number ∙ t.0 number, t.1)
  takes_same core (Ok (tooks.Sent party out)) t = (sends_same t.0, t.1, t.2, t.3, t.4)
  takes_same core (Err (faults.World f)) t = (t.0, t.1, sends_same t.2, t.3, t.4)
  takes_same core (Err faults.NoMemory) t = tt

pub not_seen_err : {V S : Type 0} (v : verifiers.Ghosts V) (g : signers.Ghosts S) (s : Setup) (st : State) (pool : PoolValue)
    (from to : Party) (frame : List ℕ) (core : Engine V S v g) (r : Result Took StepFault) (w : WatchFault) →
    IsErrAnd r (λ x. x ≡ step_fault w) → Ends (see s frame st) w → Hands s st pool from to frame core r
not_seen_err v g s st pool from to frame core (Ok x) w h e = absurd h
not_seen_err v g s st pool from to frame core (Err x) w h e = not_seen v g s st pool from to frame core w x e h

-- ---- the receiver reacts

module _ {V S : Type 0} (v : verifiers.Ghosts V) (g : signers.Ghosts S) (s : Setup) (st : State) (pool : PoolValue) (handles : Handles)
    (message : ℕ) where
  pub reacts_nothing : (core : Engine V S v g) → core.pool.posts ≡ st.pool → PoolIsSeen s st →
      Takes s st pool handles core (Ok tooks.Nothing) →
      (after : State) × (handles message st ≡ Ok after) × Shows s core after
  reacts_nothing core posts seen t = (st, t.0 message, record { stands = t.1; posts = posts; seen = seen })

  pub reacts_refused : (old new : Engine V S v g) → new ≡ record old { refused = Some message } → old.pool.posts ≡ st.pool →
      PoolIsSeen s st → Takes s st pool handles old (Ok tooks.Refused) →
      (after : State) × (handles message st ≡ Ok after) × Shows s new after
  reacts_refused old new own posts seen t =
      let h = t.1 in (
        record st { refused = Some message },
        t.0 message,
        subst (λ c. Shows s c (record st { refused = Some message })) (sym own)
            (record {
              stands = record {
                members = h.members;
                earlier = h.earlier;
                sight = h.sight;
                pens = h.pens;
                replicas = h.replicas;
                clients = h.clients;
                begun = h.begun;
                limits = h.limits;
                refused = refl;
              };
              posts = posts;
              seen = seen;
            }),
      )

  pub reacts_sent : (old new : Engine V S v g) (party : Party) (out : Outbox) (r : Result (Unit {0}) WatchFault) →
      old.pool.posts ≡ st.pool → PoolIsSeen s st → Takes s st pool handles old (Ok (tooks.Sent party out)) →
      ((now : State) (said : List SignedWords) (mail : List EnvelopeValue) → Shows s old now → Holds out mail said →
      Goes s (send s party said mail now) new r) → Goes s (handles message st) new r
  reacts_sent old new party out r posts seen t go =
      let a = t.0 in
      let still_seen = pool_seen s st a.after (still s st a.after a.watched a.certified a.same) seen in
      subst (λ x. Goes s x new r) (sym (a.is message ∙ ap (λ p. send s p a.said a.mail a.after) (sym t.1)))
      (go a.after a.said a.mail (record { stands = t.4; posts = posts ∙ sym a.same; seen = still_seen }) t.3)

-- ---- a message is delivered

parted : (o : Option Posted) (a b : Party) → option_map {U = Party × Party} (λ (p : Posted). (p.from, p.to)) o ≡ Some (a, b) →
    (p : Posted) × (o ≡ Some p) × (p.from ≡ a) × (p.to ≡ b)
parted None a b e = absurd cc
parted (Some p) a b e =
    let same = same_Some (p.from, p.to) (a, b) e in (p, refl, ap (λ x. x.0) same, ap (λ x. x.1) same)

-- a message of the pool, and its parties
pub record IsPosted (posts : List Posted) (message : ℕ) (from to : Party) : Type 0 where
  pub post : Posted
  pub is : posted_at posts message ≡ Some post
  pub sent_from : post.from ≡ from
  pub sent_to : post.to ≡ to

is_posted : (posts : List Posted) (message : ℕ) (from to : Party) (o : Option (Party × Party)) → o ≡ Some (from, to) →
    o ≡ option_map {U = Party × Party} (λ (p : Posted). (p.from, p.to)) (posted_at posts message) → IsPosted posts message from to
is_posted posts message from to o e same =
    let k = parted (posted_at posts message) from to (sym same ∙ e) in
    record { post = k.0; is = k.1; sent_from = k.2; sent_to = k.3 }

-- it stands at its place
posted_here : (posts : List Posted) (message : ℕ) (p : Posted) → posted_at posts message ≡ Some p → 1 ≤ message →
    slice_get posts (message - 1) ≡ Some p
posted_here posts message p e one =
    sym (ap (λ b. cond b (slice_get posts (message - 1)) None) (le-leb 1 message one)) ∙ e

module _ {V S : Type 0} (v : verifiers.Ghosts V) (g : signers.Ghosts S) (s : Setup) (old : Engine V S v g) (st : State) (message : ℕ)
    (from : Party) (frame : List ℕ) (h : Shows s old st) where
  module _ (to : Party) (here : IsPosted old.pool.posts message from to) where
    post : Posted
    post = here.post

    at : posted_at st.pool message ≡ Some here.post
    at = ap (λ q. posted_at q message) (sym h.posts) ∙ here.is

    -- the message is delivered
    abbrev pub marked_now : State
    marked_now = marked (message - 1) Delivered here.post st

    pub delivers : happens s (events.Deliver message frame) st ≡ hand s message from to frame marked_now
    delivers =
        ap (λ o. option_map_or (λ p. hand s message p.from p.to frame (marked (message - 1) Delivered p st)) o (Ok st)) at
        ∙ ap (λ q. hand s message q here.post.to frame marked_now) here.sent_from
        ∙ ap (λ q. hand s message from q frame marked_now) here.sent_to

    same_marked : 1 ≤ message → SameSize old.pool.posts marked_now.pool
    same_marked one =
        subst (λ q. SameSize q (slice_set st.pool (message - 1) (record here.post { fate = Delivered }))) (sym h.posts)
        (marked_size st.pool (message - 1) here.post Delivered (posted_here st.pool message here.post at one))

  -- another party is handed it
  module _ (to other : Party) (here : IsPosted old.pool.posts message from other) where
    pub diverts : happens s (events.Divert message to frame) st ≡ hand s message from to frame st
    diverts =
        ap (λ o. option_map_or (λ p. hand s message p.from to frame st) o (Ok st)) (ap (λ q. posted_at q message) (sym h.posts) ∙ here.is)
        ∙ ap (λ q. hand s message q to frame st) here.sent_from

-- ---- the ends of a delivery

module _ {V S : Type 0} (v : verifiers.Ghosts V) (g : signers.Ghosts S) (s : Setup) (from to : Party) (frame : List ℕ) (message : ℕ) where
  -- what isn't handed leaves all as before, but for a breach and want of memory
  pub hand_fails : (st now : State) (old new : Engine V S v g) (answer : Result State WorldFault) →
      answer ≡ hand s message from to frame now → SameSize old.pool.posts now.pool → now ≡ record st { pool = now.pool } →
      new.pool ≡ old.pool → Shows s old st → (r : Result (Unit {0}) StepFault) (fault : StepFault) → IsErrAnd r (λ x. x ≡ fault) →
      Hands s now old.pool from to frame new (Err fault) → Comes s st answer new r
  hand_fails st now old new answer is size same pool h (Ok u) fault e hands = absurd e
  hand_fails st now old new answer is size same pool h (Err x) fault e hands =
      subst (λ y. Comes s st answer new (Err y)) (sym e) (by fault hands)
    where
      as_before : Stands s new now → Shows s new st
      as_before k =
          record {
            stands = stands_pool v g s new (record st { pool = now.pool }) st.pool (subst (Stands s new) same k);
            posts = ap (λ (q : PoolValue). q.posts) pool ∙ h.posts;
            seen = h.seen;
          }

      sends : (seen : State) → see s frame now ≡ Ok seen → (a : Sends s (handling s from to frame) seen) →
          answer ≡ send s a.party a.said a.mail a.after
      sends seen saw a = is ∙ ap (λ r. r >>= handle s message from to frame) saw ∙ a.is message

      size_of : (seen : State) → see s frame now ≡ Ok seen → (a : Sends s (handling s from to frame) seen) →
          SameSize old.pool.posts a.after.pool
      size_of seen saw a =
          subst (SameSize old.pool.posts) (sym (a.same ∙ ap (λ (x : State). x.pool) (see_only s frame now seen saw))) size

      by : (fault : StepFault) → Hands s now old.pool from to frame new (Err fault) → Comes s st answer new (Err fault)
      by (faults.World (worlds.Broken b)) k = is ∙ ap (λ r. r >>= handle s message from to frame) k
      by (faults.World (worlds.PoolFull messages bytes)) k = (
        sends k.2 k.3 k.4
            ∙ send_full s old.pool k.4.after k.4.party k.4.said k.4.mail k.1 (size_of k.2 k.3 k.4) h.stands.limits k.5
            ∙ ap (λ f. Err (world_of f)) (sym k.0),
        as_before k.6,
      )
      by (faults.World (worlds.Call f)) k = absurd k
      by (faults.World (worlds.Exhausted p)) k = absurd k
      by faults.NoMemory k = tt

-- what was taken stays so with another pool
pub takes_pooled : {V S : Type 0} (v : verifiers.Ghosts V) (g : signers.Ghosts S) (s : Setup) (st : State) (pool : PoolValue)
    (handles : Handles) (old new : Engine V S v g) → new ≡ record old { pool = new.pool } → new.pool.limits ≡ old.pool.limits →
    (took : Took) → Takes s st pool handles old (Ok took) → Takes s st pool handles new (Ok took)
takes_pooled v g s st pool handles old new own same tooks.Nothing t = (t.0, stands_pooled v g s old new st own same t.1)
takes_pooled v g s st pool handles old new own same tooks.Refused t = (t.0, stands_pooled v g s old new st own same t.1)
takes_pooled v g s st pool handles old new own same (tooks.Sent party out) t =
    (t.0, t.1, t.2, t.3, stands_pooled v g s old new t.0.after own same t.4)

-- ---- a delivery, whole

module _ {V S : Type 0} (v : verifiers.Ghosts V) (g : signers.Ghosts S) (s : Setup) (old mid : Engine V S v g) where
  module _ (st : State) (message : ℕ) (from to : Party) (frame : List ℕ) (o : Option (Party × Party)) (some : o ≡ Some (from, to))
      (parties : o ≡ option_map {U = Party × Party} (λ (p : Posted). (p.from, p.to)) (posted_at old.pool.posts message)) (one : 1 ≤ message)
      (h : Shows s old st) (pool : mid.pool ≡ old.pool) (was_seen : Bool)
      (own_is : was_seen ≡ has_frame_at old.pool.posts message frame) where
    it : IsPosted old.pool.posts message from to
    it = is_posted old.pool.posts message from to o some parties

    abbrev now : State
    now = marked_now v g s old st message from frame h to it

    -- what the bytes of the message itself show was seen
    was : was_seen ≡ true → IsSeenFrame s now.watch now.certified frame
    was e = seen_own s st old.pool.posts message frame h.posts h.seen (sym own_is ∙ e)

    now_seen : PoolIsSeen s now
    now_seen =
        pool_seen s st now
        (marked_grows s message Delivered it.post st (ap (λ q. posted_at q message) (sym h.posts) ∙ it.is)) h.seen

    pub deliver_fails : (r : Result (Unit {0}) StepFault) (fault : StepFault) → IsErrAnd r (λ x. x ≡ fault) →
        ((st : State) → (was_seen ≡ true → IsSeenFrame s st.watch st.certified frame) → Stands s old st →
        Hands s st old.pool from to frame mid (Err fault)) →
        Comes s st (happens s (events.Deliver message frame) st) mid r
    deliver_fails r fault e hands =
        hand_fails v g s from to frame message st now old mid (happens s (events.Deliver message frame) st)
        (delivers v g s old st message from frame h to it) (same_marked v g s old st message from frame h to it one) refl pool h r fault e
        (hands now was (stands_pool v g s old st now.pool h.stands))

    pub deliver_comes : (marks new : Engine V S v g) → marks ≡ record mid { pool = marks.pool } →
        ((p : Posted) → posted_at mid.pool.posts message ≡ Some p →
        marks.pool.posts ≡ slice_set mid.pool.posts (message - 1) (record p { fate = Delivered })) →
        marks.pool.limits ≡ mid.pool.limits → (took : Took) (r : Result (Unit {0}) StepFault) →
        ((st : State) → (was_seen ≡ true → IsSeenFrame s st.watch st.certified frame) → Stands s old st →
        Hands s st old.pool from to frame mid (Ok took)) →
        ((now before : State) (pool : PoolValue) (handles : Handles) → marks.pool.posts ≡ now.pool → PoolIsSeen s now →
        Takes s now pool handles marks (Ok took) → Comes s before (handles message now) new r) →
        Comes s st (happens s (events.Deliver message frame) st) new r
    deliver_comes marks new own set limits took r hands reacts =
        let k = hands now was (stands_pool v g s old st now.pool h.stands) in
        let there : posted_at mid.pool.posts message ≡ Some it.post = ap (λ (q : PoolValue). posted_at q.posts message) pool ∙ it.is in
        let posts : marks.pool.posts ≡ k.0.pool =
        set it.post there
        ∙ ap (λ (q : PoolValue). slice_set q.posts (message - 1) (record it.post { fate = Delivered })) pool
        ∙ ap (λ q. slice_set q (message - 1) (record it.post { fate = Delivered })) h.posts
        ∙ sym (ap (λ (x : State). x.pool) (see_only s frame now k.0 k.1)) in
        subst (λ x. Comes s st x new r)
        (sym (delivers v g s old st message from frame h to it ∙ ap (λ x. x >>= handle s message from to frame) k.1))
        (reacts k.0 st old.pool (handling s from to frame) posts (pool_seen s now k.0 (see_grows s frame now k.0 k.1) now_seen)
        (takes_pooled v g s k.0 old.pool (handling s from to frame) mid marks own limits took k.2))

-- the pool has room for what is sent, once the message is delivered
pub deliver_room : (old mid new : PoolValue) (message : ℕ) (from to : Party) (o : Option (Party × Party)) → o ≡ Some (from, to) →
    o ≡ option_map {U = Party × Party} (λ (p : Posted). (p.from, p.to)) (posted_at old.posts message) → 1 ≤ message → mid ≡ old →
    ((p : Posted) → posted_at mid.posts message ≡ Some p →
    new.posts ≡ slice_set mid.posts (message - 1) (record p { fate = Delivered })) → new.limits ≡ mid.limits → (took : Took) →
    IsTaken old took → IsTaken new took
deliver_room old mid new message from to o some parties one same set limits took t =
    let it = is_posted old.posts message from to o some parties in
    let there : posted_at mid.posts message ≡ Some it.post = ap (λ (q : PoolValue). posted_at q.posts message) same ∙ it.is in
    let posts : slice_set old.posts (message - 1) (record it.post { fate = Delivered }) ≡ new.posts =
    sym (set it.post there ∙ ap (λ (q : PoolValue). slice_set q.posts (message - 1) (record it.post { fate = Delivered })) same) in
    let k = taken_marked old (slice_set old.posts (message - 1) (record it.post { fate = Delivered })) took
    (marked_size old.posts (message - 1) it.post Delivered (posted_here old.posts message it.post it.is one)) t in
    subst (λ q. IsTaken (record new { posts = q }) took) posts
    (subst (λ l. IsTaken (record { posts = slice_set old.posts (message - 1) (record it.post { fate = Delivered }); limits = l }) took)
    (sym (limits ∙ ap (λ (q : PoolValue). q.limits) same)) k)

-- ---- a diversion, whole

module _ {V S : Type 0} (v : verifiers.Ghosts V) (g : signers.Ghosts S) (s : Setup) (old mid : Engine V S v g) (st : State) (message : ℕ)
    (from other to : Party) (frame : List ℕ) (o : Option (Party × Party)) (some : o ≡ Some (from, other))
    (parties : o ≡ option_map {U = Party × Party} (λ (p : Posted). (p.from, p.to)) (posted_at old.pool.posts message))
    (h : Shows s old st) (pool : mid.pool ≡ old.pool) where
  way : happens s (events.Divert message to frame) st ≡ hand s message from to frame st
  way = diverts v g s old st message from frame h to other (is_posted old.pool.posts message from other o some parties)

  pub divert_fails : (r : Result (Unit {0}) StepFault) (fault : StepFault) → IsErrAnd r (λ x. x ≡ fault) →
      ((st : State) → (false ≡ true → IsSeenFrame s st.watch st.certified frame) → Stands s old st →
      Hands s st old.pool from to frame mid (Err fault)) →
      Comes s st (happens s (events.Divert message to frame) st) mid r
  divert_fails r fault e hands =
      hand_fails v g s from to frame message st st old mid (happens s (events.Divert message to frame) st) way
      (same_size old.pool.posts st.pool h.posts) refl pool h r fault e (hands st (λ e. absurd cc) h.stands)

  pub divert_comes : (new : Engine V S v g) (took : Took) (r : Result (Unit {0}) StepFault) →
      ((st : State) → (false ≡ true → IsSeenFrame s st.watch st.certified frame) → Stands s old st →
      Hands s st old.pool from to frame mid (Ok took)) →
      ((now before : State) (pool : PoolValue) (handles : Handles) → mid.pool.posts ≡ now.pool → PoolIsSeen s now →
      Takes s now pool handles mid (Ok took) → Comes s before (handles message now) new r) →
      Comes s st (happens s (events.Divert message to frame) st) new r
  divert_comes new took r hands reacts =
      let k = hands st (λ e. absurd cc) h.stands in
      subst (λ x. Comes s st x new r) (sym (way ∙ ap (λ x. x >>= handle s message from to frame) k.1))
      (reacts k.0 st old.pool (handling s from to frame)
      (ap (λ (q : PoolValue). q.posts) pool ∙ h.posts ∙ sym (ap (λ (x : State). x.pool) (see_only s frame st k.0 k.1)))
      (pool_seen s st k.0 (see_grows s frame st k.0 k.1) h.seen) k.2)

-- ---- a loss

some_posted : (o : Option (Party × Party)) (q : Option Posted) →
    o ≡ option_map {U = Party × Party} (λ (p : Posted). (p.from, p.to)) q → is_some o ≡ true → (p : Posted) × (q ≡ Some p)
some_posted o None e h = absurd (let x : false ≡ true = sym (ap is_some e) ∙ h in cc)
some_posted o (Some p) e h = (p, refl)

pub loses : {V S : Type 0} (v : verifiers.Ghosts V) (g : signers.Ghosts S) (s : Setup) (old new : Engine V S v g) (st : State)
    (message : ℕ) (o : Option (Party × Party)) →
    o ≡ option_map {U = Party × Party} (λ (p : Posted). (p.from, p.to)) (posted_at old.pool.posts message) → is_some o ≡ true →
    new ≡ record old { pool = new.pool } → new.pool.limits ≡ old.pool.limits →
    ((p : Posted) → posted_at old.pool.posts message ≡ Some p →
    new.pool.posts ≡ slice_set old.pool.posts (message - 1) (record p { fate = lost p.fate })) → Shows s old st →
    (after : State) × (happens s (events.Lose message) st ≡ Ok after) × Shows s new after
loses v g s old new st message o parties some own limits set h =
    let p = some_posted o (posted_at old.pool.posts message) parties some in
    let after = marked (message - 1) (lost p.0.fate) p.0 st in (
      after,
      ap (λ x. option_map_or (λ (p : Posted). Ok (marked (message - 1) (lost p.fate) p st)) x (Ok st))
          (ap (λ q. posted_at q message) (sym h.posts) ∙ p.1),
      record {
        stands = stands_pooled v g s old new after own limits (stands_pool v g s old st after.pool h.stands);
        posts = set p.0 p.1 ∙ ap (λ q. slice_set q (message - 1) (record p.0 { fate = lost p.0.fate })) h.posts;
        seen = pool_seen s st after (marked_grows s message (lost p.0.fate) p.0 st (ap (λ q. posted_at q message) (sym h.posts) ∙ p.1))
            h.seen;
      },
    )
