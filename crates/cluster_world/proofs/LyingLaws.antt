-- Faulty parties sign and send.
use Rattle.std.proofs.Common.{◌≡◌, ◌∙◌, ◌≤◌, ℕ, true, false, cond, List, [], ◌∷◌, length, map, sym, ap}
use Rattle.std.proofs.Common.{subst, arith}
use Rattle.std.specs.Result.{IsErrAnd}
use Rattle.std.specs.Option.{option_map_or}
use Rattle.std.specs.Prelude.{Some, Result, Ok, Err, nat_le, nat_lt, ◌&&◌}
use Rattle.std.proofs.lemmas.Bool.{and_parts, leb-true}
use Rattle.basil_types.specs.declared.outbox.Envelope.{Envelope}
use Rattle.basil_types.specs.declared.party.Decision.{Decision}
use Rattle.basil_types.specs.declared.party.Party.{Party}
use Rattle.basil_types.specs.declared.party.Party.TheVariants.{Client}
use Rattle.cluster_nodes.specs.Handling.{fits}
use Rattle.cluster_run.specs.declared.fault.WorldFault.{WorldFault}
use Rattle.cluster_run.specs.declared.fault.WorldFault.TheVariants as worlds
use Rattle.cluster_run.specs.Events.{Raw, Second, at_formed, happens}
use Rattle.cluster_run.specs.Faulty.{LieValue, after_lie, faulty_second, faulty_signature, has_left, lies, spent_by}
use Rattle.cluster_run.specs.Parts.{enter, enter_all, mail_of, mail_from}
use Rattle.cluster_run.specs.States.{BegunValue, FormedValue, Setup, State, is_faulty}
use Rattle.faulty_parties.specs.declared.lie.Lie.{Lie}
use Rattle.faulty_parties.specs.Lies.{Tells}
use Rattle.faulty_parties.specs.Pens.{LiesAs}
use Rattle.faulty_parties.specs.Unsaid.{Unsaid}
use Rattle.keyring.specs.declared.verifier.Verifier as verifiers
use Rattle.keyring.specs.declared.signer.Signer as signers
use Rattle.message_pool.specs.declared.pool.Room.{Room}
use Rattle.message_pool.specs.Posts.{PoolValue, pool_bytes}
use Rattle.node_steps.specs.Envelopes.{EnvelopeValue}
use Rattle.node_steps.specs.Framed.{framed}
use Rattle.node_steps.specs.Pendings.{bytes_sent}
use Rattle.premise_watch.specs.declared.broken.WatchFault.{WatchFault}
use Rattle.cluster_world.specs.Beginning.{formed_in}
use Rattle.cluster_world.specs.Comes.{Comes}
use Rattle.cluster_world.specs.declared.engine.Engine.{Engine}
use Rattle.cluster_world.specs.declared.fault.StepFault.{StepFault}
use Rattle.cluster_world.specs.Lying.{exhausted, says, says_as}
use Rattle.cluster_world.specs.Sending.{Goes, HasRoomFor, full_of, mails, room_of}
use Rattle.cluster_world.specs.Shows.{Shows, Stands}
use Rattle.cluster_world.proofs.AskingLaws.{room_left}
use Rattle.cluster_world.proofs.SendingLaws.{Leaves, enters_by, fits_room, full_by, mails_same, room_by, same_size}
use Rattle.cluster_world.proofs.SendingLaws.{within_limits}

-- ---- room

-- a room that was told of these sizes has room for the messages
pub room_told : (pool : PoolValue) (room : Room) (lie : Lie) (count bytes : ℕ) (messages : List Envelope) → Leaves pool room →
    count ≡ length lie.pending.frames.items → bytes ≡ lie.bytes → true ≡ (nat_le count room.messages && nat_le bytes room.bytes) →
    Tells lie messages → HasRoomFor pool messages
room_told pool room lie count bytes messages leaves c b has tells =
    let both = and_parts (nat_le count room.messages) (nat_le bytes room.bytes) (sym has) in
    let few : count ≤ room.messages = leb-true count room.messages both.0 in
    let small : bytes ≤ room.bytes = leb-true bytes room.bytes both.1 in
    record {
      few = omega (arith, few, c, tells.count, leaves.messages);
      small = omega (arith, small, b, tells.bytes, leaves.bytes);
    }

-- whether there is room for what is sent
pub room_tells : (pool : PoolValue) (room : Room) (mail : List EnvelopeValue) (count bytes : ℕ) → Leaves pool room →
    length (map framed mail) ≡ count → bytes_sent (map framed mail) ≡ bytes →
    (nat_le count room.messages && nat_le bytes room.bytes) ≡ fits (room_of pool) mail
room_tells pool room mail count bytes leaves c b =
    ap (λ (n : ℕ). nat_le n room.messages && nat_le bytes room.bytes) (sym c)
    ∙ ap (λ (n : ℕ). nat_le (length (map framed mail)) room.messages && nat_le n room.bytes) (sym b)
    ∙ ap (λ (r : Room). fits r mail) (room_left pool room leaves)

-- ---- a party says

module _ {V S : Type 0} (v : verifiers.Ghosts V) (g : signers.Ghosts S) (s : Setup) (st : State) (p : Party) (u : Unsaid)
    (own : u.party ≡ p) where
  abbrev mail : List EnvelopeValue
  mail = u.sent (faulty_signature s st p u.words)

  abbrev after : State
  after = after_lie st p u.words

  -- there is no room for it
  pub says_full : (core : Engine V S v g) (room : Room) (count bytes : ℕ) → Shows s core st → Leaves core.pool room →
      length (map framed mail) ≡ count → bytes_sent (map framed mail) ≡ bytes →
      false ≡ (nat_le count room.messages && nat_le bytes room.bytes) → (e : StepFault) → e ≡ full_of core.pool →
      Comes s st (says s u st) core (Err e)
  says_full core room count bytes h leaves c b lacks e is =
      subst (λ q. Comes s st (says_as s q u st) core (Err e)) (sym own)
      (subst (λ x. Comes s st (says_as s p u st) core (Err x)) (sym is) (
        full_by s after (map (mail_of p) mail)
            (sym (fits_room s after core.pool p mail (within_limits core.pool room leaves)
            (same_size core.pool.posts st.pool h.posts) h.stands.limits)
            ∙ sym (room_tells core.pool room mail count bytes leaves c b) ∙ sym lacks)
            ∙ ap (λ q. Err (worlds.PoolFull (length q) (pool_bytes q))) (sym h.posts),
        h,
      ))

  -- its pen has given a signature
  pub signed_shows : (old mid : Engine V S v g) → mid ≡ record old { pens = mid.pens } → LiesAs g mid.pens s after.lied → Shows s old st →
      Shows s mid after
  signed_shows old mid is lied h =
      record {
        stands = subst (λ c. Stands s c after) (sym is)
            (record {
              members = h.stands.members;
              earlier = h.stands.earlier;
              sight = h.stands.sight;
              pens = lied;
              replicas = h.stands.replicas;
              clients = h.stands.clients;
              begun = h.stands.begun;
              limits = h.stands.limits;
              refused = h.stands.refused;
            });
        posts = ap (λ (c : Engine V S v g). c.pool.posts) is ∙ h.posts;
        seen = h.seen;
      }

  -- it is sent
  pub says_goes : (old mid new : Engine V S v g) (messages : List Envelope) (r : Result (Unit {0}) WatchFault) →
      mid ≡ record old { pens = mid.pens } → LiesAs g mid.pens s after.lied → messages ≡ map framed mail → HasRoomFor old.pool messages →
      Shows s old st → (Shows s mid after → Goes s (enter_all s (mails p messages) after) new r) → Goes s (says s u st) new r
  says_goes old mid new messages r is lied same room h go =
      subst (λ q. Goes s (says_as s q u st) new r) (sym own)
      (subst (λ x. Goes s x new r)
      (sym (enters_by s after (mails p messages) (room_by s after old.pool p messages h.posts h.stands.limits room))
      ∙ ap (λ l. enter s (mails p l) after) same
      ∙ ap (λ l. enter s l after) (sym (mails_same p mail)))
      (go (signed_shows old mid is lied h)))

-- a party that isn't faulty has no signature left
pub isnt_left : (s : Setup) (st : State) (p : Party) → is_faulty s p ≡ false → has_left s st p ≡ false
isnt_left s st p is = ap (λ b. b && nat_lt (spent_by st p) (s.kit.pen p).left) is

-- ---- events of faulty parties

-- of a formed transaction it happens
pub is_formed : (begun : List BegunValue) (tx : ℕ) (what : FormedValue → State → Result State WorldFault) (st : State) (f : FormedValue) →
    begun ≡ st.begun → Some f ≡ formed_in begun tx → at_formed tx what st ≡ what f st
is_formed begun tx what st f same some =
    ap (λ o. option_map_or (λ f. what f st) o (Ok st)) (ap (λ l. formed_in l tx) (sym same) ∙ sym some)

module _ {V S : Type 0} (v : verifiers.Ghosts V) (g : signers.Ghosts S) (s : Setup) (st : State) (tx : ℕ) (p : Party)
    (lie : FormedValue → State → LieValue) where
  abbrev event : Result State WorldFault
  event = at_formed tx (λ f st. lies s p (lie f st) st) st

  module _ (core : Engine V S v g) (f : FormedValue) (h : Shows s core st) (some : Some f ≡ formed_in core.begun.items tx) where
    lies_so : event ≡ lies s p (lie f st) st
    lies_so = is_formed core.begun.items tx (λ f st. lies s p (lie f st) st) st f h.stands.begun some

    module _ (q : Party) (same : q ≡ p) where
      -- no signature is left
      pub lies_not : (e : StepFault) (r : Result (Unit {0}) StepFault) → IsErrAnd r (λ x. x ≡ e) →
          (e ≡ exhausted q) × (has_left s st q ≡ false) → Comes s st event core r
      lies_not e (Ok u) err lacks = absurd err
      lies_not e (Err x) err lacks =
          subst (λ y. Comes s st event core (Err y)) (sym (err ∙ lacks.0 ∙ ap exhausted same)) (
            lies_so
                ∙ ap (λ b. cond b (enter s (mail_of p (lie f st).envelope ∷ []) (after_lie st p (lie f st).words))
                (Err (worlds.Exhausted p)))
                (ap (has_left s st) (sym same) ∙ lacks.1),
            h,
          )

      -- it is said
      pub lies_said : (u : Unsaid) (new : Engine V S v g) (r : Result (Unit {0}) StepFault) → has_left s st q ≡ true →
          says s u st ≡ enter s (mail_of p (lie f st).envelope ∷ []) (after_lie st p (lie f st).words) →
          Comes s st (says s u st) new r → Comes s st event new r
      lies_said u new r left meant said =
          subst (λ x. Comes s st x new r)
          (meant
          ∙ sym (ap (λ b. cond b (enter s (mail_of p (lie f st).envelope ∷ []) (after_lie st p (lie f st).words))
          (Err (worlds.Exhausted p)))
          (ap (has_left s st) (sym same) ∙ left))
          ∙ sym lies_so) said

-- ---- what isn't signed anew

module _ {V S : Type 0} (v : verifiers.Ghosts V) (g : signers.Ghosts S) (s : Setup) (st : State) where
  pub second_comes : (core new : Engine V S v g) (f : FormedValue) (tx : ℕ) (d : Decision) (replica number : ℕ) (m : Envelope)
      (r : Result (Unit {0}) StepFault) → Shows s core st → Some f ≡ formed_in core.begun.items tx → number ≡ f.transaction.client →
      faulty_second s f d replica st ≡ mail_from (Client f.transaction.client) m ∷ [] →
      Comes s st (enter s (mail_from (Client number) m ∷ []) st) new r → Comes s st (happens s (Second tx d replica) st) new r
  second_comes core new f tx d replica number m r h some own mail comes =
      subst (λ x. Comes s st x new r)
      (ap (λ n. enter s (mail_from (Client n) m ∷ []) st) own
      ∙ ap (λ l. enter s l st) (sym mail)
      ∙ sym (is_formed core.begun.items tx (λ f st. enter s (faulty_second s f d replica st) st) st f h.stands.begun some)) comes

  abbrev enclosed : Party → List ℕ → Envelope
  enclosed to frame = record { to = to; frame = frame }

  pub raw_comes : (from to : Party) (frame given : List ℕ) (new : Engine V S v g) (r : Result (Unit {0}) StepFault) → frame ≡ given →
      Comes s st (enter s (mail_from from (enclosed to frame) ∷ []) st) new r → Comes s st (happens s (Raw from to given) st) new r
  raw_comes from to frame given new r same comes =
      subst (λ x. Comes s st (enter s (mail_from from (enclosed to x) ∷ []) st) new r) same comes
