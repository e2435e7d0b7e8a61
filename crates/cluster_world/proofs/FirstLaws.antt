-- Faulty clients form, sign and send their transactions.
use Rattle.std.proofs.Common.{◌≡◌, ◌∙◌, ℕ, Bool, true, false, cond, List, [], length, map, refl, sym, ap, subst}
use Rattle.std.specs.Result.{IsErrAnd}
use Rattle.std.specs.Option.{option_map_or}
use Rattle.std.specs.Prelude.{Option, Some, None, Result, Ok, Err, nat_le, ◌&&◌, option_map, slice_get}
use Rattle.std.proofs.lemmas.List.{append-nil}
use Rattle.std.proofs.lemmas.Option.{same_Some}
use Rattle.basil_types.specs.Built.{or_else}
use Rattle.basil_types.specs.declared.outbox.Envelope.{Envelope}
use Rattle.basil_types.specs.declared.party.Party.{Party}
use Rattle.basil_types.specs.declared.party.Party.TheVariants.{Client}
use Rattle.basil_types.specs.Transaction.{TransactionValue}
use Rattle.client_steps.specs.declared.fault.CallFault.{CallFault}
use Rattle.cluster_run.specs.declared.fault.WorldFault.{WorldFault}
use Rattle.cluster_run.specs.declared.fault.WorldFault.TheVariants as worlds
use Rattle.cluster_run.specs.Events.{Prepare, happens, prepare_fault, prepares_at, prepares_lie, prepares_own, set_begun}
use Rattle.cluster_run.specs.Faulty.{after_lie, faulty_signature, has_left}
use Rattle.cluster_run.specs.Parts.{enter, enter_all, mail_of, send}
use Rattle.cluster_run.specs.States.{BegunValue, FormedValue, Setup, State}
use Rattle.faulty_parties.specs.Pens.{LiesAs}
use Rattle.faulty_parties.specs.Unsaid.{Unsaid, unsaid_first}
use Rattle.keyring.specs.declared.verifier.Verifier as verifiers
use Rattle.keyring.specs.declared.signer.Signer as signers
use Rattle.message_pool.specs.declared.pool.Room.{Room}
use Rattle.message_pool.specs.Posts.{PoolValue, pool_bytes}
use Rattle.node_steps.specs.Envelopes.{EnvelopeValue}
use Rattle.node_steps.specs.Framed.{framed}
use Rattle.node_steps.specs.Pendings.{bytes_sent}
use Rattle.node_steps.specs.Refusing.{unless_refused}
use Rattle.premise_watch.specs.Breaches.{NotedWords}
use Rattle.premise_watch.specs.declared.broken.WatchFault.{WatchFault}
use Rattle.run_begun.specs.Adding as adding
use Rattle.run_begun.specs.Adding.{FormingIsRefused, forming_fault}
use Rattle.cluster_world.specs.Comes.{Comes}
use Rattle.cluster_world.specs.declared.engine.Engine.{Engine}
use Rattle.cluster_world.specs.declared.fault.StepFault.{StepFault}
use Rattle.cluster_world.specs.Lying.{built_of, exhausted}
use Rattle.cluster_world.specs.Sending.{Goes, HasRoomFor, full_of, mails}
use Rattle.cluster_world.specs.Shows.{Shows, Stands}
use Rattle.cluster_world.proofs.LyingLaws.{room_tells, signed_shows}
use Rattle.cluster_world.proofs.SendingLaws.{Leaves, enters_by, fits_room, full_by, mails_same, room_by, same_size, within_limits}

-- nothing is noted of what faulty parties sign
none_noted : (s : Setup) (p : Party) (mail : List EnvelopeValue) (st : State) → send s p [] mail st ≡ enter s (map (mail_of p) mail) st
none_noted s p mail st =
    ap (λ (l : List NotedWords). enter s (map (mail_of p) mail) (record st { watch = record st.watch { signed = l } }))
    (append-nil st.watch.signed)

abbrev pub formed_as : TransactionValue → List ℕ → FormedValue
formed_as t signature = record { transaction = t; signature = signature }

abbrev pub with_formed : ℕ → BegunValue → FormedValue → State → State
with_formed tx b f st = set_begun tx (record b { formed = Some f }) st

module _ {V S : Type 0} (v : verifiers.Ghosts V) (g : signers.Ghosts S) (s : Setup) (st : State) (tx : ℕ) (b : BegunValue) where
  abbrev u : Unsaid
  u = unsaid_first s.cluster (built_of b)

  abbrev client : Party
  client = Client b.client

  abbrev sign : List ℕ
  sign = faulty_signature s st client u.words

  abbrev next : State
  next = with_formed tx b (formed_as (built_of b) sign) (after_lie st client u.words)

  abbrev first : Result State WorldFault
  first = prepares_lie s tx b st

  first_is : first ≡ enter s (map (mail_of client) (u.sent sign)) next
  first_is = none_noted s client (u.sent sign) next

  -- there is no room for it
  pub first_full : (core : Engine V S v g) (room : Room) (count bytes : ℕ) → Shows s core st → Leaves core.pool room →
      length (map framed (u.sent sign)) ≡ count → bytes_sent (map framed (u.sent sign)) ≡ bytes →
      false ≡ (nat_le count room.messages && nat_le bytes room.bytes) → (e : StepFault) → e ≡ full_of core.pool →
      Comes s st first core (Err e)
  first_full core room count bytes h leaves c m lacks e own =
      subst (λ x. Comes s st first core (Err x)) (sym own) (
        first_is
            ∙ full_by s next (map (mail_of client) (u.sent sign))
            (sym (fits_room s next core.pool client (u.sent sign) (within_limits core.pool room leaves)
            (same_size core.pool.posts st.pool h.posts) h.stands.limits)
            ∙ sym (room_tells core.pool room (u.sent sign) count bytes leaves c m) ∙ sym lacks)
            ∙ ap (λ q. Err (worlds.PoolFull (length q) (pool_bytes q))) (sym h.posts),
        h,
      )

  -- it is kept, and sent
  module _ (q : Party) (own : q ≡ client) (t : TransactionValue) (is : t ≡ built_of b) where
    pub first_goes : (old mid kept new : Engine V S v g) (messages : List Envelope)
        (signature : List ℕ) (r : Result (Unit {0}) WatchFault) →
        Shows s old st → slice_get st.begun tx ≡ Some b → mid ≡ record old { pens = mid.pens } →
        LiesAs g mid.pens s (after_lie st q u.words).lied → messages ≡ map framed (u.sent (faulty_signature s st q u.words)) →
        signature ≡ faulty_signature s st q u.words → HasRoomFor old.pool messages → kept.pool ≡ mid.pool →
        ((now : State) → Stands s mid now → slice_get now.begun tx ≡ Some b →
        Stands s kept (with_formed tx b (formed_as t signature) now)) →
        ((now : State) → Shows s kept now → Goes s (enter_all s (mails q messages) now) new r) → Goes s first new r
    first_goes old mid kept new messages signature r h at other lied same signed room pool keeps go =
        let now : State = after_lie st client u.words in
        let shows = signed_shows v g s st client u refl old mid other
        (subst (λ x. LiesAs g mid.pens s (after_lie st x u.words).lied) own lied) h in
        let what : formed_as t signature ≡ formed_as (built_of b) sign =
        ap (λ x. formed_as x signature) is
        ∙ ap (formed_as (built_of b)) (signed ∙ ap (λ x. faulty_signature s st x u.words) own) in
        let stands = subst (λ f. Stands s kept (with_formed tx b f now)) what (keeps now shows.stands at) in
        subst (λ x. Goes s x new r)
        (sym (first_is
        ∙ ap (λ l. enter s l next) (mails_same client (u.sent sign))
        ∙ ap (λ l. enter s (mails client l) next) (sym (same ∙ ap (λ x. map framed (u.sent (faulty_signature s st x u.words))) own))
        ∙ enters_by s next (mails client messages) (room_by s next old.pool client messages h.posts h.stands.limits room)))
        (subst (λ x. Goes s (enter_all s (mails x messages) next) new r) own
        (go next (record { stands = stands; posts = ap (λ (c : PoolValue). c.posts) pool ∙ shows.posts; seen = shows.seen })))

  -- ---- whether it is formed

  module _ (core : Engine V S v g) (h : Shows s core st) (at : slice_get st.begun tx ≡ Some b) (none : b.slot ≡ None)
      (law : FormingIsRefused) where
    abbrev prepared : Result State WorldFault
    prepared = happens s (Prepare tx) st

    prepared_is : prepared
        ≡ unless_refused (or_else (option_map worlds.Call (forming_fault b)) (adding.exhausted s b st)) (prepares_lie s tx b st)
    prepared_is =
        ap (λ o. option_map_or (λ x. prepares_at s tx x st) o (Ok st)) at
        ∙ ap (λ o. option_map_or (λ slot. prepares_own s tx b slot st) o
        (unless_refused (prepare_fault s b st) (prepares_lie s tx b st))) none
        ∙ ap (λ o. unless_refused o (prepares_lie s tx b st)) (law s b st)

    prepared_by : (o : Option CallFault) (left : Bool) → forming_fault b ≡ o → has_left s st client ≡ left →
        prepared
        ≡ unless_refused (or_else (option_map worlds.Call o) (cond left None (Some (worlds.Exhausted client)))) (prepares_lie s tx b st)
    prepared_by o left a l =
        prepared_is
        ∙ ap (λ x. unless_refused (or_else (option_map worlds.Call x) (adding.exhausted s b st)) (prepares_lie s tx b st)) a
        ∙ ap (λ x. unless_refused (or_else (option_map worlds.Call o) (cond x None (Some (worlds.Exhausted client))))
        (prepares_lie s tx b st)) l

    pub prepare_exhausted : (q : Party) → q ≡ client → (e : StepFault) (r : Result (Unit {0}) StepFault) → IsErrAnd r (λ x. x ≡ e) →
        forming_fault b ≡ None → (e ≡ exhausted q) × (has_left s st q ≡ false) → Comes s st prepared core r
    prepare_exhausted q same e (Ok done) err a lacks = absurd err
    prepare_exhausted q same e (Err x) err a lacks =
        subst (λ y. Comes s st prepared core (Err y)) (sym (err ∙ lacks.0 ∙ ap exhausted same))
        (prepared_by None false a (ap (has_left s st) (sym same) ∙ lacks.1), h)

    pub prepare_goes : (q : Party) → q ≡ client → (new : Engine V S v g) (r : Result (Unit {0}) StepFault) → forming_fault b ≡ None →
        has_left s st q ≡ true → Comes s st first new r → Comes s st prepared new r
    prepare_goes q same new r a left comes =
        subst (λ x. Comes s st x new r) (sym (prepared_by None true a (ap (has_left s st) (sym same) ∙ left))) comes

-- the begun transaction that was found
pub begun_is : {V S : Type 0} {v : verifiers.Ghosts V} {g : signers.Ghosts S} (s : Setup) (core : Engine V S v g) (st : State) (tx : ℕ)
    (found b : BegunValue) → Stands s core st → Some found ≡ slice_get core.begun.items tx → slice_get st.begun tx ≡ Some b → found ≡ b
begun_is s core st tx found b h got at = same_Some found b (got ∙ ap (λ l. slice_get l tx) h.begun ∙ at)

-- none was begun, but one was found
pub begun_isnt : {V S : Type 0} {v : verifiers.Ghosts V} {g : signers.Ghosts S} (s : Setup) (core : Engine V S v g) (st : State) (tx : ℕ)
    (found : BegunValue) → Stands s core st → Some found ≡ slice_get core.begun.items tx → slice_get st.begun tx ≡ None → ⊥
begun_isnt s core st tx found h got none = some_none found (got ∙ ap (λ l. slice_get l tx) h.begun ∙ none)
  where
    some_none : (x : BegunValue) → Some x ≡ None → ⊥
    some_none x e = absurd cc
