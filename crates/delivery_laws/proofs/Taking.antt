-- Each event leaves the books as what is taken leaves them.
use Rattle.std.proofs.Common.{◌≡◌, ◌∙◌, ℕ, Bool, true, false, cond, List, [], ◌∷◌, Option, Some, None, map, refl, sym, ap, subst}
use Rattle.std.specs.Prelude.{if◌then◌else◌, ◌||◌, ◌-◌, not, Result, Ok, Err, find, is_ok, option_and_then, option_map, ⊤}
use Rattle.std.specs.Option.{option_map_or}
use Rattle.basil_types.specs.declared.party.Party.{Party}
use Rattle.basil_types.specs.declared.party.Party.TheVariants.{Replica, Client}
use Rattle.basil_types.specs.Steps.{◌>>=◌}
use Rattle.basil_types.specs.Version.{genesis}
use Rattle.replica_core.specs.Answers.{answer}
use Rattle.replica_core.specs.declared.refusal.Refusal.{Refusal}
use Rattle.replica_core.specs.Replicas.{BookValue, Done}
use Rattle.replica_laws.specs.Steps.{left_by, step}
use Rattle.cluster_run.specs.declared.fault.WorldFault.{WorldFault}
use Rattle.cluster_run.specs.Events as event
use Rattle.cluster_run.specs.Events.{EventValue, happens, marked, lost, ticks}
use Rattle.cluster_run.specs.Faulty.{faulty_proposal, faulty_reply, faulty_second, faulty_vote, faulty_word, lies}
use Rattle.cluster_run.specs.Parts as parts
use Rattle.cluster_run.specs.Parts.{are_bytes, enter, replica_self, see, send, Mail}
use Rattle.cluster_run.specs.States.{Delivered, Posted, Setup, Standing, State, client_at, is_at, is_faulty, posted_at, put_standing}
use Rattle.cluster_run.specs.States.{standing}
use Rattle.delivery_laws.specs.Deliveries.{Taking, after_taking, taken_at, taken_by, taken_of, takes}
use Rattle.delivery_laws.specs.Laws.{BooksFollowDeliveries, ReplicasStay, place_of}
use Rattle.delivery_laws.proofs.Putting.{found_own, is_here, put_found, put_places}
use Rattle.delivery_laws.proofs.Staying.{Stays, at_formed_stays, at_tx_stays, begins_stays, claims_stays, client_stays}
use Rattle.delivery_laws.proofs.Staying.{enter_stays, invokes_stays, lies_stays, prepares_stays, reads_stays, recovers_stays, see_stays}
use Rattle.delivery_laws.proofs.Staying.{send_stays, settles_stays, writes_stays}

abbrev book_of : Option Standing → Option BookValue
book_of o = option_map (λ (x : Standing). x.book) o

-- of replicas and what one of them takes, the replicas afterwards
pub record Follows (s : Setup) (old : List Standing) (t : Option Taking) (new : List Standing) : Type 0 where
  pub books : (a b : ℕ) → book_of (find (is_at a b) new) ≡ option_map (after_taking s t a b) (book_of (find (is_at a b) old))
  pub places : map place_of new ≡ map place_of old

abbrev FollowsIn : Setup → List Standing → Option Taking → Result State WorldFault → Type 0
FollowsIn s old t (Ok after) = Follows s old t after.replicas
FollowsIn s old t (Err e) = ⊤

module _ (s : Setup) where
  same_book : (a b : ℕ) (o : Option BookValue) → o ≡ option_map (after_taking s None a b) o
  same_book a b None = refl
  same_book a b (Some book) = refl

  -- ---- nothing is taken

  follows_same : (rs : List Standing) → Follows s rs None rs
  follows_same rs = record { books = λ a b. same_book a b (book_of (find (is_at a b) rs)); places = refl }

  follows_stays : (rs : List Standing) (r : Result State WorldFault) → Stays rs r → FollowsIn s rs None r
  follows_stays rs (Ok after) h = subst (λ l. Follows s rs None l) (sym h) (follows_same rs)
  follows_stays rs (Err e) h = tt

  -- ---- a replica is put at its place

  module _ (rs : List Standing) (x : Standing) (there : find (is_at x.shard x.index) rs ≡ Some x) where
    -- where it stands, it is found
    is_there : (a b : ℕ) → is_at a b x ≡ true → find (is_at a b) rs ≡ Some x
    is_there a b t =
        let here = is_here a b x t in
        ap (λ (n : ℕ). find (is_at n b) rs) (sym here.shard)
        ∙ ap (λ (n : ℕ). find (is_at x.shard n) rs) (sym here.index) ∙ there

    -- its clock is set
    follows_clock : (moment : ℕ) → Follows s rs None (put_standing (record x { moment = moment }) rs)
    follows_clock moment = record { books = books; places = put_places (record x { moment = moment }) rs }
      where
        by : (a b : ℕ) (t : Bool) → is_at a b x ≡ t →
            book_of (cond t (option_map (λ _. record x { moment = moment }) (find (is_at a b) rs)) (find (is_at a b) rs))
            ≡ book_of (find (is_at a b) rs)
        by a b false t = refl
        by a b true t =
            ap (λ o. book_of (option_map (λ (_ : Standing). record x { moment = moment }) o)) (is_there a b t)
            ∙ sym (ap book_of (is_there a b t))

        books : (a b : ℕ) → book_of (find (is_at a b) (put_standing (record x { moment = moment }) rs))
            ≡ option_map (after_taking s None a b) (book_of (find (is_at a b) rs))
        books a b =
            ap book_of (put_found a b (record x { moment = moment }) rs) ∙ by a b (is_at a b x) refl
            ∙ same_book a b (book_of (find (is_at a b) rs))

    -- it takes a frame
    module _ (h : Mail) where
      abbrev answered : Result Done Refusal
      answered = answer (replica_self s x.shard x.index) x.moment h.from x.book h.frame

      abbrev taking : Taking
      taking = record { shard = x.shard; index = x.index; handed = record { now = x.moment; from = h.from; frame = h.frame } }

      follows_taking : (d : Done) → answered ≡ Ok d → Follows s rs (Some taking) (put_standing (record x { book = d.book }) rs)
      follows_taking d e = record { books = books; places = put_places (record x { book = d.book }) rs }
        where
          by : (a b : ℕ) (t : Bool) → is_at a b x ≡ t →
              book_of (cond t (option_map (λ _. record x { book = d.book }) (find (is_at a b) rs)) (find (is_at a b) rs))
              ≡ option_map (λ book. cond t (step (replica_self s a b) book taking.handed).book book) (book_of (find (is_at a b) rs))
          by a b false t = same_book a b (book_of (find (is_at a b) rs))
          by a b true t =
              let here = is_here a b x t in
              let did : (step (replica_self s a b) x.book taking.handed).book ≡ d.book =
              ap (λ (n : ℕ). (step (replica_self s n b) x.book taking.handed).book) (sym here.shard)
              ∙ ap (λ (n : ℕ). (step (replica_self s x.shard n) x.book taking.handed).book) (sym here.index)
              ∙ ap (λ r. (left_by x.book r).book) e in
              ap (λ o. book_of (option_map (λ (_ : Standing). record x { book = d.book }) o)) (is_there a b t)
              ∙ ap Some (sym did)
              ∙ sym (ap (λ o. option_map (λ book. (step (replica_self s a b) book taking.handed).book) (book_of o)) (is_there a b t))

          books : (a b : ℕ) → book_of (find (is_at a b) (put_standing (record x { book = d.book }) rs))
              ≡ option_map (after_taking s (Some taking) a b) (book_of (find (is_at a b) rs))
          books a b = ap book_of (put_found a b (record x { book = d.book }) rs) ∙ by a b (is_at a b x) refl

  -- ---- a frame is handed

  follows_then : (rs : List Standing) (t : Option Taking) (mid : List Standing) (r : Result State WorldFault) →
      Follows s rs t mid → Stays mid r → FollowsIn s rs t r
  follows_then rs t mid (Ok after) f h = subst (λ l. Follows s rs t l) (sym h) f
  follows_then rs t mid (Err e) f h = tt

  module _ (number : ℕ) (h : Mail) (st : State) where
    replica_follows : (o : Option Standing) → ((x : Standing) → o ≡ Some x → find (is_at x.shard x.index) st.replicas ≡ Some x) →
        FollowsIn s st.replicas (option_and_then (taken_by s h) o) (parts.replica_handles s number h.from h.frame o st)
    replica_follows None there = follows_same st.replicas
    replica_follows (Some x) there = by (answered st.replicas x (there x refl) h) refl
      where
        by : (r : Result Done Refusal) → answered st.replicas x (there x refl) h ≡ r →
            FollowsIn s st.replicas (if is_ok r then Some (taking st.replicas x (there x refl) h) else None)
            (parts.replica_did s number x r st)
        by (Ok d) e =
            let mid : State = record st { replicas = put_standing (record x { book = d.book }) st.replicas } in
            follows_then st.replicas (Some (taking st.replicas x (there x refl) h)) mid.replicas
            (send s (Replica x.shard x.index) d.signed d.sent mid) (follows_taking st.replicas x (there x refl) h d e)
            (send_stays s (Replica x.shard x.index) d.signed d.sent mid)
        by (Err e) is = follows_same st.replicas

    handle_follows : FollowsIn s st.replicas (taken_of s st h) (parts.handle s number h.from h.to h.frame st)
    handle_follows = by (is_faulty s h.to || not (are_bytes h.frame))
      where
        at : (to : Party) → FollowsIn s st.replicas (taken_at s st h to) (parts.handle_by s number h.from to h.frame st)
        at (Replica shard index) =
            replica_follows (standing st shard index) (λ x is. found_own shard index st.replicas x is)
        at (Client client) =
            follows_stays st.replicas (parts.client_handles s number client h.frame (client_at st client) st)
            (client_stays s number client h.frame (client_at st client) st)

        by : (t : Bool) → FollowsIn s st.replicas (if t then None else taken_at s st h h.to)
            (if t then Ok st else parts.handle_by s number h.from h.to h.frame st)
        by true = follows_same st.replicas
        by false = at h.to

  -- what is taken is a matter of the replicas alone
  taken_same : (h : Mail) (st next : State) → next.replicas ≡ st.replicas → taken_of s next h ≡ taken_of s st h
  taken_same h st next e = by (is_faulty s h.to || not (are_bytes h.frame))
    where
      at : (to : Party) → taken_at s next h to ≡ taken_at s st h to
      at (Replica shard index) = ap (λ rs. option_and_then (taken_by s h) (find (is_at shard index) rs)) e
      at (Client client) = refl

      by : (t : Bool) → (if t then None else taken_at s next h h.to) ≡ (if t then None else taken_at s st h h.to)
      by true = refl
      by false = at h.to

  hand_follows : (number : ℕ) (h : Mail) (st : State) →
      FollowsIn s st.replicas (taken_of s st h) (parts.hand s number h.from h.to h.frame st)
  hand_follows number h st = by (see s h.frame st) (see_stays s h.frame st)
    where
      by : (r : Result State WorldFault) → Stays st.replicas r →
          FollowsIn s st.replicas (taken_of s st h) (r >>= parts.handle s number h.from h.to h.frame)
      by (Err e) k = tt
      by (Ok next) k =
          let done = handle_follows number h next in
          subst (λ t. FollowsIn s st.replicas t (parts.handle s number h.from h.to h.frame next)) (taken_same h st next k)
          (subst (λ rs. FollowsIn s rs (taken_of s next h) (parts.handle s number h.from h.to h.frame next)) k done)

  -- ---- every event

  clock_follows : (moment shard index : ℕ) (st : State) (o : Option Standing) → standing st shard index ≡ o →
      Follows s st.replicas None (ticks moment o st).replicas
  clock_follows moment shard index st None e = follows_same st.replicas
  clock_follows moment shard index st (Some x) e = follows_clock st.replicas x (found_own shard index st.replicas x e) moment

  happens_follows : (e : EventValue) (st : State) → FollowsIn s st.replicas (takes s st e) (happens s e st)
  happens_follows (event.Begin client time) st = follows_stays st.replicas _ (begins_stays s client time st)
  happens_follows (event.Read tx key) st =
      follows_stays st.replicas _ (at_tx_stays s tx (event.reads_at s key) st (λ b. reads_stays s key b st))
  happens_follows (event.Write tx w) st =
      follows_stays st.replicas _ (at_tx_stays s tx (event.writes_at s tx w) st (λ b. writes_stays s tx w b st))
  happens_follows (event.Claim tx key None) st =
      follows_stays st.replicas _
      (at_tx_stays s tx (event.claims_at tx key (Some genesis)) st (λ b. claims_stays s tx key (Some genesis) b st))
  happens_follows (event.Claim tx key (Some writer)) st =
      let version = event.formed_version st writer in
      follows_stays st.replicas _ (at_tx_stays s tx (event.claims_at tx key version) st (λ b. claims_stays s tx key version b st))
  happens_follows (event.Prepare tx) st =
      follows_stays st.replicas _ (at_tx_stays s tx (event.prepares_at s tx) st (λ b. prepares_stays s tx b st))
  happens_follows (event.Settle tx client) st =
      follows_stays st.replicas _ (at_formed_stays s tx (event.settles_at s client) st (λ f. settles_stays s client f st))
  happens_follows (event.Recover tx client) st =
      follows_stays st.replicas _ (at_formed_stays s tx (event.recovers_at s client) st (λ f. recovers_stays s client f st))
  happens_follows (event.Invoke tx client) st =
      follows_stays st.replicas _ (at_formed_stays s tx (event.invokes_at s client) st (λ f. invokes_stays s client f st))
  happens_follows (event.Deliver message given) st = by (posted_at st message)
    where
      by : (o : Option Posted) → FollowsIn s st.replicas
          (option_and_then (taken_of s st) (option_map (λ (p : Posted). record { from = p.from; to = p.to; frame = given }) o))
          (option_map_or (λ p. parts.hand s message p.from p.to given (marked (message - 1) Delivered p st)) o (Ok st))
      by None = follows_same st.replicas
      by (Some p) =
          hand_follows message (record { from = p.from; to = p.to; frame = given }) (marked (message - 1) Delivered p st)
  happens_follows (event.Lose message) st = by (posted_at st message)
    where
      by : (o : Option Posted) → FollowsIn s st.replicas None
          (option_map_or (λ p. Ok (marked (message - 1) (lost p.fate) p st)) o (Ok st))
      by None = follows_same st.replicas
      by (Some p) = follows_same st.replicas
  happens_follows (event.Divert message to given) st = by (posted_at st message)
    where
      by : (o : Option Posted) → FollowsIn s st.replicas
          (option_and_then (taken_of s st) (option_map (λ (p : Posted). record { from = p.from; to = to; frame = given }) o))
          (option_map_or (λ p. parts.hand s message p.from to given st) o (Ok st))
      by None = follows_same st.replicas
      by (Some p) = hand_follows message (record { from = p.from; to = to; frame = given }) st
  happens_follows (event.Clock shard r moment) st = clock_follows moment shard r st (standing st shard r) refl
  happens_follows (event.Vote shard r tx d client) st =
      follows_stays st.replicas _
      (at_formed_stays s tx (λ f st. lies s (Replica shard r) (faulty_vote s shard r f.transaction d client st) st) st
      (λ f. lies_stays s (Replica shard r) (faulty_vote s shard r f.transaction d client st) st))
  happens_follows (event.Second tx d r) st =
      follows_stays st.replicas _
      (at_formed_stays s tx (λ f st. enter s (faulty_second s f d r st) st) st (λ f. enter_stays s (faulty_second s f d r st) st))
  happens_follows (event.Logged shard r tx d decided current client) st =
      follows_stays st.replicas _
      (at_formed_stays s tx (λ f st. lies s (Replica shard r) (faulty_reply s shard r f.transaction d decided current client st) st) st
      (λ f. lies_stays s (Replica shard r) (faulty_reply s shard r f.transaction d decided current client st) st))
  happens_follows (event.Elect shard r tx d view) st =
      follows_stays st.replicas _
      (at_formed_stays s tx (λ f st. lies s (Replica shard r) (faulty_word s shard r f.transaction d view st) st) st
      (λ f. lies_stays s (Replica shard r) (faulty_word s shard r f.transaction d view st) st))
  happens_follows (event.Decide shard r tx d view to) st =
      follows_stays st.replicas _
      (at_formed_stays s tx (λ f st. lies s (Replica shard r) (faulty_proposal s shard r f.transaction d view to st) st) st
      (λ f. lies_stays s (Replica shard r) (faulty_proposal s shard r f.transaction d view to st) st))
  happens_follows (event.Raw from to frame) st =
      follows_stays st.replicas _ (enter_stays s (record { from = from; to = to; frame = frame } ∷ []) st)
  happens_follows (event.Show frame) st = follows_stays st.replicas _ (see_stays s frame st)

happened : (s : Setup) (st after : State) (e : EventValue) → happens s e st ≡ Ok after → Follows s st.replicas (takes s st e) after.replicas
happened s st after e is = subst (λ r. FollowsIn s st.replicas (takes s st e) r) is (happens_follows s e st)

pub books_follow_deliveries : BooksFollowDeliveries
books_follow_deliveries s st after e is a b = (happened s st after e is).books a b

pub replicas_stay : ReplicasStay
replicas_stay s st after e is = (happened s st after e is).places
