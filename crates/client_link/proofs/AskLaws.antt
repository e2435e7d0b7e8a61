-- Asks, one after another, until nothing waits.
use Rattle.std.proofs.Common.{◌≡◌, ℕ, zero, suc, ◌+◌, ◌*◌, ◌<◌, ◌≤◌, Bool, true, false, List, [], ◌∷◌, ◌++◌, length, drop}
use Rattle.std.proofs.Common.{Option, Some, None, refl, sym, ap, subst, ◌∙◌, arith}
use Rattle.std.specs.Prelude.{IfOk, Result, Ok, Err, slice_get}
use Rattle.basil_types.specs.declared.memory.NoMemory.{NoMemory}
use Rattle.std.proofs.lemmas.Bool.{both_ways}
use Rattle.std.proofs.lemmas.List.{drop_all}
use Rattle.basil_types.specs.declared.outbox.Envelope.{Envelope}
use Rattle.basil_types.specs.Links.{LinkState}
use Rattle.basil_types.specs.Setting.{Setting}
use Rattle.client_core.specs.Shown.{own, ShowsClient}
use Rattle.client_core.specs.Clients.{ClientSelf, ClientValue}
use Rattle.client_core.specs.declared.client.Client.{Client}
use Rattle.client_core.specs.Done.{KeepsSlots}
use Rattle.client_laws.specs.Saying.{SpeaksTwice, said}
use Rattle.cluster_file.specs.Listing.{Listing, address_in}
use Rattle.keyring.specs.declared.verifier.Verifier as verifiers
use Rattle.keyring.specs.declared.signer.Signer as signers
use Rattle.node_link.specs.Asking.{Fate, Answered, IsAsked, RoseBy, failures_of}
use Rattle.client_link.specs.declared.errands.Errands.{Errands}
use Rattle.client_link.specs.Having.{HasAskedAll, HasAskedOne, HasAskedSome, HasTaken, IsAskedAt, IsTalk, SameWork}
use Rattle.client_link.specs.Having.{Speaks, work_left}
use Rattle.client_link.specs.Talking.{Talk, asking, asks, asks_first, asks_next, failures, given_at, links_after, takes_all}
use Rattle.client_link.proofs.TalkLaws.{speaks_same, speaks_then}

pub on_ok : {T E : Type 0} (r : Result T E) {P Q : T → Type 0} → ((x : T) → P x → Q x) → IfOk r P → IfOk r Q
on_ok (Ok x) turn h = turn x h
on_ok (Err e) turn h = tt

-- ---- counts of failed calls

pub rose_none : (before now : ℕ) → before ≤ now → RoseBy 0 before now
rose_none before now h = omega (arith, h)

pub rose_then : (a b before mid now : ℕ) → RoseBy a before mid → RoseBy b mid now → RoseBy (a + b) before now
rose_then a b before mid now p q = omega (arith, p, q)

-- ---- a message

pub asked_at : (l : Listing) (number : ℕ) (e : Envelope) (s : LinkState) (told : Option LinkState) (before now : ℕ)
    (taken : List Envelope) (address : List ℕ) → Some address ≡ address_in l e.to →
    IsAsked l.cluster address (asking number e) s told before now taken → IsAskedAt l number e s told before now taken
asked_at l number e s told before now taken address at a =
    record {
      fate = a.fate;
      links = a.links ∙ ap (λ (o : Option (List ℕ)). Some (links_after a.fate o (asking number e) s)) at;
      given = a.given ∙ ap (λ (o : Option (List ℕ)). given_at a.fate o l.cluster s) at;
      failed = a.failed;
    }

pub asked_at_if : (l : Listing) (number : ℕ) (e : Envelope) (s : LinkState) (told : Option LinkState) (before now : ℕ)
    {D : Type 0} (items : D → List Envelope) (r : Result D NoMemory) (address : List ℕ) (cluster : Setting) (written : List ℕ) →
    cluster ≡ l.cluster → written ≡ asking number e → Some address ≡ address_in l e.to →
    IfOk r (λ given. IsAsked cluster address written s told before now (items given)) →
    IfOk r (λ given. IsAskedAt l number e s told before now (items given))
asked_at_if l number e s told before now items (Ok given) address cluster written c w at a =
    asked_at l number e s told before now (items given) address at
    (subst (λ (k : Setting). IsAsked k address (asking number e) s told before now (items given)) c
    (subst (λ (bytes : List ℕ). IsAsked cluster address bytes s told before now (items given)) w a))
asked_at_if l number e s told before now items (Err wanting) address cluster written c w at a = tt

pub not_asked : (l : Listing) (number : ℕ) (e : Envelope) (s : LinkState) (told : Option LinkState) (before now : ℕ)
    (taken : List Envelope) → None ≡ address_in l e.to → told ≡ Some s → taken ≡ [] → before ≤ now →
    IsAskedAt l number e s told before now taken
not_asked l number e s told before now taken at same none later =
    record {
      fate = Answered;
      links = same ∙ ap (λ (o : Option (List ℕ)). Some (links_after Answered o (asking number e) s)) at;
      given = none ∙ ap (λ (o : Option (List ℕ)). given_at Answered o l.cluster s) at;
      failed = rose_none before now later;
    }

-- ---- the first that waits

-- it isn't waiting any more
abbrev pub without_first : Listing → ClientSelf → Fate → Talk → Envelope → List Envelope → Talk
without_first l me fate t e queue =
    record t { queue = queue; links = links_after fate (address_in l e.to) (asking me.number e) t.links }

waits_first : (messages : List Envelope) (asked : ℕ) (e : Envelope) → slice_get messages asked ≡ Some e →
    drop asked messages ≡ e ∷ drop (suc asked) messages
waits_first [] asked e h = absurd cc
waits_first (x ∷ xs) zero e h = let same : x ≡ e = cc in ap (λ (y : Envelope). y ∷ xs) same
waits_first (x ∷ xs) (suc asked) e h = waits_first xs asked e h

module _ {V S : Type 0} {v : verifiers.Ghosts V} {g : signers.Ghosts S} (old : Client V S v g) (l : Listing)
    (told mid : Option LinkState) (e next : Errands) (t : Talk) (message : Envelope) (number before now : ℕ)
    (taken : List Envelope) (at : IsTalk old told e t) (asked : IsAskedAt l number message t.links mid before now taken)
    (is : slice_get e.out.messages.items e.asked ≡ Some message) (few : e.asked < length e.out.messages.items)
    (more : next.asked ≡ e.asked + 1) (same : next.out.messages.items ≡ e.out.messages.items) (left : next.left ≡ e.left)
    (mine : number ≡ old.seat.number) (cluster : old.seat.cluster ≡ l.cluster) where
  abbrev pub talk_next : Talk
  talk_next = without_first l (own old) asked.fate t message (drop (suc e.asked) e.out.messages.items)

  pub next_at : IsTalk old mid next talk_next
  next_at =
      let count : length next.out.messages.items ≡ length e.out.messages.items = ap length same in
      let number-is : links_after asked.fate (address_in l message.to) (asking number message) t.links ≡
      links_after asked.fate (address_in l message.to) (asking old.seat.number message) t.links =
      ap (λ (n : ℕ). links_after asked.fate (address_in l message.to) (asking n message) t.links) mine in
      let one : next.asked ≡ suc e.asked = omega (arith, more) in
      record {
        client_is = at.client_is;
        links = asked.links ∙ ap Some number-is;
        within = omega (arith, few, more, count);
        queue = ap (drop (suc e.asked)) (sym same) ∙ ap (λ (k : ℕ). drop k next.out.messages.items) (sym one);
        left = left ∙ at.left;
      }

  -- so the whole ask is this
  pub next_is : asks_next (own old) l t asked.fate ≡ takes_all (own old) talk_next taken
  next_is =
      let queue : t.queue ≡ message ∷ drop (suc e.asked) e.out.messages.items =
      at.queue ∙ waits_first e.out.messages.items e.asked message is in
      let given : given_at asked.fate (address_in l message.to) old.seat.cluster t.links ≡ taken =
      ap (λ (c : Setting). given_at asked.fate (address_in l message.to) c t.links) cluster ∙ sym asked.given in
      ap (asks_first (own old) l asked.fate t) queue ∙ ap (takes_all (own old) talk_next) given

pub has_asked_one : {V S : Type 0} {v : verifiers.Ghosts V} {g : signers.Ghosts S} (old new : Client V S v g) (l : Listing)
    (told : Option LinkState) (after : Errands) (t next : Talk) (sent : Bool) (before now : ℕ) (fate : Fate)
    (taken : List Envelope) → own new ≡ own old → next.client ≡ t.client →
    asks_next (own old) l t fate ≡ takes_all (own old) next taken →
    HasTaken new told after next (takes_all (own old) next taken) sent → RoseBy (failures_of fate) before now →
    HasAskedOne new l told after t sent before now
has_asked_one old new l told after t next sent before now fate taken self same is h risen =
    let all : asks_next (own new) l t fate ≡ takes_all (own old) next taken =
    ap (λ (me : ClientSelf). asks_next me l t fate) self ∙ is in
    record {
      fate = fate;
      taken = rw all
          (record {
            at = h.at;
            speaks = subst (λ (u : ClientValue). Speaks new.seat.cluster u (takes_all (own old) next taken).client sent) same h.speaks;
          });
      failed = risen;
    }

pub nearer : (e next after : Errands) → e.asked < length e.out.messages.items → next.asked ≡ e.asked + 1 →
    next.out.messages.items ≡ e.out.messages.items → next.left ≡ e.left → SameWork next after → work_left after < work_left e
nearer e next after few more same left work =
    let count : length next.out.messages.items ≡ length e.out.messages.items = ap length same in
    let sum = work.sum in
    let grows = work.grows in
    let asked = work.asked in
    omega (arith, few, more, count, left, sum, grows, asked)

-- ---- one after another

asks_none : (me : ClientSelf) (l : Listing) (t : Talk) → asks me l t [] ≡ t
unfolding asks
asks_none me l t = refl

asks_then : (me : ClientSelf) (l : Listing) (t : Talk) (fates more : List Fate) →
    asks me l t (fates ++ more) ≡ asks me l (asks me l t fates) more
unfolding asks
asks_then me l t [] more = refl
asks_then me l t (fate ∷ fates) more = asks_then me l (asks_next me l t fate) fates more

asks_one : (me : ClientSelf) (l : Listing) (t : Talk) (fate : Fate) → asks me l t (fate ∷ []) ≡ asks_next me l t fate
unfolding asks
asks_one me l t fate = refl

failures_then : (fates more : List Fate) → failures (fates ++ more) ≡ failures fates + failures more
failures_then [] more = omega arith
failures_then (fate ∷ fates) more = let rest = failures_then fates more in omega (arith, rest)

-- since a first moment of the loop these were asked, and the client sent nothing
pub record Asking {V S : Type 0} {v : verifiers.Ghosts V} {g : signers.Ghosts S} (first now : Client V S v g) (l : Listing)
    (told after : Option LinkState) (e later : Errands) (before count : ℕ) : Type 0 where
  pub self : own now ≡ own first
  pub seat : now.seat ≡ first.seat
  pub slots : KeepsSlots first.held now.held
  pub faults : before ≤ count
  pub at : (t : Talk) → IsTalk first told e t → (fates : List Fate)
      × HasTaken now after later t (asks (own first) l t fates) false × RoseBy (failures fates) before count

pub asking_none : {V S : Type 0} {v : verifiers.Ghosts V} {g : signers.Ghosts S} (first : Client V S v g) (l : Listing)
    (told : Option LinkState) (e : Errands) (before : ℕ) → Asking first first l told told e e before before
asking_none first l told e before =
    record {
      self = refl;
      seat = refl;
      slots = omega arith;
      faults = omega arith;
      at = λ t at. (
        [],
        rw (asks_none (own first) l t) (record { at = at; speaks = speaks_same first.seat.cluster t.client }),
        rose_none before before (omega arith),
      );
    }

-- one more was
more_at : {V S : Type 0} {v : verifiers.Ghosts V} {g : signers.Ghosts S} (first now next : Client V S v g) (l : Listing)
    (told mid after : Option LinkState) (e between later : Errands) (before count counted : ℕ) (sent : Bool) (t : Talk) →
    Asking first now l told mid e between before count → own next ≡ own now → next.seat ≡ now.seat →
    ((u : Talk) → IsTalk now mid between u → HasAskedOne next l after later u sent count counted) → IsTalk first told e t →
    (fates : List Fate) × HasTaken next after later t (asks (own first) l t fates) sent × RoseBy (failures fates) before counted
more_at first now next l told mid after e between later before count counted sent t k self seat h at =
    let so = k.at t at in
    let fates = so.0 in
    let u = asks (own first) l t fates in
    let did = h u so.1.at in
    let same : own next ≡ own first = self ∙ k.self in
    let all : asks (own first) l t (fates ++ did.fate ∷ []) ≡ asks_next (own next) l u did.fate =
    asks_then (own first) l t fates (did.fate ∷ []) ∙ asks_one (own first) l u did.fate
    ∙ ap (λ (me : ClientSelf). asks_next me l u did.fate) (sym same) in
    let last : failures (did.fate ∷ []) ≡ failures_of did.fate = omega arith in
    let sum : failures (fates ++ did.fate ∷ []) ≡ failures fates + failures_of did.fate =
    failures_then fates (did.fate ∷ []) ∙ ap (λ (k : ℕ). failures fates + k) last in (
      fates ++ did.fate ∷ [],
      rw all
          (record {
            at = did.taken.at;
            speaks = speaks_then next.seat.cluster t.client u.client (asks_next (own next) l u did.fate).client false sent
                (subst (λ s. Speaks s.cluster t.client u.client false) (sym seat) so.1.speaks)
                did.taken.speaks;
          }),
      rw sum (rose_then (failures fates) (failures_of did.fate) before count counted so.2 did.failed),
    )

pub asking_more : {V S : Type 0} {v : verifiers.Ghosts V} {g : signers.Ghosts S} (first now next : Client V S v g) (l : Listing)
    (told mid after : Option LinkState) (e between later : Errands) (before count counted : ℕ) →
    (sent : Bool) → Asking first now l told mid e between before count → sent ≡ false → own next ≡ own now → next.seat ≡ now.seat →
    KeepsSlots now.held next.held → count ≤ counted →
    ((u : Talk) → IsTalk now mid between u → HasAskedOne next l after later u sent count counted) →
    Asking first next l told after e later before counted
asking_more first now next l told mid after e between later before count counted sent k none self seat slots risen h =
    let kept = k.slots in
    let faults = k.faults in
    record {
      self = self ∙ k.self;
      seat = seat ∙ k.seat;
      slots = omega (arith, kept, slots);
      faults = omega (arith, faults, risen);
      at = λ t at. more_at first now next l told mid after e between later before count counted false t k self seat
          (λ u there. subst (λ b. HasAskedOne next l after later u b count counted) none (h u there)) at;
    }

pub asked_until_sent : {V S : Type 0} {v : verifiers.Ghosts V} {g : signers.Ghosts S} (first now next : Client V S v g)
    (l : Listing) (told mid after : Option LinkState) (e between later : Errands) (before count counted : ℕ) (sent : Bool) (t : Talk) →
    Asking first now l told mid e between before count → sent ≡ true → own next ≡ own now → next.seat ≡ now.seat →
    ((u : Talk) → IsTalk now mid between u → HasAskedOne next l after later u sent count counted) → IsTalk first told e t →
    HasAskedSome next l after later t sent before counted
asked_until_sent first now next l told mid after e between later before count counted sent t k some self seat h at =
    let so = more_at first now next l told mid after e between later before count counted sent t k self seat h at in
    let same : own next ≡ own first = self ∙ k.self in
    record {
      fates = so.0;
      taken = subst (λ (me : ClientSelf). HasTaken next after later t (asks me l t so.0) sent) (sym same) so.1;
      still = λ h. absurd (both_ways sent h some);
      failed = so.2;
    }

pub asked_to_end : {V S : Type 0} {v : verifiers.Ghosts V} {g : signers.Ghosts S} (first now : Client V S v g)
    (l : Listing) (told after : Option LinkState) (e later : Errands) (before count : ℕ) (t : Talk) →
    Asking first now l told after e later before count → length later.out.messages.items ≤ later.asked → IsTalk first told e t →
    HasAskedSome now l after later t false before count
asked_to_end first now l told after e later before count t k all at =
    let so = k.at t at in
    record {
      fates = so.0;
      taken = subst (λ (me : ClientSelf). HasTaken now after later t (asks me l t so.0) false) (sym k.self) so.1;
      still = λ h.
          subst (λ (me : ClientSelf). (asks me l t so.0).queue ≡ []) (sym k.self)
          (so.1.at.queue ∙ drop_all later.asked later.out.messages.items all);
      failed = so.2;
    }

-- ---- until nothing waits

-- at each turn the client sent something
pub record Turning {V S : Type 0} {v : verifiers.Ghosts V} {g : signers.Ghosts S} (first now : Client V S v g) (l : Listing)
    (told after : Option LinkState) (e later : Errands) (before count turn : ℕ) : Type 0 where
  pub self : own now ≡ own first
  pub seat : now.seat ≡ first.seat
  pub slots : KeepsSlots first.held now.held
  pub faults : before ≤ count
  pub at : (t : Talk) → IsTalk first told e t → (fates : List Fate) × (u : Talk) × (u ≡ asks (own first) l t fates)
      × IsTalk now after later u × (length u.client.slots ≡ length t.client.slots)
      × (said first.seat.cluster t.client.slots + turn ≤ said first.seat.cluster u.client.slots)
      × RoseBy (failures fates) before count

pub turning_none : {V S : Type 0} {v : verifiers.Ghosts V} {g : signers.Ghosts S} (first : Client V S v g) (l : Listing)
    (told : Option LinkState) (e : Errands) (before turn : ℕ) → turn ≡ 0 → Turning first first l told told e e before before turn
turning_none first l told e before turn none =
    record {
      self = refl;
      seat = refl;
      slots = omega arith;
      faults = omega arith;
      at = λ t at. ([], t, sym (asks_none (own first) l t), at, refl, omega (arith, none), rose_none before before (omega arith));
    }

module _ {V S : Type 0} {v : verifiers.Ghosts V} {g : signers.Ghosts S} (first now next : Client V S v g) (l : Listing)
    (told mid after : Option LinkState) (e between later : Errands) (before count counted turn : ℕ)
    (k : Turning first now l told mid e between before count turn) (self : own next ≡ own now) (seat : next.seat ≡ now.seat) where
  pub turning_more : (sent : Bool) → sent ≡ true → KeepsSlots now.held next.held → count ≤ counted →
      ((u : Talk) → IsTalk now mid between u → HasAskedSome next l after later u sent count counted) →
      Turning first next l told after e later before counted (turn + 1)
  turning_more sent some slots risen h =
      let kept = k.slots in
      let faults = k.faults in
      record {
        self = self ∙ k.self;
        seat = seat ∙ k.seat;
        slots = omega (arith, kept, slots);
        faults = omega (arith, faults, risen);
        at = λ t at.
            let so = k.at t at in
            let u = so.1 in
            let did = h u so.3 in
            let w = asks (own next) l u did.fates in
            let same : own next ≡ own first = self ∙ k.self in
            let is : w ≡ asks (own first) l t (so.0 ++ did.fates) =
            ap (λ (me : ClientSelf). asks me l u did.fates) same
            ∙ ap (λ (x : Talk). asks (own first) l x did.fates) so.2 ∙ sym (asks_then (own first) l t so.0 did.fates) in
            let speaks : Speaks first.seat.cluster u.client w.client sent =
            subst (λ s. Speaks s.cluster u.client w.client sent) (seat ∙ k.seat) did.taken.speaks in
            let more = speaks.more some in
            let so_far = so.5 in (
              so.0 ++ did.fates,
              w,
              is,
              did.taken.at,
              speaks.slots ∙ so.4,
              omega (arith, more, so_far),
              rw (failures_then so.0 did.fates)
                  (rose_then (failures so.0) (failures did.fates) before count counted so.6 did.failed),
            );
      }

  pub asked_all : (sent : Bool) → sent ≡ false → (t : Talk) →
      ((u : Talk) → IsTalk now mid between u → HasAskedSome next l after later u sent count counted) →
      IsTalk first told e t → HasAskedAll next l after later t before counted
  asked_all sent none t h at =
      let so = k.at t at in
      let u = so.1 in
      let did = h u so.3 in
      let w = asks (own next) l u did.fates in
      let same : own next ≡ own first = self ∙ k.self in
      let is : w ≡ asks (own next) l t (so.0 ++ did.fates) =
      ap (λ (x : Talk). asks (own next) l x did.fates) (so.2 ∙ ap (λ (me : ClientSelf). asks me l t so.0) (sym same))
      ∙ sym (asks_then (own next) l t so.0 did.fates) in
      record {
        new = w;
        at = did.taken.at;
        failed = failures (so.0 ++ did.fates);
        asks = record { fates = so.0 ++ did.fates; asked = is; still = did.still none; counted = refl };
        risen = rw (failures_then so.0 did.fates)
            (rose_then (failures so.0) (failures did.fates) before count counted so.6 did.failed);
      }

-- there can't be so many turns
pub turned_out : {V S : Type 0} {v : verifiers.Ghosts V} {g : signers.Ghosts S} (first now : Client V S v g) (l : Listing)
    (told after : Option LinkState) (e later : Errands) (before count turn slots : ℕ) (t : Talk) → SpeaksTwice →
    Turning first now l told after e later before count turn → 2 * slots + 1 ≤ turn →
    ((v : ClientValue) → ShowsClient first v → slots ≡ length v.slots) → IsTalk first told e t →
    HasAskedAll now l after later t before count
turned_out first now l told after e later before count turn slots t law k out shown at =
    let so = k.at t at in
    let u = so.1 in
    let few = law.most first.seat.cluster u.client.slots in
    let same = so.4 in
    let so_far = so.5 in
    let held = shown t.client at.client_is in
    absurd (omega (arith, few, same, so_far, held, out))
