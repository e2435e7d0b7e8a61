-- What a talk comes to as an answer is taken.
use Rattle.std.proofs.Common.{◌≡◌, ℕ, zero, suc, ◌+◌, ◌-◌, ◌≤◌, Bool, true, false, cond, List, [], ◌∷◌, ◌++◌, length, drop}
use Rattle.std.proofs.Common.{Option, Ok, Err, not, refl, sym, ap, subst, ◌∙◌, arith}
use Rattle.std.specs.Prelude.{◌||◌, ◌==◌, map}
use Rattle.std.proofs.lemmas.Bool.{eq-eqb, eqb-false, eqb-true, ne_eqb, not-false, not-true}
use Rattle.std.proofs.lemmas.List.{length-append, drop-append-le}
use Rattle.basil_types.specs.declared.outbox.Envelope.{Envelope}
use Rattle.basil_types.specs.Links.{LinkState}
use Rattle.basil_types.specs.Setting.{Setting}
use Rattle.certificates.specs.declared.fault.FrameFault.{FrameFault}
use Rattle.client_core.specs.Shown.{own, ShowsClient}
use Rattle.client_core.specs.Answers.{on_frame}
use Rattle.client_core.specs.Clients.{ClientDone, ClientSelf, ClientValue}
use Rattle.client_core.specs.declared.client.Client.{Client}
use Rattle.client_core.specs.Done.{KeepsSlots, SameOutbox, Sends}
use Rattle.client_laws.specs.Saying.{Says, SpeaksTwice}
use Rattle.client_laws.specs.Steps.{left_by}
use Rattle.keyring.specs.declared.verifier.Verifier as verifiers
use Rattle.keyring.specs.declared.signer.Signer as signers
use Rattle.node_steps.specs.Framed.{framed}
use Rattle.client_link.specs.declared.errands.Errands.{Errands}
use Rattle.client_link.specs.Having.{Carries, Full, Joins, HasTaken, IsTalk, SameWork, Speaks}
use Rattle.client_link.specs.Talking.{Talk, answered, carries, takes, takes_all}

-- ---- what is said

pub speaks_same : (c : Setting) (v : ClientValue) → Speaks c v v false
speaks_same c v = record { slots = refl; later = omega arith; more = λ h. absurd cc }

either : (a b : Bool) (P : Type 0) → (a ≡ true → P) → (b ≡ true → P) → (a || b) ≡ true → P
either true b P f g h = f refl
either false b P f g h = g h

pub speaks_then : (c : Setting) (u v w : ClientValue) (a b : Bool) → Speaks c u v a → Speaks c v w b → Speaks c u w (a || b)
speaks_then c u v w a b p q =
    let one = p.later in
    let two = q.later in
    record {
      slots = q.slots ∙ p.slots;
      later = omega (arith, one, two);
      more = either a b _ (λ h. let more = p.more h in omega (arith, more, two)) (λ h. let more = q.more h in omega (arith, one, more));
    }

-- ---- messages more

-- an outbox with messages more
pub talk_sent : {V S : Type 0} {v : verifiers.Ghosts V} {g : signers.Ghosts S} (old new : Client V S v g) (told : Option LinkState)
    (e after : Errands) (t : Talk) (d : ClientDone) → IsTalk old told e t → ShowsClient new d.client →
    after.out.messages.items ≡ e.out.messages.items ++ map framed d.sent → after.asked ≡ e.asked → after.left ≡ e.left →
    IsTalk new told after (answered t (Ok d))
talk_sent old new told e after t d at shows more asked left =
    let within = at.within in
    let count : length after.out.messages.items ≡ length e.out.messages.items + length (map framed d.sent) =
    ap length more ∙ length-append e.out.messages.items (map framed d.sent) in
    record {
      client_is = shows;
      links = at.links;
      within = omega (arith, within, count, asked);
      queue = ap (λ (q : List Envelope). q ++ map framed d.sent) at.queue
          ∙ sym (drop-append-le e.asked e.out.messages.items (map framed d.sent) at.within)
          ∙ ap (drop e.asked) (sym more) ∙ ap (λ (k : ℕ). drop k after.out.messages.items) (sym asked);
      left = left ∙ at.left;
    }

-- the same messages
pub talk_same : {V S : Type 0} {v : verifiers.Ghosts V} {g : signers.Ghosts S} (old new : Client V S v g) (told : Option LinkState)
    (e after : Errands) (t : Talk) → IsTalk old told e t → ShowsClient new t.client →
    after.out.messages.items ≡ e.out.messages.items → after.asked ≡ e.asked → after.left ≡ e.left → IsTalk new told after t
talk_same old new told e after t at shows same asked left =
    let within = at.within in
    let count : length after.out.messages.items ≡ length e.out.messages.items = ap length same in
    record {
      client_is = shows;
      links = at.links;
      within = omega (arith, within, count, asked);
      queue = at.queue ∙ ap (drop e.asked) (sym same) ∙ ap (λ (k : ℕ). drop k after.out.messages.items) (sym asked);
      left = left ∙ at.left;
    }

-- ---- a frame for the client

some_sent : (a b n : ℕ) → a ≡ b + n → not (a == b) ≡ true → 1 ≤ n
some_sent a b zero e h = absurd (eqb-false a b (not-true (a == b) h) (omega (arith, e)))
some_sent a b (suc n) e h = omega arith

map_length : {A B : Type 0} (f : A → B) (xs : List A) → length (map f xs) ≡ length xs
map_length f [] = refl
map_length f (x ∷ xs) = ap suc (map_length f xs)

pub handed : {V S : Type 0} {v : verifiers.Ghosts V} {g : signers.Ghosts S} (old new : Client V S v g) (told : Option LinkState)
    (e after : Errands) (t : Talk) (frame : List ℕ) (sent : Bool) → SpeaksTwice → new.seat ≡ old.seat → IsTalk old told e t →
    (d : ClientDone) × (on_frame (own old) t.client frame ≡ Ok d) × (ShowsClient new d.client × Sends e.out after.out d) →
    after.asked ≡ e.asked → after.left ≡ e.left →
    sent ≡ not (length after.out.messages.items == length e.out.messages.items) →
    HasTaken new told after t (answered t (on_frame (own old) t.client frame)) sent
handed old new told e after t frame sent law seat at done asked left is =
    let d = done.0 in
    let answer = done.1 in
    let shows = done.2.0 in
    let sends = done.2.1 in
    let says : Says old.seat.cluster t.client d =
    subst (λ r. Says old.seat.cluster t.client (left_by t.client r)) answer (law.says (own old) t.client frame) in
    let count : length after.out.messages.items ≡ length e.out.messages.items + length d.sent =
    ap length sends.messages ∙ length-append e.out.messages.items (map framed d.sent)
    ∙ ap (λ (k : ℕ). length e.out.messages.items + k) (map_length framed d.sent) in
    subst (λ r. HasTaken new told after t (answered t r) sent) (sym answer)
    (record {
      at = talk_sent old new told e after t d at shows sends.messages asked left;
      speaks = subst (λ s. Speaks s.cluster t.client d.client sent) (sym seat)
          (record {
            slots = says.slots;
            later = says.later;
            more = λ h. says.more (some_sent (length after.out.messages.items) (length e.out.messages.items) (length d.sent) count
                (sym is ∙ h));
          });
    })

pub not_handed : {V S : Type 0} {v : verifiers.Ghosts V} {g : signers.Ghosts S} (old new : Client V S v g) (told : Option LinkState)
    (e after : Errands) (t : Talk) (frame : List ℕ) (fault : FrameFault) → IsTalk old told e t →
    on_frame (own old) t.client frame ≡ Err fault → ShowsClient new t.client → SameOutbox e.out after.out →
    after.asked ≡ e.asked → after.left ≡ e.left → HasTaken new told after t (answered t (on_frame (own old) t.client frame)) false
not_handed old new told e after t frame fault at answer shows same asked left =
    subst (λ r. HasTaken new told after t (answered t r) false) (sym answer)
    (record {
      at = talk_same old new told e after t at shows same.messages asked left;
      speaks = speaks_same new.seat.cluster t.client;
    })

equal_by : (a b : ℕ) → not (a == b) ≡ false → a ≡ b
equal_by a b h = eqb-true a b (not-false (a == b) h)

pub work_same : (e after : Errands) → after.asked ≡ e.asked → after.left ≡ e.left →
    not (length after.out.messages.items == length e.out.messages.items) ≡ false → SameWork e after
work_same e after asked left h =
    let same = equal_by (length after.out.messages.items) (length e.out.messages.items) h in
    record { sum = omega (arith, same, left); grows = omega (arith, same); asked = asked }

pub work_kept : (e after : Errands) → after.asked ≡ e.asked → after.left ≡ e.left → SameOutbox e.out after.out → SameWork e after
work_kept e after asked left same =
    let count : length after.out.messages.items ≡ length e.out.messages.items = ap length same.messages in
    record { sum = omega (arith, count, left); grows = omega (arith, count); asked = asked }

pub work_none : (e : Errands) → SameWork e e
work_none e = record { sum = refl; grows = omega arith; asked = refl }

-- ---- an envelope for a replica

pub carried : {V S : Type 0} {v : verifiers.Ghosts V} {g : signers.Ghosts S} (client : Client V S v g) (told : Option LinkState)
    (e after : Errands) (t : Talk) (x : Envelope) → Carries e after x → IsTalk client told e t → IsTalk client told after (carries t x)
carried client told e after t x (Full none same) at =
    let no : t.left ≡ 0 = sym at.left ∙ none in
    let stays : carries t x ≡ t =
    ap (λ (b : Bool). cond b t (record t { queue = t.queue ++ x ∷ []; left = t.left - 1 })) (eq-eqb t.left 0 no) in
    rw (stays, same) at
carried client told e after t x (Joins more left asked) at =
    let some : t.left ≡ suc after.left = sym at.left ∙ omega (arith, left) in
    let joins : carries t x ≡ record t { queue = t.queue ++ x ∷ []; left = t.left - 1 } =
    ap (λ (b : Bool). cond b t (record t { queue = t.queue ++ x ∷ []; left = t.left - 1 }))
    (ne_eqb t.left 0 (λ z. omega (arith, some, z))) in
    let within = at.within in
    let count : length after.out.messages.items ≡ length e.out.messages.items + 1 =
    ap length more ∙ length-append e.out.messages.items (x ∷ []) in
    rw joins
    (record {
      client_is = at.client_is;
      links = at.links;
      within = omega (arith, within, count, asked);
      queue = ap (λ (q : List Envelope). q ++ x ∷ []) at.queue
          ∙ sym (drop-append-le e.asked e.out.messages.items (x ∷ []) at.within)
          ∙ ap (drop e.asked) (sym more) ∙ ap (λ (k : ℕ). drop k after.out.messages.items) (sym asked);
      left = omega (arith, some);
    })

pub carries_work : (e after : Errands) (x : Envelope) → Carries e after x → SameWork e after
carries_work e after x (Full none same) = rw same (work_none e)
carries_work e after x (Joins more left asked) =
    let count : length after.out.messages.items ≡ length e.out.messages.items + 1 =
    ap length more ∙ length-append e.out.messages.items (x ∷ []) in
    record { sum = omega (arith, count, left); grows = omega (arith, count); asked = asked }

pub has_carried : {V S : Type 0} {v : verifiers.Ghosts V} {g : signers.Ghosts S} (client : Client V S v g) (told : Option LinkState)
    (e after : Errands) (t : Talk) (x : Envelope) → Carries e after x → IsTalk client told e t →
    HasTaken client told after t (carries t x) false
has_carried client told e after t x c at =
    record {
      at = carried client told e after t x c at;
      speaks = same_client client.seat.cluster;
    }
  where
    same_client : (cl : Setting) → Speaks cl t.client (carries t x).client false
    same_client cl = by (t.left == 0)
      where
        by : (b : Bool) → Speaks cl t.client (cond b t (record t { queue = t.queue ++ x ∷ []; left = t.left - 1 })).client false
        by true = speaks_same cl t.client
        by false = speaks_same cl t.client

-- ---- one envelope after the other

pub taken_none : (me : ClientSelf) (t : Talk) → takes_all me t [] ≡ t
unfolding takes_all
taken_none me t = refl

pub taken_first : (me : ClientSelf) (t : Talk) (x : Envelope) (xs : List Envelope) →
    takes_all me t (x ∷ xs) ≡ takes_all me (takes me t x) xs
unfolding takes_all
taken_first me t x xs = refl

-- since a first moment of the loop some were taken, and these are left
pub record Taking {V S : Type 0} {v : verifiers.Ghosts V} {g : signers.Ghosts S} (first now : Client V S v g) (e after : Errands)
    (all left : List Envelope) (sent : Bool) : Type 0 where
  pub self : own now ≡ own first
  pub seat : now.seat ≡ first.seat
  pub slots : KeepsSlots first.held now.held
  pub asked : after.asked ≡ e.asked
  pub kept : sent ≡ false → SameWork e after
  pub at : (told : Option LinkState) (t : Talk) → IsTalk first told e t →
      (u : Talk) × HasTaken now told after t u sent × (takes_all (own first) t all ≡ takes_all (own first) u left)

pub taking_none : {V S : Type 0} {v : verifiers.Ghosts V} {g : signers.Ghosts S} (first : Client V S v g) (e : Errands)
    (all : List Envelope) → Taking first first e e all all false
taking_none first e all =
    record {
      self = refl;
      seat = refl;
      slots = omega arith;
      asked = refl;
      kept = λ h. work_none e;
      at = λ told t at. (t, record { at = at; speaks = speaks_same first.seat.cluster t.client }, refl);
    }

work_then : (e mid after : Errands) → SameWork e mid → SameWork mid after → SameWork e after
work_then e mid after p q =
    let a = p.sum in
    let b = q.sum in
    let c = p.grows in
    let d = q.grows in
    record { sum = b ∙ a; grows = omega (arith, c, d); asked = q.asked ∙ p.asked }

neither : (a b : Bool) → (a || b) ≡ false → (a ≡ false) × (b ≡ false)
neither true b h = absurd cc
neither false b h = (refl, h)

pub taking_more : {V S : Type 0} {v : verifiers.Ghosts V} {g : signers.Ghosts S} (first now next : Client V S v g)
    (e mid after : Errands) (all whole left : List Envelope) (x : Envelope) (sent more : Bool) (result : Bool) →
    Taking first now e mid all whole sent → whole ≡ x ∷ left → result ≡ (sent || more) → own next ≡ own now → next.seat ≡ now.seat →
    KeepsSlots now.held next.held → after.asked ≡ mid.asked → (more ≡ false → SameWork mid after) →
    ((told : Option LinkState) (t : Talk) → IsTalk now told mid t → HasTaken next told after t (takes (own now) t x) more) →
    Taking first next e after all left result
taking_more first now next e mid after all whole left x sent more result k items is self seat slots asked work h =
    let slots_before = k.slots in
    rw is
    (record {
      self = self ∙ k.self;
      seat = seat ∙ k.seat;
      slots = omega (arith, slots_before, slots);
      asked = asked ∙ k.asked;
      kept = λ none. let both = neither sent more none in work_then e mid after (k.kept both.0) (work both.1);
      at = λ told t at.
          let so = k.at told t at in
          let u = so.0 in
          let did = h told u so.1.at in
          let me : takes (own now) u x ≡ takes (own first) u x = ap (λ (m : ClientSelf). takes m u x) k.self in (
            takes (own first) u x,
            record {
              at = subst (λ (w : Talk). IsTalk next told after w) me did.at;
              speaks = speaks_then next.seat.cluster t.client u.client (takes (own first) u x).client sent more
                  (subst (λ s. Speaks s.cluster t.client u.client sent) (sym seat) so.1.speaks)
                  (subst (λ (w : Talk). Speaks next.seat.cluster u.client w.client more) me did.speaks);
            },
            so.2 ∙ ap (takes_all (own first) u) items ∙ taken_first (own first) u x left,
          );
    })

pub taken_all : {V S : Type 0} {v : verifiers.Ghosts V} {g : signers.Ghosts S} (first now : Client V S v g) (e after : Errands)
    (all left : List Envelope) (sent : Bool) (told : Option LinkState) (t : Talk) → Taking first now e after all left sent → left ≡ [] →
    IsTalk first told e t → HasTaken now told after t (takes_all (own first) t all) sent
taken_all first now e after all left sent told t k none at =
    let so = k.at told t at in
    let is : takes_all (own first) t all ≡ so.0 =
    so.2 ∙ ap (takes_all (own first) so.0) none ∙ taken_none (own first) so.0 in
    subst (λ (w : Talk). HasTaken now told after t w sent) (sym is) so.1
