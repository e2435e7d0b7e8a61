-- Frames that end with one signature, and the messages that they are.
use Rattle.std.proofs.Common.{◌≡◌, ℕ, zero, suc, ◌+◌, ◌<◌, Bool, cond, List, [], ◌∷◌, ◌++◌, length, map, Some, None, refl, sym, ap, ◌∙◌}
use Rattle.std.proofs.Common.{arith}
use Rattle.std.specs.Prelude.{take, slice_index_or}
use Rattle.std.proofs.lemmas.Bool.{le-ltb, lt-ltb}
use Rattle.basil_types.specs.declared.outbox.Envelope.{Envelope}
use Rattle.basil_types.specs.declared.party.Party.{Party}
use Rattle.basil_types.specs.Transaction.{long_text}
use Rattle.frame_views.specs.Spelling.{spelling}
use Rattle.frame_views.specs.Values.{MessageValue}
use Rattle.node_steps.specs.declared.pending.Unsigned.{Unsigned}
use Rattle.node_steps.specs.declared.pending.Pending.{Pending}
use Rattle.node_steps.specs.Envelopes.{EnvelopeValue}
use Rattle.node_steps.specs.Framed.{framed}
use Rattle.node_steps.specs.Pendings.{Front, front_of, fronts_of, seal_front, sealed, sealed_all}
use Rattle.node_steps.specs.Pens.{pen_value}
use Rattle.replica_core.specs.declared.refusal.Refusal.TheVariants.{Exhausted, StaleView}
use Rattle.replica_core.specs.ElectFronts.{front_for}
use Rattle.replica_core.specs.Invokes.{stale}
use Rattle.replica_core.specs.Signing.{exhausted}

map_sealed : (s : List ℕ) (us : List Unsigned) → map (sealed s) us ≡ map (seal_front s) (map front_of us)
map_sealed s [] = refl
map_sealed s (u ∷ us) = ap (λ l. sealed s u ∷ l) (map_sealed s us)

sent_all : {A : Type 0} (m : MessageValue) (bytes g : List ℕ) → spelling m ≡ bytes ++ long_text g → (to : A → Party) (xs : List A)
    → map framed (map (λ x. let e : EnvelopeValue = record { to = to x; message = m } in e) xs) ≡ map (seal_front g)
    (map (front_for bytes) (map to xs))
sent_all m bytes g law to [] = refl
sent_all m bytes g law to (x ∷ xs) =
    ap (λ (b : List ℕ). let e : Envelope = record { to = to x; frame = b } in e ∷ map framed
    (map (λ x. let e : EnvelopeValue = record { to = to x; message = m } in e) xs)) law
    ∙ ap (λ l. seal_front g (front_for bytes (to x)) ∷ l) (sent_all m bytes g law to xs)

-- what waits for these parties is sent to them
pub sends : {A : Type 0} (m : MessageValue) (bytes g : List ℕ) (p : Pending) (to : A → Party) (xs : List A)
    → spelling m ≡ bytes ++ long_text g → fronts_of p ≡ map (front_for bytes) (map to xs)
    → map framed (map (λ x. let e : EnvelopeValue = record { to = to x; message = m } in e) xs) ≡ sealed_all g p
sends m bytes g p to xs law fronts = sent_all m bytes g law to xs ∙ sym (ap (map (seal_front g)) fronts) ∙ sym (map_sealed g p.frames.items)

-- and what waits for one is sent to it
pub sends_one : (m : MessageValue) (bytes g : List ℕ) (p : Pending) (to : Party) → spelling m ≡ bytes ++ long_text g
    → fronts_of p ≡ front_for bytes to ∷ []
    → framed (let e : EnvelopeValue = record { to = to; message = m } in e) ∷ [] ≡ sealed_all g p
sends_one m bytes g p to law fronts = sends m bytes g p (λ (x : Party). x) (to ∷ []) law fronts

-- ---- one by one

take_next : (F : Party → Front) (ps : List Party) (k : ℕ) (d : Party) → k < length ps
    → take (suc k) (map F ps) ≡ take k (map F ps) ++ F (slice_index_or ps k d) ∷ []
take_next F [] k d h = absurd (omega (arith, h))
take_next F (p ∷ ps) zero d h = refl
take_next F (p ∷ ps) (suc k) d h = ap (λ l. F p ∷ l) (take_next F ps k d (omega (arith, h)))

map_push : (fs : List Unsigned) (u : Unsigned) → map front_of (fs ++ u ∷ []) ≡ map front_of fs ++ front_of u ∷ []
map_push [] u = refl
map_push (f ∷ fs) u = ap (λ l. front_of f ∷ l) (map_push fs u)

pub next_front : (F : Party → Front) (ps : List Party) (k : ℕ) (d : Party) (fs ns : List Unsigned) (u : Unsigned) → ns ≡ fs ++ u ∷ []
    → front_of u ≡ F (slice_index_or ps k d) → k < length ps → map front_of fs ≡ take k (map F ps)
    → map front_of ns ≡ take (k + 1) (map F ps)
next_front F ps k d fs ns u n f h e =
    let i : k + 1 ≡ suc k = omega arith in
    ap (map front_of) n ∙ map_push fs u ∙ ap (λ l. l ++ front_of u ∷ []) e ∙ ap (λ x. take k (map F ps) ++ x ∷ []) f
    ∙ sym (ap (λ n. take n (map F ps)) i ∙ take_next F ps k d h)

-- ---- refusals that don't hold

pub can_sign : (spent left : ℕ) → (left ≡ 0 → ⊥) → exhausted 1 (pen_value spent left) ≡ None
can_sign spent left n = ap (λ (b : Bool). cond b (Some (Exhausted left)) None) (le-ltb left 1 (omega (arith, n)))

pub is_raised : (current view : ℕ) → current < view → stale current view ≡ None
is_raised current view h = ap (λ (b : Bool). cond b None (Some (StaleView current))) (lt-ltb current view h)
