-- Times rise.
use Rattle.std.proofs.Common.{◌≡◌, ℕ, zero, suc, ◌<◌, ◌≤◌, Bool, true, false, cond, List, [], ◌∷◌, ◌++◌, append-nil, Some, refl, sym, ap}
use Rattle.std.proofs.Common.{subst, ◌∙◌, arith}
use Rattle.std.specs.Prelude.{slice_get, slice_set, filter, map}
use Rattle.std.proofs.lemmas.List.{map-append}
use Rattle.std.proofs.lemmas.List.Elements.{filter-append}
use Rattle.std.proofs.lemmas.Option.{same_Some}
use Rattle.client_core.specs.Calls.{begun_slot, recovered_slot}
use Rattle.client_core.specs.Clients.{ClientDone, ClientSelf, ClientValue, SlotValue, empty_client}
use Rattle.client_laws.specs.Steps.{Step, RiseAbove, TimesRise, begun_times, client_after, step}
use Rattle.client_laws.proofs.Changing.{Change, Keeps, Begins, Edits, Forms, Pursues, Recovers, changes}

-- each stands above the one before it, and none above the last
abbrev RiseTo : (floor last : ℕ) → List ℕ → Type 0
RiseTo floor last [] = floor ≤ last
RiseTo floor last (n ∷ ns) = (floor < n) × RiseTo n last ns

rises : (floor last : ℕ) (ns : List ℕ) → RiseTo floor last ns → RiseAbove floor ns
rises floor last [] h = tt
rises floor last (n ∷ ns) h = (h.0, rises n last ns h.1)

one_more : (floor last time : ℕ) (ns : List ℕ) → last < time → RiseTo floor last ns → RiseTo floor time (ns ++ time ∷ [])
one_more floor last time [] above h = (omega (arith, above, h), omega arith)
one_more floor last time (n ∷ ns) above h = (h.0, one_more n last time ns above h.1)

-- ---- the times of slots

times_cons : (s : SlotValue) (slots : List SlotValue) →
    begun_times (s ∷ slots) ≡ cond s.begun (s.time ∷ begun_times slots) (begun_times slots)
times_cons s slots = by s.begun
  where
    by : (b : Bool) →
        map (λ (s : SlotValue). s.time) (cond b (s ∷ filter (λ (s : SlotValue). s.begun) slots) (filter (λ (s : SlotValue). s.begun) slots))
        ≡ cond b (s.time ∷ begun_times slots) (begun_times slots)
    by true = refl
    by false = refl

times_push : (slots : List SlotValue) (s : SlotValue) → begun_times (slots ++ s ∷ []) ≡ begun_times slots ++ begun_times (s ∷ [])
times_push slots s =
    ap (map (λ (s : SlotValue). s.time)) (filter-append (λ (s : SlotValue). s.begun) slots (s ∷ []))
    ∙ map-append (λ (s : SlotValue). s.time) (filter (λ (s : SlotValue). s.begun) slots) (filter (λ (s : SlotValue). s.begun) (s ∷ []))

times_head : (x y : SlotValue) (slots : List SlotValue) → y.begun ≡ x.begun → y.time ≡ x.time →
    begun_times (y ∷ slots) ≡ begun_times (x ∷ slots)
times_head x y slots begun time =
    times_cons y slots ∙ ap (λ b. cond b (y.time ∷ begun_times slots) (begun_times slots)) begun
    ∙ ap (λ t. cond x.begun (t ∷ begun_times slots) (begun_times slots)) time ∙ sym (times_cons x slots)

times_set : (slots : List SlotValue) (k : ℕ) (x y : SlotValue) → slice_get slots k ≡ Some x → y.begun ≡ x.begun → y.time ≡ x.time →
    begun_times (slice_set slots k y) ≡ begun_times slots
times_set [] k x y at begun time = absurd cc
times_set (z ∷ zs) zero x y at begun time =
    times_head x y zs begun time ∙ ap (λ (s : SlotValue). begun_times (s ∷ zs)) (sym (same_Some z x at))
times_set (z ∷ zs) (suc k) x y at begun time =
    times_cons z (slice_set zs k y) ∙ ap (λ (l : List ℕ). cond z.begun (z.time ∷ l) l) (times_set zs k x y at begun time)
    ∙ sym (times_cons z zs)

-- ---- steps

abbrev AreRising : ClientValue → Type 0
AreRising client = RiseTo 0 client.last (begun_times client.slots)

module _ (me : ClientSelf) (client : ClientValue) (s : Step) (d : ClientDone) (h : AreRising client) where
  slot_set : (k : ℕ) (x y : SlotValue) → slice_get client.slots k ≡ Some x → y.begun ≡ x.begun → y.time ≡ x.time →
      RiseTo 0 client.last (begun_times (slice_set client.slots k y))
  slot_set k x y at begun time = subst (RiseTo 0 client.last) (sym (times_set client.slots k x y at begun time)) h

  by_change : Change me client s d → AreRising d.client
  by_change (Keeps is calm) = subst AreRising (sym is) h
  by_change (Begins time above is) =
      subst (λ (x : ClientDone). AreRising x.client) (sym is)
      (subst (RiseTo 0 time) (sym (times_push client.slots (begun_slot time)))
      (one_more 0 client.last time (begun_times client.slots) above h))
  by_change (Edits e) = subst AreRising (sym e.is) (slot_set e.slot e.x _ e.at refl refl)
  by_change (Forms f) = subst (λ (x : ClientDone). AreRising x.client) (sym f.is) (slot_set f.slot f.x _ f.at refl refl)
  by_change (Pursues p) = subst (λ (x : ClientDone). AreRising x.client) (sym p.is) (slot_set p.slot p.x _ p.at refl refl)
  by_change (Recovers t signature is calm) =
      subst AreRising (sym is)
      (subst (RiseTo 0 client.last) (sym (times_push client.slots (recovered_slot t signature) ∙ append-nil (begun_times client.slots))) h)

all_rise : (me : ClientSelf) (client : ClientValue) (ss : List Step) → AreRising client → AreRising (client_after me client ss)
all_rise me client [] h = h
all_rise me client (s ∷ ss) h =
    all_rise me (step me client s).client ss (by_change me client s (step me client s) h (changes me client s))

pub times_rise : TimesRise
times_rise me pen ss =
    let h = all_rise me (empty_client pen) ss (omega arith) in rises 0 (client_after me (empty_client pen) ss).last _ h
