-- What a step does to a transaction that is pursued.
use Rattle.std.proofs.Common.{◌≡◌, ℕ, zero, suc, Bool, true, false, List, [], ◌∷◌, ◌++◌, Option, Some, None, refl, sym, ap, subst, ◌∙◌, ◌⊎◌}
use Rattle.std.proofs.Common.{inl, inr}
use Rattle.std.specs.Prelude.{slice_get, slice_set, is_some, ◌||◌, option_and_then, Contains, if◌then◌else◌}
use Rattle.std.specs.Option.{option_map_or}
use Rattle.std.proofs.lemmas.Bool.{cases_eq}
use Rattle.std.proofs.lemmas.Option.{same_Some}
use Rattle.basil_types.proofs.MemberLaws.{in_none}
use Rattle.basil_types.specs.Built.{or_else}
use Rattle.basil_types.specs.Setting.{Setting}
use Rattle.basil_types.specs.Transaction.{TransactionValue}
use Rattle.client_recover.specs.Certifying.{all_voted, settled}
use Rattle.client_recover.specs.Pursuits.{PursuitDone, go_on, outcome, settle, start_second, still, take_frame, tell, took}
use Rattle.client_recover.specs.Taken.{PursuitValue, TakenValue, DecidedValue, LogsValue}
use Rattle.node_steps.specs.Envelopes.{EnvelopeValue}
use Rattle.node_steps.specs.Refusing.{when}
use Rattle.txn_meta.specs.Places.{log_shard}
use Rattle.client_steps.specs.declared.fault.CallFault.TheVariants.{NotOpen}
use Rattle.client_core.specs.Calls.{prepare_fault}
use Rattle.client_core.specs.Clients.{ClientDone, ClientSelf, ClientValue, SlotValue}
use Rattle.client_laws.specs.Steps.{Step, step}
use Rattle.client_laws.specs.Deciding.{OutcomesStay, outcome_at, pursuit_in, second_of}
use Rattle.client_laws.proofs.Changing.{Change, Keeps, Begins, Edits, Forms, Pursues, Pursued, Recovers, changes, sent_involved, sent_shard}

-- ---- refusals

pub first_none : {A : Type 0} (a b : Option A) → or_else a b ≡ None → a ≡ None
first_none None b h = refl
first_none (Some x) b h = absurd cc

pub second_none : {A : Type 0} (a b : Option A) → or_else a b ≡ None → b ≡ None
second_none None b h = h
second_none (Some x) b h = absurd cc

pub when_none : {E : Type 0} (b : Bool) (e : E) → when b e ≡ None → b ≡ false
when_none true e h = absurd cc
when_none false e h = refl

pub none_is : {A : Type 0} (o : Option A) → is_some o ≡ false → o ≡ None
none_is None h = refl
none_is (Some x) h = absurd cc

either_not : (a b : Bool) → (a || b) ≡ false → b ≡ false
either_not true b h = absurd cc
either_not false b h = h

-- ---- one transaction

pub record Follows (c : Setting) (p q : PursuitValue) : Type 0 where
  pub task : q.transaction ≡ p.transaction
  pub signature : q.signature ≡ p.signature
  pub started : p.second ≡ true → q.second ≡ true
  pub decided : (d : DecidedValue) → outcome c p ≡ Some d → outcome c q ≡ Some d

-- a message of a second stage is sent only as it starts
abbrev pub Seconds : PursuitValue → PursuitDone → Type 0
Seconds p e =
    (m : EnvelopeValue) (t : TransactionValue) → Contains e.sent m → second_of m.message ≡ Some t →
    (p.second ≡ false) × (e.pursuit.second ≡ true) × (e.pursuit.transaction ≡ t)

pub record Goes (c : Setting) (p : PursuitValue) (e : PursuitDone) : Type 0 where
  pub follows : Follows c p e.pursuit
  pub seconds : Seconds p e

pub follows_same : (c : Setting) (p : PursuitValue) → Follows c p p
follows_same c p = record { task = refl; signature = refl; started = λ h. h; decided = λ d h. h }

goes_still : (c : Setting) (p : PursuitValue) → Goes c p (still p)
goes_still c p = record { follows = follows_same c p; seconds = λ m t i. absurd (in_none m i) }

module _ (c : Setting) (p : PursuitValue) where
  goes_started : (l : LogsValue) → p.second ≡ false → Goes c p (start_second c p l)
  goes_started l none = record {
    follows = record { task = refl; signature = refl; started = λ h. refl; decided = λ d h. h };
    seconds = λ m t i h. (none, refl, same_Some _ t (ap second_of (sent_shard c _ (log_shard c p.transaction) m i) ∙ h));
  }

  goes_settled : (o : Option LogsValue) → p.second ≡ false → Goes c p (option_map_or (start_second c p) o (still p))
  goes_settled None none = goes_still c p
  goes_settled (Some l) none = goes_started l none

  pub goes_settle : Goes c p (settle c p)
  goes_settle = by (is_some (outcome c p) || p.second) refl
    where
      by : (b : Bool) → (is_some (outcome c p) || p.second) ≡ b → Goes c p
          (if b then still p else option_map_or (start_second c p) (settled c p.transaction p.taken) (still p))
      by true h = goes_still c p
      by false h = goes_settled (settled c p.transaction p.taken) (either_not (is_some (outcome c p)) p.second h)

module _ (c : Setting) (p : PursuitValue) (x : TakenValue) (none : outcome c p ≡ None) where
  -- nothing was decided
  from_took : (e : PursuitDone) → Goes c (took p x) e → Goes c p e
  from_took e g =
      let f = g.follows in
      record {
        follows = record {
          task = f.task;
          signature = f.signature;
          started = f.started;
          decided = λ d h. let impossible : None ≡ Some d = sym none ∙ h in absurd cc;
        };
        seconds = g.seconds;
      }

  goes_told : (d : DecidedValue) → Goes c (took p x) (tell c (took p x) d)
  goes_told d = record {
    follows = follows_same c (took p x);
    seconds = λ m t i h.
        let none : None ≡ Some t = ap second_of (sent_involved c p.transaction _ m i) ∙ h in absurd cc;
  }

  goes_on : Goes c (took p x) (go_on c (took p x))
  goes_on = by (all_voted c p.transaction (took p x).taken)
    where
      by : (b : Bool) → Goes c (took p x) (if b then settle c (took p x) else still (took p x))
      by true = goes_settle c (took p x)
      by false = goes_still c (took p x)

  goes_new : (o : Option DecidedValue) → Goes c p (option_map_or (tell c (took p x)) o (go_on c (took p x)))
  goes_new None = from_took _ goes_on
  goes_new (Some d) = from_took _ (goes_told d)

pub goes_frame : (c : Setting) (p : PursuitValue) (x : TakenValue) → Goes c p (take_frame c p x)
goes_frame c p x = by (is_some (outcome c p)) refl
  where
    by : (b : Bool) → is_some (outcome c p) ≡ b → Goes c p
        (if b then still p else option_map_or (tell c (took p x)) (outcome c (took p x)) (go_on c (took p x)))
    by true h = goes_still c p
    by false h = goes_new c p x (none_is (outcome c p) h) (outcome c (took p x))

pub goes : (me : ClientSelf) (client : ClientValue) (d : ClientDone) (p : Pursued me client d) → Goes me.cluster p.p p.e
goes me client d p = by p.goes
  where
    by : (p.e ≡ settle me.cluster p.p) ⊎ ((y : TakenValue) × (p.e ≡ take_frame me.cluster p.p y)) → Goes me.cluster p.p p.e
    by (inl is) = subst (Goes me.cluster p.p) (sym is) (goes_settle me.cluster p.p)
    by (inr (y, is)) = subst (Goes me.cluster p.p) (sym is) (goes_frame me.cluster p.p y)

-- ---- slots

pub set_cases : {A : Type 0} (xs : List A) (k j : ℕ) (y z : A) → slice_get (slice_set xs k y) j ≡ Some z →
    (y ≡ z) ⊎ (slice_get xs j ≡ Some z)
set_cases [] k j y z h = absurd cc
set_cases (x ∷ xs) zero zero y z h = inl (same_Some y z h)
set_cases (x ∷ xs) zero (suc j) y z h = inr h
set_cases (x ∷ xs) (suc k) zero y z h = inr h
set_cases (x ∷ xs) (suc k) (suc j) y z h = set_cases xs k j y z h

pub push_cases : {A : Type 0} (xs : List A) (j : ℕ) (y z : A) → slice_get (xs ++ y ∷ []) j ≡ Some z →
    (y ≡ z) ⊎ (slice_get xs j ≡ Some z)
push_cases [] zero y z h = inl (same_Some y z h)
push_cases [] (suc j) y z h = absurd cc
push_cases (x ∷ xs) zero y z h = inr h
push_cases (x ∷ xs) (suc j) y z h = push_cases xs j y z h

pub set_same : {A : Type 0} (xs : List A) (k : ℕ) (x y : A) → slice_get xs k ≡ Some x → slice_get (slice_set xs k y) k ≡ Some y
set_same [] k x y h = absurd cc
set_same (z ∷ zs) zero x y h = refl
set_same (z ∷ zs) (suc k) x y h = set_same zs k x y h

pub set_other : {A : Type 0} (xs : List A) (k j : ℕ) (y : A) → (j ≡ k → ⊥) → slice_get (slice_set xs k y) j ≡ slice_get xs j
set_other [] k j y n = refl
set_other (x ∷ xs) zero zero y n = absurd (n refl)
set_other (x ∷ xs) zero (suc j) y n = refl
set_other (x ∷ xs) (suc k) zero y n = refl
set_other (x ∷ xs) (suc k) (suc j) y n = set_other xs k j y (λ e. n (ap suc e))

pub got_before : {A : Type 0} (xs ys : List A) (k : ℕ) (x : A) → slice_get xs k ≡ Some x → slice_get (xs ++ ys) k ≡ Some x
got_before [] ys k x h = absurd cc
got_before (z ∷ zs) ys zero x h = h
got_before (z ∷ zs) ys (suc k) x h = got_before zs ys k x h

-- the slot in which a transaction is pursued
pub record Held (client : ClientValue) (slot : ℕ) (p : PursuitValue) : Type 0 where
  pub x : SlotValue
  pub at : slice_get client.slots slot ≡ Some x
  pub formed : x.pursuit ≡ Some p

pub held : (client : ClientValue) (slot : ℕ) (p : PursuitValue) → pursuit_in client slot ≡ Some p → Held client slot p
held client slot p h = by (slice_get client.slots slot) refl h
  where
    by : (o : Option SlotValue) → slice_get client.slots slot ≡ o → option_and_then (λ (s : SlotValue). s.pursuit) o ≡ Some p →
        Held client slot p
    by None at h = absurd cc
    by (Some x) at h = record { x = x; at = at; formed = h }

pub pursued_at : (client : ClientValue) (slot : ℕ) (x : SlotValue) → slice_get client.slots slot ≡ Some x →
    pursuit_in client slot ≡ x.pursuit
pursued_at client slot x at = ap (λ (o : Option SlotValue). option_and_then (λ (s : SlotValue). s.pursuit) o) at

-- ---- steps

-- what follows a transaction that is pursued in a slot
pub record Later (me : ClientSelf) (new : ClientValue) (slot : ℕ) (p : PursuitValue) : Type 0 where
  pub q : PursuitValue
  pub at : pursuit_in new slot ≡ Some q
  pub follows : Follows me.cluster p q

open_fault : (me : ClientSelf) (client : ClientValue) (x : SlotValue) → prepare_fault me client x ≡ None → x.pursuit ≡ None
open_fault me client x h = none_is x.pursuit (when_none (is_some x.pursuit) NotOpen (first_none (when (is_some x.pursuit) NotOpen) _ h))

pub opened : (me : ClientSelf) (client : ClientValue) (x : SlotValue) → prepare_fault me client x ≡ None → x.pursuit ≡ None
opened me client x h = open_fault me client x h

module _ (me : ClientSelf) (client : ClientValue) (slot : ℕ) (p : PursuitValue) (now : Held client slot p) where
  -- in a client whose slots hold what these do
  later_in : (new : ClientValue) (y : SlotValue) (q : PursuitValue) → slice_get new.slots slot ≡ Some y → y.pursuit ≡ Some q →
      Follows me.cluster p q → Later me new slot p
  later_in new y q at formed follows = record { q = q; at = pursued_at new slot y at ∙ formed; follows = follows }

  later_same : (new : ClientValue) → slice_get new.slots slot ≡ slice_get client.slots slot → Later me new slot p
  later_same new same = later_in new now.x p (same ∙ now.at) now.formed (follows_same me.cluster p)

  later_push : (new : ClientValue) (y : SlotValue) → new.slots ≡ client.slots ++ y ∷ [] → Later me new slot p
  later_push new y is =
      later_in new now.x p (ap (λ (l : List SlotValue). slice_get l slot) is ∙ got_before client.slots (y ∷ []) slot now.x now.at)
      now.formed (follows_same me.cluster p)

  later_set : (new : ClientValue) (k : ℕ) (x y : SlotValue) → slice_get client.slots k ≡ Some x → new.slots ≡ slice_set client.slots k y →
      ((q : PursuitValue) → x.pursuit ≡ Some q → (r : PursuitValue) × (y.pursuit ≡ Some r) × Follows me.cluster q r) → Later me new slot p
  later_set new k x y at is each = elim (cases_eq slot k) [
    | inr n ↦ later_same new (ap (λ (l : List SlotValue). slice_get l slot) is ∙ set_other client.slots k slot y n)
    | inl same ↦ here same
  ]
    where
      here : slot ≡ k → Later me new slot p
      here same =
          let is_x : now.x ≡ x = same_Some now.x x (sym now.at ∙ ap (slice_get client.slots) same ∙ at) in
          let r = each p (ap (λ (s : SlotValue). s.pursuit) (sym is_x) ∙ now.formed) in
          later_in new y r.0
          (ap (slice_get new.slots) same ∙ ap (λ (l : List SlotValue). slice_get l k) is ∙ set_same client.slots k x y at) r.1 r.2

  pub later : (s : Step) (d : ClientDone) → Change me client s d → Later me d.client slot p
  later s d (Keeps is calm) = later_same d.client (ap (λ (v : ClientValue). slice_get v.slots slot) is)
  later s d (Begins time above is) = later_push d.client _ (ap (λ (x : ClientDone). x.client.slots) is)
  later s d (Edits e) = later_set d.client e.slot e.x _ e.at (ap (λ (v : ClientValue). v.slots) e.is)
      (λ q formed. (q, formed, follows_same me.cluster q))
  later s d (Forms f) = later_set d.client f.slot f.x _ f.at (ap (λ (x : ClientDone). x.client.slots) f.is)
      (λ q formed. let impossible : None ≡ Some q = sym (open_fault me client f.x f.fault) ∙ formed in absurd cc)
  later s d (Pursues e) = later_set d.client e.slot e.x _ e.at (ap (λ (x : ClientDone). x.client.slots) e.is)
      (λ q formed. (
        e.e.pursuit,
        refl,
        subst (λ (z : PursuitValue). Follows me.cluster z e.e.pursuit) (same_Some e.p q (sym e.formed ∙ formed))
            (goes me client d e).follows,
      ))
  later s d (Recovers t signature is calm) = later_push d.client _ (ap (λ (v : ClientValue). v.slots) is)

pub next : (me : ClientSelf) (client : ClientValue) (slot : ℕ) (p : PursuitValue) (s : Step) → pursuit_in client slot ≡ Some p →
    Later me (step me client s).client slot p
next me client slot p s h = later me client slot p (held client slot p h) s (step me client s) (changes me client s)

-- ---- an outcome stays

stays : (me : ClientSelf) (client : ClientValue) (slot : ℕ) (d : DecidedValue) (s : Step) → outcome_at me client slot ≡ Some d →
    outcome_at me (step me client s).client slot ≡ Some d
stays me client slot d s h = by (pursuit_in client slot) refl h
  where
    by : (o : Option PursuitValue) → pursuit_in client slot ≡ o → option_and_then (outcome me.cluster) o ≡ Some d →
        outcome_at me (step me client s).client slot ≡ Some d
    by None at h = absurd cc
    by (Some p) at h =
        let l = next me client slot p s at in
        ap (λ (o : Option PursuitValue). option_and_then (outcome me.cluster) o) l.at ∙ (l.follows).decided d h

pub outcomes_stay : OutcomesStay
outcomes_stay me client slot d [] h = h
outcomes_stay me client slot d (s ∷ ss) h = outcomes_stay me (step me client s).client slot d ss (stays me client slot d s h)
