-- A second stage starts once.
use Rattle.std.proofs.Common.{◌≡◌, ℕ, ◌≤◌, Bool, true, false, cond, List, [], ◌∷◌, Option, Some, None, refl, sym, ap, subst, ◌∙◌, inl, inr}
use Rattle.std.proofs.Common.{arith}
use Rattle.std.specs.Prelude.{slice_get, not, ◌&&◌, option_map, Contains}
use Rattle.std.specs.Option.{option_map_or}
use Rattle.std.proofs.lemmas.Bool.{cases_Bool}
use Rattle.basil_types.proofs.MemberLaws.{in_none}
use Rattle.basil_types.specs.Transaction.{TransactionValue}
use Rattle.client_recover.specs.Taken.{PursuitValue}
use Rattle.node_steps.specs.Envelopes.{EnvelopeValue}
use Rattle.client_core.specs.Calls.{formed}
use Rattle.client_core.specs.Clients.{ClientDone, ClientSelf, ClientValue, SlotValue}
use Rattle.client_laws.specs.Steps.{Step, step}
use Rattle.client_laws.specs.Deciding.{StartsFor, StartsOnce, has_started, pursuit_in, second_of, starts_in}
use Rattle.client_laws.proofs.Changing.{Change, Keeps, Begins, Edits, Forms, IsCalm, Pursues, Pursued, Recovers, changes, sent_involved}
use Rattle.client_laws.proofs.Following.{goes, next, pursued_at, set_same}

-- what has started stays started
goes_on : (me : ClientSelf) (client : ClientValue) (slot : ℕ) (s : Step) → has_started client slot ≡ true →
    has_started (step me client s).client slot ≡ true
goes_on me client slot s h = by (pursuit_in client slot) refl h
  where
    by : (o : Option PursuitValue) → pursuit_in client slot ≡ o → option_map_or (λ (p : PursuitValue). p.second) o false ≡ true →
        has_started (step me client s).client slot ≡ true
    by None at h = absurd cc
    by (Some p) at h =
        let l = next me client slot p s at in
        ap (λ (o : Option PursuitValue). option_map_or (λ (p : PursuitValue). p.second) o false) l.at ∙ (l.follows).started h

-- it doesn't start again
starts_not : (old new : Bool) → old ≡ true → ◌≡◌ {A = ℕ} (cond (not old && new) 1 0) 0
starts_not old new h = ap (λ b. cond (not b && new) 1 0) h

none_starts : (me : ClientSelf) (client : ClientValue) (slot : ℕ) (ss : List Step) → has_started client slot ≡ true →
    starts_in me client slot ss ≡ 0
none_starts me client slot [] h = refl
none_starts me client slot (s ∷ ss) h =
    let new = (step me client s).client in
    let now = starts_not (has_started client slot) (has_started new slot) h in
    let rest = none_starts me new slot ss (goes_on me client slot s h) in
    omega (arith, now, rest)

starts_one : (old new : Bool) → cond (not old && new) 1 0 ≤ 1
starts_one true new = omega arith
starts_one false true = omega arith
starts_one false false = omega arith

starts_new : (old new : Bool) → new ≡ false → ◌≡◌ {A = ℕ} (cond (not old && new) 1 0) 0
starts_new true new h = refl
starts_new false new h = ap (λ b. cond b 1 0) h

once : (me : ClientSelf) (client : ClientValue) (slot : ℕ) (ss : List Step) → starts_in me client slot ss ≤ 1
once me client slot [] = omega arith
once me client slot (s ∷ ss) =
    let new = (step me client s).client in
    elim (cases_Bool (has_started new slot)) [
      | inl started ↦
          let now = starts_one (has_started client slot) (has_started new slot) in
          let rest = none_starts me new slot ss started in
          omega (arith, now, rest)
      | inr not_yet ↦
          let now = starts_new (has_started client slot) (has_started new slot) not_yet in
          let rest = once me new slot ss in
          omega (arith, now, rest)
    ]

-- ---- what is sent

calm_sends : (d : ClientDone) (e : EnvelopeValue) (t : TransactionValue) (A : Type 0) → IsCalm d → Contains d.sent e →
    second_of e.message ≡ Some t → A
calm_sends d e t A calm i h = let none : None ≡ Some t = sym (calm.second e i) ∙ h in absurd cc

started_in : (client : ClientValue) (slot : ℕ) (x : SlotValue) (p : PursuitValue) → slice_get client.slots slot ≡ Some x →
    x.pursuit ≡ Some p →
    has_started client slot ≡ p.second
started_in client slot x p at formed =
    ap (λ (o : Option PursuitValue). option_map_or (λ (p : PursuitValue). p.second) o false) (pursued_at client slot x at ∙ formed)

both : (a b : Bool) → a ≡ false → b ≡ true → (not a && b) ≡ true
both a b none some = ap (λ c. not c && b) none ∙ some

pursues : (me : ClientSelf) (client : ClientValue) (d : ClientDone) (p : Pursued me client d) (e : EnvelopeValue) (t : TransactionValue) →
    Contains d.sent e → second_of e.message ≡ Some t → StartsFor t client d.client
pursues me client d p e t i h =
    let sent = (goes me client d p).seconds e t (subst (λ (x : ClientDone). Contains x.sent e) p.is i) h in
    let y : SlotValue = record (p.x) { pursuit = Some p.e.pursuit } in
    let at : slice_get d.client.slots p.slot ≡ Some y =
    ap (λ (x : ClientDone). slice_get x.client.slots p.slot) p.is ∙ set_same client.slots p.slot p.x y p.at in (
      p.slot,
      both (has_started client p.slot) (has_started d.client p.slot) (started_in client p.slot p.x p.p p.at p.formed ∙ sent.0)
          (started_in d.client p.slot y p.e.pursuit at refl ∙ sent.1),
      ap (option_map (λ (q : PursuitValue). q.transaction)) (pursued_at d.client p.slot y at) ∙ ap Some sent.2,
    )

sends : (me : ClientSelf) (client : ClientValue) (s : Step) (d : ClientDone) → Change me client s d →
    (e : EnvelopeValue) (t : TransactionValue) →
    Contains d.sent e → second_of e.message ≡ Some t → StartsFor t client d.client
sends me client s d (Keeps is calm) e t i h = calm_sends d e t _ calm i h
sends me client s d (Begins time above is) e t i h = absurd (in_none e (subst (λ (x : ClientDone). Contains x.sent e) is i))
sends me client s d (Edits edit) e t i h = calm_sends d e t _ edit.calm i h
sends me client s d (Forms f) e t i h =
    let none : None ≡ Some t =
    ap second_of (sent_involved me.cluster (formed me f.x) _ e (subst (λ (x : ClientDone). Contains x.sent e) f.is i)) ∙ h in absurd cc
sends me client s d (Pursues p) e t i h = pursues me client d p e t i h
sends me client s d (Recovers u signature is calm) e t i h = calm_sends d e t _ calm i h

pub starts_once : StartsOnce
starts_once = record {
  once = once;
  told = λ me client s e t i h. sends me client s (step me client s) (changes me client s) e t i h;
}
