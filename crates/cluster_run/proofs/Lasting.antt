-- What holds besides the invariant holds along every run without a breach.
use Rattle.std.proofs.Common.{◌≡◌, ℕ, zero, suc, Bool, true, false, cond, List, [], ◌∷◌, Some, None, refl, sym, ap, subst, ◌∙◌, map, arith}
use Rattle.std.specs.Prelude.{◌+◌, ◌<◌, ◌≤◌, length, Result, Ok, Err, slice_get, nat_le, ◌-◌}
use Rattle.basil_types.specs.declared.party.Party.TheVariants.{Client}
use Rattle.client_core.specs.Clients.{ClientValue, SlotValue, empty_client}
use Rattle.cluster_run.specs.States.{client_at, Setup, IsSetup, State, start}
use Rattle.cluster_run.proofs.Finding.{ok_is}
use Rattle.cluster_run.proofs.Heeding.{AreHeeded}
use Rattle.cluster_run.proofs.Whole.{Whole, IsAsked, IsEnded}
use Rattle.std.specs.List.{range_with_len}
use Rattle.agreement_laws.specs.Laws.{HoldsAtStart}
use Rattle.cluster_run.specs.declared.fault.WorldFault.{WorldFault}
use Rattle.cluster_run.specs.declared.fault.WorldFault.TheVariants as fault
use Rattle.cluster_run.specs.Events.{EventValue, happens, kept, run}
use Rattle.cluster_run.specs.Safety.{IsEvent, AreEvents}
use Rattle.client_reads.specs.Laws.{RepliesExactly}
use Rattle.cluster_run.proofs.Agreeing.{start_empty, holds_at_start}
use Rattle.cluster_run.proofs.Happening.{N, PreparesSeen, happens_keeps}
use Rattle.cluster_run.proofs.Parting.{Laws, between}

-- ---- the start

module _ (at_start : HoldsAtStart) (s : Setup) where
  -- ---- at the start nothing is held

  first_client : (n : ℕ) (c : ClientValue) → client_at (start s) n ≡ Some c → c.slots ≡ []
  first_client n c h = by (nat_le 1 n) h
    where
      by : (b : Bool) → cond b (slice_get (start s).clients (n - 1)) None ≡ Some c → c.slots ≡ []
      by true h = fresh (range_with_len 1 16) (n - 1) h
        where
          fresh : (ns : List ℕ) (p : ℕ) → slice_get (map (λ (number : ℕ). empty_client (s.kit.pen (Client number))) ns) p ≡ Some c → c.slots
              ≡ []
          fresh [] p h = absurd cc
          fresh (m ∷ ms) Rattle.std.specs.Prelude.zero h =
              (let is : empty_client (s.kit.pen (Client m)) ≡ c = cc in ap (λ (z : ClientValue). z.slots) (sym is))
          fresh (m ∷ ms) (suc p) h = fresh ms p h
      by false h = absurd cc

  within : {X : Type 0} (xs : List X) (p : ℕ) (a : X) → slice_get xs p ≡ Some a → p < length xs
  within [] p a h = absurd cc
  within (x ∷ xs) Rattle.std.specs.Prelude.zero a h = omega arith
  within (x ∷ xs) (suc p) a h = (let k = within xs p a h in omega (arith, k))

  few_clients : (n : ℕ) (c : ClientValue) → client_at (start s) n ≡ Some c → n ≤ 16
  few_clients n c h = by (nat_le 1 n) refl h
    where
      by : (b : Bool) → nat_le 1 n ≡ b → cond b (slice_get (start s).clients (n - 1)) None ≡ Some c → n ≤ 16
      by true e h = (let l = within (start s).clients (n - 1) c h in omega (arith, l))
      by false e h = absurd cc

  fresh_one : (from len p : ℕ) (c : ClientValue) → slice_get
      (map (λ (number : ℕ). empty_client (s.kit.pen (Client number))) (range_with_len from len)) p ≡ Some c → c
      ≡ empty_client (s.kit.pen (Client (from + p)))
  fresh_one from Rattle.std.specs.Prelude.zero p c h = absurd cc
  fresh_one from (suc len) Rattle.std.specs.Prelude.zero c h =
      let is : empty_client (s.kit.pen (Client from)) ≡ c = cc in
      let e : from ≡ from + 0 = omega arith in
      sym is ∙ ap (λ (k : ℕ). empty_client (s.kit.pen (Client k))) e
  fresh_one from (suc len) (suc p) c h =
      (let e : (from + 1) + p ≡ from + suc p = omega arith in fresh_one (from + 1) len p c h
      ∙ ap (λ (k : ℕ). empty_client (s.kit.pen (Client k))) e)

  first_one : (n : ℕ) (c : ClientValue) → client_at (start s) n ≡ Some c → c ≡ empty_client (s.kit.pen (Client n))
  first_one n c h = by (nat_le 1 n) refl h
    where
      by : (b : Bool) → nat_le 1 n ≡ b → cond b (slice_get (start s).clients (n - 1)) None ≡ Some c → c
          ≡ empty_client (s.kit.pen (Client n))
      by true e h =
          (let l = Rattle.std.proofs.lemmas.Bool.leb-true 1 n e in let k : 1 + (n - 1) ≡ n = omega (arith, l) in fresh_one 1 16 (n - 1) c h
          ∙ ap (λ (k : ℕ). empty_client (s.kit.pen (Client k))) k)
      by false e h = absurd cc

  pub whole_at_start : Whole s N (start s)
  whole_at_start = record {
    inv = holds_at_start at_start s;
    few = λ n c h. few_clients n c h;
    pens = λ n c h. ap (λ (z : ClientValue). z.pen.spent + z.pen.left) (first_one n c h);
    heeds = λ tx f a c n. subst (AreHeeded (IsAsked tx (start s).watch) (IsEnded (start s))) (sym (start_empty at_start s a c).entries) tt;
    held = λ n c h.
        let e = first_client n c h in
        record {
          slots = λ p a k. (let q : None ≡ Some a = sym (ap (λ (l : List SlotValue). slice_get l p) e) ∙ k in absurd cc);
          under = λ p a k. (let q : None ≡ Some a = sym (ap (λ (l : List SlotValue). slice_get l p) e) ∙ k in absurd cc);
          apart = λ p q a b k. (let q : None ≡ Some a = sym (ap (λ (l : List SlotValue). slice_get l p) e) ∙ k in absurd cc);
        };
    formed = λ n x i. absurd (omega (arith, i.1));
  }

-- ---- the run

module _ (law : Laws) (replies : RepliesExactly) (s : Setup) (ok : IsSetup s) (prepare_seen : PreparesSeen s) where
  kept_keeps : (e : EventValue) → IsEvent e → (r : Result State WorldFault) (st t : State) → Whole s N st → happens s e st ≡ r → kept st r
      ≡ Ok t → Whole s N t
  kept_keeps e sized (Ok after) st t inv i h =
      subst (Whole s N) (ok_is after t (kept st (Ok after)) refl h) (happens_keeps law replies s ok prepare_seen e sized st after inv i)
  kept_keeps e sized (Err (fault.Broken b)) st t inv i h = absurd cc
  kept_keeps e sized (Err (fault.PoolFull messages bytes)) st t inv i h =
      subst (Whole s N) (ok_is st t (kept st (Err (fault.PoolFull messages bytes))) refl h) inv
  kept_keeps e sized (Err (fault.Call f)) st t inv i h = subst (Whole s N) (ok_is st t (kept st (Err (fault.Call f))) refl h) inv
  kept_keeps e sized (Err (fault.Exhausted party)) st t inv i h =
      subst (Whole s N) (ok_is st t (kept st (Err (fault.Exhausted party))) refl h) inv

  pub run_keeps : (es : List EventValue) → AreEvents es → (st t : State) → Whole s N st → run s es st ≡ Ok t → Whole s N t
  run_keeps [] sized st t inv h = subst (Whole s N) (ok_is st t (run s [] st) refl h) inv
  run_keeps (e ∷ es) sized st t inv h =
      let b = between (kept st (happens s e st)) (run s es) t h in
      run_keeps es sized.1 b.start t (kept_keeps e sized.0 (happens s e st) st b.start inv refl b.first) b.second
