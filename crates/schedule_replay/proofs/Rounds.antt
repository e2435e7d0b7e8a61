-- Which messages wait, one after the other.
use Rattle.std.proofs.Common.{◌≡◌, ℕ, zero, suc, ◌+◌, ◌≤◌, ◌<◌, Bool, true, false, cond, List, [], ◌∷◌, ◌++◌}
use Rattle.std.proofs.Common.{length, drop, Option, Some, None, refl, sym, ap, ◌∙◌, arith, add-one, append_assoc}
use Rattle.std.proofs.Math.Logic.{∥∥₁_elim}
use Rattle.std.proofs.Math.Bridge.{le_prop}
use Rattle.std.specs.Prelude.{◌-◌, IfSome, option_map, position}
use Rattle.basil_types.proofs.Walks.{drop_short, position-cons}
use Rattle.cluster_run.specs.States.{State}
use Rattle.message_pool.specs.declared.posted.Posted.{Posted}
use Rattle.message_pool.specs.Posts.{is_waiting, next_waiting, waiting_behind}
use Rattle.schedule_replay.specs.Events.{waiting, waiting_from}

abbrev waits : Posted → Bool
waits p = is_waiting p.fate

-- the numbers that wait behind so many
abbrev pub behind : (before : ℕ) → List Posted → List ℕ
behind before pool = waiting_from (before + 1) (drop before pool)

-- the next of them, and those behind it
abbrev pub from_next : Option ℕ → List Posted → List ℕ
from_next None pool = []
from_next (Some next) pool = next ∷ behind next pool

rest_of : (n : ℕ) (pool : List Posted) (p : Posted) (ps : List Posted) → drop n pool ≡ p ∷ ps → drop (suc n) pool ≡ ps
rest_of zero [] p ps e = absurd cc
rest_of zero (q ∷ qs) p ps e = cc
rest_of (suc n) [] p ps e = absurd cc
rest_of (suc n) (q ∷ qs) p ps e = rest_of n qs p ps e

later : (n : ℕ) (o : Option ℕ) → option_map (λ k. n + k + 1) (option_map (λ k. k + 1) o) ≡ option_map (λ k. n + 1 + k + 1) o
later n None = refl
later n (Some k) = let e : n + (k + 1) + 1 ≡ n + 1 + k + 1 = omega arith in ap Some e

scan : (pool : List Posted) (n : ℕ) (ps : List Posted) → drop n pool ≡ ps →
    from_next (option_map (λ k. n + k + 1) (position waits ps)) pool ≡ waiting_from (n + 1) ps
scan pool n [] e = refl
scan pool n (p ∷ ps) e =
    ap (λ o. from_next (option_map (λ k. n + k + 1) o) pool) (position-cons waits p ps) ∙ by (waits p) (scan pool (n + 1) ps rest)
  where
    rest : drop (n + 1) pool ≡ ps
    rest = rw add-one (rest_of n pool p ps e)

    number : n + 0 + 1 ≡ n + 1
    number = omega arith

    by : (b : Bool) → from_next (option_map (λ k. n + 1 + k + 1) (position waits ps)) pool ≡ waiting_from (n + 1 + 1) ps →
        from_next (option_map (λ k. n + k + 1) (cond b (Some 0) (option_map (λ k. k + 1) (position waits ps)))) pool
        ≡ cond b ((n + 1) ∷ waiting_from (n + 1 + 1) ps) (waiting_from (n + 1 + 1) ps)
    by true h = ap (λ m. m ∷ behind m pool) number ∙ ap (λ qs. (n + 1) ∷ waiting_from (n + 1 + 1) qs) rest
    by false h = ap (λ o. from_next o pool) (later n (position waits ps)) ∙ h

pub found : (before : ℕ) (pool : List Posted) → from_next (waiting_behind before pool) pool ≡ behind before pool
found before pool = scan pool before (drop before pool) refl

-- ---- the next one

pub next_of : (message : ℕ) (pool : List Posted) → next_waiting (message + 1) pool ≡ waiting_behind message pool
next_of message pool = let e : message + 1 - 1 ≡ message = omega arith in ap (λ n. waiting_behind n pool) e

-- behind all of them there is none
pub none : (before : ℕ) (pool : List Posted) → length pool ≤ before → None ≡ waiting_behind before pool
none before pool h = sym (ap (λ ps. option_map (λ k. before + k + 1) (position waits ps)) (drop_short pool before h))

above : (before next : ℕ) (pool : List Posted) → Some next ≡ waiting_behind before pool → before < next
above before next pool e = by (position waits (drop before pool)) e
  where
    by : (o : Option ℕ) → Some next ≡ option_map (λ k. before + k + 1) o → before < next
    by None e = absurd cc
    by (Some k) e = let same : next ≡ before + k + 1 = cc in omega arith

pub greater : (before : ℕ) (o : Option ℕ) → ∥ ((st : State) × (o ≡ next_waiting (before + 1) st.pool)) ∥₁ →
    IfSome o (λ next. before < next)
greater before None h = tt
greater before (Some next) h = ∥∥₁_elim h le_prop (λ x. above before next x.0.pool (x.1 ∙ next_of before x.0.pool))

-- ---- the walk from each to the next

pub first : (messages : List ℕ) (next : Option ℕ) (st : State) → messages ≡ [] → next ≡ waiting_behind 0 st.pool →
    messages ++ from_next next st.pool ≡ waiting st
first messages next st none e =
    ap (λ ms. ms ++ from_next next st.pool) none ∙ ap (λ o. from_next o st.pool) e ∙ found 0 st.pool

pub onward : (messages more : List ℕ) (message : ℕ) (this next : Option ℕ) (st : State) →
    messages ++ from_next this st.pool ≡ waiting st → this ≡ Some message → more ≡ messages ++ message ∷ [] →
    next ≡ waiting_behind message st.pool → more ++ from_next next st.pool ≡ waiting st
onward messages more message this next st held here grown e =
    ap (λ ms. ms ++ from_next next st.pool) grown ∙ append_assoc messages (message ∷ []) (from_next next st.pool)
    ∙ ap (λ ms. messages ++ message ∷ ms) (ap (λ o. from_next o st.pool) e ∙ found message st.pool)
    ∙ sym (ap (λ o. messages ++ from_next o st.pool) here) ∙ held
