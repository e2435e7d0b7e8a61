-- The same replicas have a journal, before and after.
use Rattle.std.proofs.Common.{◌≡◌, ◌∙◌, ℕ, Bool, true, false, cond, List, [], ◌∷◌, refl, sym, ap, subst}
use Rattle.std.specs.Option.{option_map_or}
use Rattle.std.specs.Prelude.{Option, Some, None, Result, Ok, Err, is_some, length}
use Rattle.basil_types.specs.Steps.{◌>>=◌}
use Rattle.journal_disk.specs.declared.disk.Stop.{Stop}
use Rattle.node_steps.specs.Refusing.{unless_refused}
use Rattle.run_journals.specs.Journals.{JournalValue, is_its, journal_at, keeps_record, put_at, put_journal}
use Rattle.cluster_run.specs.declared.fault.WorldFault.{WorldFault}
use Rattle.cluster_run.specs.Events.{EventValue, Lose, happens}
use Rattle.cluster_run.specs.States.{Setup, State}
use Rattle.delivery_laws.specs.Deliveries.{Taking, takes}
use Rattle.journaled_runs.specs.Journaling.{JournaledState, entered_since, full, handing, happens_in, lose_all, noted, stopped}
use Rattle.journaled_runs.specs.Journaling.{with_state, with_stop, written}
use Rattle.journaled_runs.specs.Owners.{OwnersOutlastStops, OwnersStay, SameOwners}
use Rattle.journaled_runs.proofs.Places.{same_test}

-- ---- journals that are put

there_or : (k y : JournalValue) (o : Option JournalValue) (b : Bool) → is_some (cond b (Some k) o) ≡ is_some (cond b (Some y) o)
there_or k y o true = refl
there_or k y o false = refl

then_there : (y : JournalValue) (o p : Option JournalValue) → is_some o ≡ is_some p → (b : Bool) →
    is_some (cond b (Some y) o) ≡ is_some (cond b (Some y) p)
then_there y o p h true = refl
then_there y o p h false = h

same_put : (k : JournalValue) (js : List JournalValue) → SameOwners js (put_journal k js)
same_put k [] shard index = refl
same_put k (y ∷ ys) shard index = by (is_its k.shard k.index y) refl (same_put k ys shard index)
  where
    by : (t : Bool) → is_its k.shard k.index y ≡ t →
        is_some (journal_at (put_journal k ys) shard index) ≡ is_some (journal_at ys shard index) →
        is_some (journal_at (cond t (k ∷ ys) (y ∷ put_journal k ys)) shard index)
        ≡ is_some (cond (is_its shard index y) (Some y) (journal_at ys shard index))
    by true e later =
        ap (λ b. is_some (cond b (Some k) (journal_at ys shard index))) (sym (same_test shard index k y e))
        ∙ there_or k y (journal_at ys shard index) (is_its shard index y)
    by false e later =
        then_there y (journal_at (put_journal k ys) shard index) (journal_at ys shard index) later (is_its shard index y)

same_put_at : (becomes : JournalValue → JournalValue) (o : Option JournalValue) (js : List JournalValue) →
    SameOwners js (put_at becomes o js)
same_put_at becomes None js = λ shard index. refl
same_put_at becomes (Some x) js = same_put (becomes x) js

same_then : (a b c : List JournalValue) → SameOwners a b → SameOwners b c → SameOwners a c
same_then a b c first next shard index = next shard index ∙ first shard index

-- ---- what is left

abbrev state_of : JournaledState → Result JournaledState WorldFault → JournaledState
state_of x (Ok y) = y
state_of x (Err w) = x

is_left : (x y : JournaledState) → ◌≡◌ {A = Result JournaledState WorldFault} (Ok x) (Ok y) → x ≡ y
is_left x y h = ap (state_of x) h

same_left : (js : List JournalValue) (x y : JournaledState) → ◌≡◌ {A = Result JournaledState WorldFault} (Ok x) (Ok y) →
    SameOwners js x.journals → SameOwners js y.journals
same_left js x y h same = subst (λ (z : JournaledState). SameOwners js z.journals) (is_left x y h) same

-- ---- events

same_written : (t : Option Taking) (js : List JournalValue) → SameOwners js (written t js)
same_written None js = λ shard index. refl
same_written (Some t) js = same_put_at _ (journal_at js t.shard t.index) js

same_with : (o : Option WorldFault) (r : Result State WorldFault) (t : Option Taking) (js : List JournalValue)
    (y : JournaledState) → unless_refused o (r >>= with_state t js) ≡ Ok y → SameOwners js y.journals
same_with (Some w) r t js y h = absurd cc
same_with None (Err w) t js y h = absurd cc
same_with None (Ok st) t js y h =
    same_left js (record { state = st; journals = written t js }) y h (same_written t js)

pub owners_stay : OwnersStay
owners_stay s e x y h =
    same_with (full x.journals (takes s x.state e)) (happens s e x.state) (takes s x.state e) x.journals y h

-- ---- stops

same_lost : (s : Setup) (ms : List ℕ) (x y : JournaledState) → lose_all s ms x ≡ Ok y → SameOwners x.journals y.journals
same_lost s [] x y h = same_left x.journals x y h (λ shard index. refl)
same_lost s (m ∷ ms) x y h = by (λ z. same_lost s ms z y) (happens_in s (Lose m) x) refl h
  where
    by : ((z : JournaledState) → lose_all s ms z ≡ Ok y → SameOwners z.journals y.journals) →
        (r : Result JournaledState WorldFault) → happens_in s (Lose m) x ≡ r → (r >>= lose_all s ms) ≡ Ok y →
        SameOwners x.journals y.journals
    by later (Ok z) e k = same_then x.journals z.journals y.journals (owners_stay s (Lose m) x z e) (later z k)
    by later (Err w) e k = absurd cc

same_noted : (t : Taking) (stop : Stop) (x : JournaledState) → SameOwners x.journals (noted t stop x).journals
same_noted t stop x = same_put_at (with_stop stop) (journal_at x.journals t.shard t.index) x.journals

module _ (s : Setup) (stop : Stop) (e : EventValue) (t : Taking) (x y : JournaledState) where
  abbrev lose_those : JournaledState → Result JournaledState WorldFault
  lose_those z = lose_all s (entered_since (length x.state.pool) z.state) (noted t stop z)

  same_kept : (r : Result JournaledState WorldFault) → happens_in s e x ≡ r → (r >>= lose_those) ≡ Ok y →
      SameOwners x.journals y.journals
  same_kept (Ok z) q h =
      same_then x.journals z.journals y.journals (owners_stay s e x z q)
      (same_then z.journals (noted t stop z).journals y.journals (same_noted t stop z)
      (same_lost s (entered_since (length x.state.pool) z.state) (noted t stop z) y h))
  same_kept (Err w) q h = absurd cc

  same_stopped : stopped s stop e t x ≡ Ok y → SameOwners x.journals y.journals
  same_stopped h = by (full x.journals (Some t)) (keeps_record stop.write stop.bytes) h
    where
      by : (o : Option WorldFault) (b : Bool) →
          unless_refused o (cond b (happens_in s e x >>= lose_those) (Ok (noted t stop x))) ≡ Ok y →
          SameOwners x.journals y.journals
      by (Some w) b k = absurd cc
      by None true k = same_kept (happens_in s e x) refl k
      by None false k = same_left x.journals (noted t stop x) y k (same_noted t stop x)

pub owners_outlast_stops : OwnersOutlastStops
owners_outlast_stops s message shard index stop given x y h =
    let e = handing x.state message shard index given in by e (takes s x.state e) h
  where
    by : (e : EventValue) (o : Option Taking) →
        option_map_or (λ t. stopped s stop e t x) o (happens_in s e x) ≡ Ok y → SameOwners x.journals y.journals
    by e (Some t) k = same_stopped s stop e t x y k
    by e None k = owners_stay s e x y k
