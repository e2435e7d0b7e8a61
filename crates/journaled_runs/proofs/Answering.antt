-- A journal answers what the replica of the run answers.
use Rattle.std.proofs.Common.{◌≡◌, ◌∙◌, ℕ, Bool, true, false, cond, List, refl, sym, ap}
use Rattle.std.specs.Prelude.{Option, Some, None, Result, Ok, Err, is_some, length, option_and_then, option_map}
use Rattle.node_journal.specs.Journals.{journal_bytes}
use Rattle.node_journal.specs.Steps.{answer_after}
use Rattle.node_steps.specs.Refusing.{when}
use Rattle.replica_core.specs.declared.refusal.Refusal.{Refusal}
use Rattle.replica_core.specs.Replicas.{Done}
use Rattle.replica_laws.specs.Steps.{Handed}
use Rattle.run_journals.specs.declared.took.Took.{Took}
use Rattle.run_journals.specs.declared.took.Took.TheVariants.{Full, Refused, Taken}
use Rattle.run_journals.specs.Journals.{JournalValue, after_stop, after_take, fullness, is_full_for, journal_at, put_at, put_journal}
use Rattle.run_journals.specs.Journals.{took_among, took_next, took_of}
use Rattle.cluster_run.specs.declared.fault.WorldFault.{WorldFault}
use Rattle.cluster_run.specs.declared.fault.WorldFault.TheVariants.{PoolFull}
use Rattle.cluster_run.specs.Events.{EventValue}
use Rattle.cluster_run.specs.Parts.{replica_self}
use Rattle.cluster_run.specs.States.{Setup}
use Rattle.delivery_laws.specs.Deliveries.{Taking, takes}
use Rattle.journal_disk.specs.declared.disk.Stop.{Stop}
use Rattle.journaled_runs.specs.declared.letter.Letter.{Letter}
use Rattle.journaled_runs.specs.Handing.{Hands, handed_by_letter, taken_if}
use Rattle.journaled_runs.specs.Journaling.{JournaledState, full, full_by, written}
use Rattle.journaled_runs.specs.Shown.{pen_of}
use Rattle.journaled_runs.specs.Stopping.{after_stopping, has_taken}
use Rattle.journaled_runs.proofs.Places.{found_own, found_there, put_own}

-- the fault of a journal that is too long
abbrev pub as_fault : ℕ × ℕ → WorldFault
as_fault full = PoolFull full.0 full.1

-- what becomes of the journal of the replica that takes
abbrev pub put_taken : (Handed → Took → JournalValue → JournalValue) → Option Taking → List JournalValue → List JournalValue
put_taken becomes None js = js
put_taken becomes (Some t) js = put_at (becomes t.handed Taken) (journal_at js t.shard t.index) js

abbrev pub takes_in : Handed → Took → JournalValue → JournalValue
takes_in h took j = after_take j h took

abbrev pub stops_so : Stop → Handed → Took → JournalValue → JournalValue
stops_so stop h took j = after_stop j h stop took

taken_written : (taking : Option Taking) (js : List JournalValue) → put_taken takes_in taking js ≡ written taking js
taken_written None js = refl
taken_written (Some t) js = refl

taken_stopped : (stop : Stop) (taking : Option Taking) (js : List JournalValue) →
    put_taken (stops_so stop) taking js ≡ after_stopping taking stop js
taken_stopped stop None js = refl
taken_stopped stop (Some t) js = refl

module _ (js : List JournalValue) (shard index : ℕ) (j : JournalValue) (h : Handed) (found : journal_at js shard index ≡ Some j) where
  -- full where the journal says so
  full_so : (r : Result Done Refusal) → full js (taken_if shard index h r) ≡ option_map as_fault (fullness (took_of j h r))
  full_so (Err e) = refl
  full_so (Ok d) = ap (option_and_then (full_by h)) found ∙ by (is_full_for j h)
    where
      by : (b : Bool) → when b (PoolFull (length j.taken) (journal_bytes j.taken))
          ≡ option_map as_fault (fullness (cond b (Full (length j.taken) (journal_bytes j.taken)) Taken))
      by true = refl
      by false = refl

  -- where it isn't full it takes what its replica takes
  took_so : (r : Result Done Refusal) → full js (taken_if shard index h r) ≡ None →
      has_taken (took_of j h r) ≡ is_some (taken_if shard index h r)
  took_so (Err e) room = refl
  took_so (Ok d) room = by (is_full_for j h) (sym (ap (option_and_then (full_by h)) found) ∙ room)
    where
      by : (b : Bool) → when b (PoolFull (length j.taken) (journal_bytes j.taken)) ≡ None →
          has_taken (cond b (Full (length j.taken) (journal_bytes j.taken)) Taken) ≡ true
      by true q = absurd cc
      by false q = refl

  -- and it becomes what that makes of it
  put_so : (becomes : Handed → Took → JournalValue → JournalValue) → ((k : JournalValue) → becomes h Refused k ≡ k) →
      (r : Result Done Refusal) → full js (taken_if shard index h r) ≡ None →
      put_at (becomes h (took_of j h r)) (Some j) js ≡ put_taken becomes (taken_if shard index h r) js
  put_so becomes still (Err e) room =
      ap (λ k. put_journal k js) (still j) ∙ put_own j js (found_own js shard index j found)
  put_so becomes still (Ok d) room =
      by (is_full_for j h) (sym (ap (option_and_then (full_by h)) found) ∙ room)
      ∙ ap (λ o. put_at (becomes h Taken) o js) (sym found)
    where
      by : (b : Bool) → when b (PoolFull (length j.taken) (journal_bytes j.taken)) ≡ None →
          put_at (becomes h (cond b (Full (length j.taken) (journal_bytes j.taken)) Taken)) (Some j) js
          ≡ put_at (becomes h Taken) (Some j) js
      by true q = absurd cc
      by false q = refl

module _ (s : Setup) (x : JournaledState) (e : EventValue) (l : Letter) (hands : Hands s x e l) where
  abbrev answers_so : Result Done Refusal
  answers_so = answer_after (replica_self s l.shard l.index) (pen_of s l.shard l.index) hands.journal.taken (handed_by_letter l)

  -- what the journal comes to, by what the replica answers
  among : took_among (replica_self s) (pen_of s) (journal_at x.journals l.shard l.index) (handed_by_letter l)
      ≡ took_of hands.journal (handed_by_letter l) answers_so
  among =
      let there = found_there x.journals l.shard l.index hands.journal hands.found in
      ap (λ o. took_among (replica_self s) (pen_of s) o (handed_by_letter l)) hands.found
      ∙ ap (λ (n : ℕ). took_next (replica_self s n hands.journal.index) (pen_of s n hands.journal.index) hands.journal
      (handed_by_letter l)) there.shard_is
      ∙ ap (λ (n : ℕ). took_next (replica_self s l.shard n) (pen_of s l.shard n) hands.journal (handed_by_letter l)) there.index_is

  -- the journal is full by what it finds
  pub full_by_finding : (found : Option (ℕ × ℕ)) →
      found ≡ fullness (took_among (replica_self s) (pen_of s) (journal_at x.journals l.shard l.index) (handed_by_letter l)) →
      full x.journals (takes s x.state e) ≡ option_map as_fault found
  full_by_finding found finds =
      ap (full x.journals) hands.answers
      ∙ full_so x.journals l.shard l.index hands.journal (handed_by_letter l) hands.found answers_so
      ∙ ap (λ took. option_map as_fault (fullness took)) (sym among)
      ∙ ap (option_map as_fault) (sym finds)

  module _ (room : full x.journals (takes s x.state e) ≡ None) (took : Took)
      (is : took ≡ took_among (replica_self s) (pen_of s) (journal_at x.journals l.shard l.index) (handed_by_letter l)) where
    room_so : full x.journals (taken_if l.shard l.index (handed_by_letter l) answers_so) ≡ None
    room_so = sym (ap (full x.journals) hands.answers) ∙ room

    pub took_it : has_taken took ≡ is_some (takes s x.state e)
    took_it =
        ap has_taken (is ∙ among)
        ∙ took_so x.journals l.shard l.index hands.journal (handed_by_letter l) hands.found answers_so room_so
        ∙ ap is_some (sym hands.answers)

    put_by : (becomes : Handed → Took → JournalValue → JournalValue) →
        ((k : JournalValue) → becomes (handed_by_letter l) Refused k ≡ k) →
        put_at (becomes (handed_by_letter l) took) (journal_at x.journals l.shard l.index) x.journals
        ≡ put_taken becomes (takes s x.state e) x.journals
    put_by becomes still =
        ap (λ t. put_at (becomes (handed_by_letter l) t) (journal_at x.journals l.shard l.index) x.journals) (is ∙ among)
        ∙ ap (λ o. put_at (becomes (handed_by_letter l) (took_of hands.journal (handed_by_letter l) answers_so)) o x.journals) hands.found
        ∙ put_so x.journals l.shard l.index hands.journal (handed_by_letter l) hands.found becomes still answers_so room_so
        ∙ ap (λ t. put_taken becomes t x.journals) (sym hands.answers)

    -- what was taken is written
    pub wrote : put_at (λ k. after_take k (handed_by_letter l) took) (journal_at x.journals l.shard l.index) x.journals
        ≡ written (takes s x.state e) x.journals
    wrote = put_by takes_in (λ k. refl) ∙ taken_written (takes s x.state e) x.journals

    -- what was taken is as the stop left it
    pub stopped_it : (stop : Stop) →
        put_at (λ k. after_stop k (handed_by_letter l) stop took) (journal_at x.journals l.shard l.index) x.journals
        ≡ after_stopping (takes s x.state e) stop x.journals
    stopped_it stop = put_by (stops_so stop) (λ k. refl) ∙ taken_stopped stop (takes s x.state e) x.journals
