-- Who takes a message that is handed to a replica.
use Rattle.std.proofs.Common.{◌≡◌, ◌∙◌, ℕ, Bool, true, false, cond, List, refl, sym, ap, subst}
use Rattle.std.proofs.lemmas.Option.{same_Some}
use Rattle.std.specs.Option.{option_map_or}
use Rattle.std.specs.Prelude.{◌||◌, not, Option, Some, None, is_ok, is_some, option_and_then, option_map}
use Rattle.basil_types.specs.declared.party.Party.{Party}
use Rattle.basil_types.specs.declared.party.Party.TheVariants.{Replica, Client}
use Rattle.replica_core.specs.Answers.{answer}
use Rattle.run_journals.specs.Journals.{journal_at}
use Rattle.cluster_run.specs.Events.{Deliver, Divert}
use Rattle.cluster_run.specs.Parts.{are_bytes, replica_self}
use Rattle.cluster_run.specs.States.{Posted, Setup, Standing, State, is_at, is_faulty, posted_at, standing}
use Rattle.delivery_laws.specs.Deliveries.{Taking, taken_at, taken_by, taken_of, takes}
use Rattle.txn_table.specs.Entries.{same_party}
use Rattle.journaled_runs.specs.Handing.{WritesNothing, hand, journal_of}
use Rattle.journaled_runs.specs.Journaling.{JournaledState, handing, is_to}
use Rattle.journaled_runs.proofs.Places.{found_so, not_none, one_or, same_place}

-- at this place
record TakesAt (shard index : ℕ) (t : Taking) : Type 0 where
  shard_is : t.shard ≡ shard
  index_is : t.index ≡ index

same_replica : (shard index : ℕ) (p : Party) → same_party (Replica shard index) p ≡ true → p ≡ Replica shard index
same_replica shard index (Replica a b) h =
    let same = same_place shard index a b h in
    ap (λ (n : ℕ). Replica n b) (sym same.0) ∙ ap (λ (n : ℕ). Replica shard n) (sym same.1)
same_replica shard index (Client n) h = absurd cc

module _ (s : Setup) (st : State) (from : Party) (given : List ℕ) (shard index : ℕ) (t : Taking) where
  by_standing : (y : Standing) → is_at shard index y ≡ true → (b : Bool) →
      ◌≡◌ {A = Option Taking} (cond b (Some (record {
        shard = y.shard;
        index = y.index;
        handed = record { now = y.moment; from = from; frame = given };
      })) None) (Some t) → TakesAt shard index t
  by_standing y there false h = absurd cc
  by_standing y there true h =
      let same = same_place y.shard y.index shard index there in
      let is : record {
        shard = y.shard;
        index = y.index;
        handed = record { now = y.moment; from = from; frame = given };
      } ≡ t = same_Some _ t h in
      record { shard_is = sym (ap (λ (u : Taking). u.shard) is) ∙ same.0; index_is = sym (ap (λ (u : Taking). u.index) is) ∙ same.1 }

  by_place : (o : Option Standing) → standing st shard index ≡ o →
      option_and_then (taken_by s (hand from (Replica shard index) given)) o ≡ Some t → TakesAt shard index t
  by_place None q h = absurd cc
  by_place (Some y) q h =
      by_standing y (found_so (is_at shard index) st.replicas y q)
      (is_ok (answer (replica_self s y.shard y.index) y.moment from y.book given)) h

  by_test : (b : Bool) → cond b None (taken_at s st (hand from (Replica shard index) given) (Replica shard index)) ≡ Some t →
      TakesAt shard index t
  by_test true h = absurd cc
  by_test false h = by_place (standing st shard index) refl h

  handed_there : taken_of s st (hand from (Replica shard index) given) ≡ Some t → TakesAt shard index t
  handed_there h = by_test (is_faulty s (Replica shard index) || not (are_bytes given)) h

module _ (s : Setup) (st : State) (message shard index : ℕ) (given : List ℕ) (t : Taking) where
  diverted_there : (o : Option Posted) →
      option_and_then (taken_of s st) (option_map (λ (p : Posted). hand p.from (Replica shard index) given) o) ≡ Some t →
      TakesAt shard index t
  diverted_there None h = absurd cc
  diverted_there (Some p) h = handed_there s st p.from given shard index t h

  delivered_there : (o : Option Posted) → option_map_or (λ (p : Posted). same_party (Replica shard index) p.to) o false ≡ true →
      option_and_then (taken_of s st) (option_map (λ (p : Posted). hand p.from p.to given) o) ≡ Some t → TakesAt shard index t
  delivered_there None to h = absurd cc
  delivered_there (Some p) to h =
      handed_there s st p.from given shard index t
      (subst (λ (w : Party). taken_of s st (hand p.from w given) ≡ Some t) (same_replica shard index p.to to) h)

  -- the replica to which the message is handed
  takes_there : takes s st (handing st message shard index given) ≡ Some t → TakesAt shard index t
  takes_there = by (is_to st message (Replica shard index)) refl
    where
      by : (b : Bool) → is_to st message (Replica shard index) ≡ b →
          takes s st (cond b (Deliver message given) (Divert message (Replica shard index) given)) ≡ Some t → TakesAt shard index t
      by true q h = delivered_there (posted_at st message) q h
      by false q h = diverted_there (posted_at st message) h

-- where it has a journal and nothing is written down, it takes nothing
pub takes_none : (s : Setup) (x : JournaledState) (message shard index : ℕ) (given : List ℕ) →
    is_some (journal_at x.journals shard index) ≡ true → WritesNothing s x (handing x.state message shard index given) →
    takes s x.state (handing x.state message shard index given) ≡ None
takes_none s x message shard index given has none =
    by (takes s x.state (handing x.state message shard index given)) (takes_there s x.state message shard index given) none
  where
    by : (taking : Option Taking) → ((t : Taking) → taking ≡ Some t → TakesAt shard index t) →
        journal_of x.journals taking ≡ None → taking ≡ None
    by None there nowhere = refl
    by (Some t) there nowhere =
        let at = there t refl in
        let one = one_or (journal_at x.journals shard index) has in
        let found : journal_at x.journals t.shard t.index ≡ Some one.0 =
        ap (λ (n : ℕ). journal_at x.journals n t.index) at.shard_is ∙ ap (λ (n : ℕ). journal_at x.journals shard n) at.index_is ∙ one.1 in
        absurd (not_none (journal_at x.journals t.shard t.index) one.0 found nowhere)
