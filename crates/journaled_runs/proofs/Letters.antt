-- What a replica with a journal is handed at an event, and takes.
use Rattle.std.proofs.Common.{◌≡◌, ◌∙◌, ℕ, suc, Bool, true, false, cond, List, [], ◌∷◌, refl, sym, ap}
use Rattle.std.proofs.lemmas.Bool.{lt-ltb}
use Rattle.std.proofs.lemmas.Option.{same_Some}
use Rattle.std.specs.Prelude.{◌&&◌, ◌||◌, not, Option, Some, None, Result, Ok, Err, is_ok, is_some, option_and_then, option_map}
use Rattle.basil_types.specs.declared.party.Party.{Party}
use Rattle.basil_types.specs.declared.party.Party.TheVariants.{Replica, Client}
use Rattle.basil_types.specs.Texts.{IsBytes}
use Rattle.replica_core.specs.declared.refusal.Refusal.{Refusal}
use Rattle.replica_core.specs.Answers.{answer}
use Rattle.replica_core.specs.Replicas.{BookValue, Done}
use Rattle.run_journals.specs.Journals.{JournalValue, journal_at}
use Rattle.cluster_run.specs.Events.{EventValue}
use Rattle.cluster_run.specs.Parts.{are_bytes, replica_self, Mail}
use Rattle.cluster_run.specs.States.{Posted, Setup, Standing, State, is_at, is_faulty, standing}
use Rattle.cluster_run.specs.Telling.{moment_at}
use Rattle.delivery_laws.specs.Deliveries.{Taking, book_in, handed_by, taken_at, taken_by, taken_of, takes}
use Rattle.journaled_runs.specs.declared.letter.Letter.{Letter}
use Rattle.journaled_runs.specs.Handing.{Hands, WritesNothing, hand, handed_by_letter, journal_of, taken_if}
use Rattle.journaled_runs.specs.Journaling.{JournaledState}
use Rattle.journaled_runs.specs.Shown.{IsOwn}
use Rattle.journaled_runs.proofs.Owning.{led_to}
use Rattle.journaled_runs.proofs.Places.{found_so, found_there, none_of, same_place}

pub bytes_from : (xs : List ℕ) → IsBytes xs → are_bytes xs ≡ true
bytes_from [] h = refl
bytes_from (x ∷ xs) h = ap (λ b. b && are_bytes xs) (lt-ltb x 256 (h 0)) ∙ bytes_from xs (λ i. h (suc i))

-- ---- what is handed

-- the parties of a message
abbrev pub ends : Posted → Party × Party
ends p = (p.from, p.to)

-- a message that is delivered
pub delivered : (o : Option Posted) (from to : Party) (frame : List ℕ) → option_map ends o ≡ Some (from, to) →
    option_map (λ (p : Posted). hand p.from p.to frame) o ≡ Some (hand from to frame)
delivered None from to frame h = absurd cc
delivered (Some p) from to frame h =
    let same : ends p ≡ (from, to) = same_Some (ends p) (from, to) h in
    ap (λ (a : Party). Some (hand a p.to frame)) (ap (λ w. w.0) same)
    ∙ ap (λ (b : Party). Some (hand from b frame)) (ap (λ w. w.1) same)

-- one that is diverted
pub diverted : (o : Option Posted) (from was to : Party) (frame : List ℕ) → option_map ends o ≡ Some (from, was) →
    option_map (λ (p : Posted). hand p.from to frame) o ≡ Some (hand from to frame)
diverted None from was to frame h = absurd cc
diverted (Some p) from was to frame h =
    let same : ends p ≡ (from, was) = same_Some (ends p) (from, was) h in
    ap (λ (a : Party). Some (hand a to frame)) (ap (λ w. w.0) same)

-- one that isn't there
pub no_hand : (f : Posted → Mail) (o : Option Posted) → option_map ends o ≡ None → option_map f o ≡ None
no_hand f None h = refl
no_hand f (Some p) h = absurd cc

-- what is handed decides
takes_of : (s : Setup) (st : State) (e : EventValue) (h : Mail) → handed_by st e ≡ Some h → takes s st e ≡ taken_of s st h
takes_of s st e h at = ap (option_and_then (taken_of s st)) at

-- nobody takes
pub unhanded : (s : Setup) (x : JournaledState) (e : EventValue) → handed_by x.state e ≡ None → WritesNothing s x e
unhanded s x e at = ap (λ o. journal_of x.journals (option_and_then (taken_of s x.state) o)) at

module _ (s : Setup) (x : JournaledState) (e : EventValue) (from : Party) (frame : List ℕ) where
  -- where nothing with a journal would be taken but for the tests of the event
  by_hand : (to : Party) → handed_by x.state e ≡ Some (hand from to frame) →
      journal_of x.journals (taken_at s x.state (hand from to frame) to) ≡ None → WritesNothing s x e
  by_hand to at none =
      ap (journal_of x.journals) (takes_of s x.state e (hand from to frame) at)
      ∙ by (is_faulty s to || not (are_bytes frame))
    where
      by : (b : Bool) → journal_of x.journals (cond b None (taken_at s x.state (hand from to frame) to)) ≡ None
      by true = refl
      by false = none

  pub to_client : (number : ℕ) → handed_by x.state e ≡ Some (hand from (Client number) frame) → WritesNothing s x e
  to_client number at = by_hand (Client number) at refl

  module _ (shard index : ℕ) (at : handed_by x.state e ≡ Some (hand from (Replica shard index) frame)) where
    abbrev h : Mail
    h = hand from (Replica shard index) frame

    -- a replica without a journal
    pub no_journal : is_some (journal_at x.journals shard index) ≡ false → WritesNothing s x e
    no_journal without = by_hand (Replica shard index) at (by (standing x.state shard index) refl)
      where
        one : (y : Standing) → is_at shard index y ≡ true →
            (b : Bool) → journal_of x.journals (cond b (Some (record {
              shard = y.shard;
              index = y.index;
              handed = record { now = y.moment; from = from; frame = frame };
            })) None) ≡ None
        one y there false = refl
        one y there true =
            let same = same_place y.shard y.index shard index there in
            ap (λ (n : ℕ). journal_at x.journals n y.index) same.0 ∙ ap (λ (n : ℕ). journal_at x.journals shard n) same.1
            ∙ none_of (journal_at x.journals shard index) without

        by : (o : Option Standing) → standing x.state shard index ≡ o →
            journal_of x.journals (option_and_then (taken_by s h) o) ≡ None
        by None q = refl
        by (Some y) q =
            one y (found_so (is_at shard index) x.state.replicas y q)
            (is_ok (answer (replica_self s y.shard y.index) y.moment from y.book frame))

    -- one that isn't of the cluster
    pub no_moment : moment_at x.state shard index ≡ None → WritesNothing s x e
    no_moment none = by_hand (Replica shard index) at (by (standing x.state shard index) none)
      where
        by : (o : Option Standing) → option_map (λ (y : Standing). y.moment) o ≡ None →
            journal_of x.journals (option_and_then (taken_by s h) o) ≡ None
        by None q = refl
        by (Some y) q = absurd cc

    -- one with a journal
    module _ (j : JournalValue) (now : ℕ) (found : journal_at x.journals shard index ≡ Some j) (own : IsOwn s x.state j)
        (clock : moment_at x.state shard index ≡ Some now) (are : are_bytes frame ≡ true) where
      abbrev taken : Option Taking
      taken = taken_if shard index (record { now = now; from = from; frame = frame })
          (answer (replica_self s shard index) now from (led_to s j) frame)

      abbrev at_place : (a b now : ℕ) → BookValue → Option Taking
      at_place a b now book =
          cond (is_ok (answer (replica_self s a b) now from book frame)) (Some (record {
            shard = a;
            index = b;
            handed = record { now = now; from = from; frame = frame };
          })) None

      decided : (r : Result Done Refusal) → cond (is_ok r) (Some (record {
        shard = shard;
        index = index;
        handed = record { now = now; from = from; frame = frame };
      })) None ≡ taken_if shard index (record { now = now; from = from; frame = frame }) r
      decided (Ok d) = refl
      decided (Err f) = refl

      book_is : book_in x.state shard index ≡ Some (led_to s j)
      book_is =
          let there = found_there x.journals shard index j found in
          sym (ap (λ (n : ℕ). book_in x.state n index) there.shard_is)
          ∙ sym (ap (λ (n : ℕ). book_in x.state j.shard n) there.index_is) ∙ own.book

      by_standing : (o : Option Standing) → standing x.state shard index ≡ o → option_map (λ (y : Standing). y.moment) o ≡ Some now →
          option_map (λ (y : Standing). y.book) o ≡ Some (led_to s j) → option_and_then (taken_by s h) o ≡ taken
      by_standing None q m b = absurd cc
      by_standing (Some y) q m b =
          let same = same_place y.shard y.index shard index (found_so (is_at shard index) x.state.replicas y q) in
          ap (λ (n : ℕ). at_place n y.index y.moment y.book) same.0 ∙ ap (λ (n : ℕ). at_place shard n y.moment y.book) same.1
          ∙ ap (λ (n : ℕ). at_place shard index n y.book) (same_Some y.moment now m)
          ∙ ap (at_place shard index now) (same_Some y.book (led_to s j) b)
          ∙ decided (answer (replica_self s shard index) now from (led_to s j) frame)

      correct : is_faulty s (Replica shard index) ≡ false
      correct =
          let there = found_there x.journals shard index j found in
          sym (ap (λ (n : ℕ). is_faulty s (Replica n index)) there.shard_is)
          ∙ sym (ap (λ (n : ℕ). is_faulty s (Replica j.shard n)) there.index_is) ∙ own.correct

      pub takes_so : takes s x.state e ≡ taken
      takes_so =
          takes_of s x.state e h at
          ∙ ap (λ b. cond (b || not (are_bytes frame)) None (taken_at s x.state h (Replica shard index))) correct
          ∙ ap (λ b. cond (not b) None (taken_at s x.state h (Replica shard index))) are
          ∙ by_standing (standing x.state shard index) refl clock book_is

      -- led_to by the place where it is found
      pub led_here : led_to s j ≡ led_to s (record j { shard = shard; index = index })
      led_here =
          let there = found_there x.journals shard index j found in
          ap (λ (n : ℕ). led_to s (record j { shard = n })) there.shard_is
          ∙ ap (λ (n : ℕ). led_to s (record j { shard = shard; index = n })) there.index_is

-- the letter of a replica with a journal
pub hands_letter : (s : Setup) (x : JournaledState) (e : EventValue) (l : Letter) →
    handed_by x.state e ≡ Some (hand l.from (Replica l.shard l.index) l.frame.now) → (j : JournalValue) →
    journal_at x.journals l.shard l.index ≡ Some j → IsOwn s x.state j → moment_at x.state l.shard l.index ≡ Some l.moment →
    are_bytes l.frame.now ≡ true → Hands s x e l
hands_letter s x e l at j found own clock are = record {
  journal = j;
  found = found;
  answers = takes_so s x e l.from l.frame.now l.shard l.index at j l.moment found own clock are
      ∙ ap (λ book. taken_if l.shard l.index (handed_by_letter l)
      (answer (replica_self s l.shard l.index) l.moment l.from book l.frame.now))
      (led_here s x e l.from l.frame.now l.shard l.index at j l.moment found own clock are);
}
