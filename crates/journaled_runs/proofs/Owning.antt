-- Each journal has what leads to its replica's book, after an event too.
use Rattle.std.proofs.Common.{◌≡◌, ◌∙◌, ℕ, ◌==◌, Bool, true, false, cond, List, [], ◌∷◌, ◌++◌, refl, sym, ap, subst}
use Rattle.std.proofs.lemmas.Bool.{eq-eqb}
use Rattle.std.proofs.lemmas.Option.{same_Some}
use Rattle.std.specs.Prelude.{◌&&◌, Option, Some, None, Ok, option_and_then, option_map}
use Rattle.replica_core.specs.Replicas.{BookValue, ReplicaSelf, empty_book}
use Rattle.replica_laws.specs.Steps.{Handed, book_after, step}
use Rattle.run_journals.specs.declared.took.Took.TheVariants.{Taken}
use Rattle.run_journals.specs.Journals.{JournalValue, after_take, is_its, journal_at, put_at, put_journal}
use Rattle.cluster_run.specs.Events.{EventValue, happens}
use Rattle.cluster_run.specs.Parts.{replica_self}
use Rattle.cluster_run.specs.States.{Setup, State}
use Rattle.delivery_laws.specs.Deliveries.{Taking, after_taking, book_in, takes}
use Rattle.delivery_laws.specs.Laws.{BooksFollowDeliveries}
use Rattle.journaled_runs.specs.Journaling.{full, full_by, written}
use Rattle.journaled_runs.specs.Handing.{journal_of}
use Rattle.journaled_runs.specs.Shown.{AreOwn, IsOwn, pen_of}
use Rattle.journaled_runs.proofs.Places.{IsThere, found_own, found_there, is_there, not_none, put_found, put_other, same_place}

-- one frame more
pub book_more : (me : ReplicaSelf) (book : BookValue) (hs : List Handed) (h : Handed) →
    book_after me book (hs ++ h ∷ []) ≡ (step me (book_after me book hs) h).book
book_more me book [] h = refl
book_more me book (g ∷ hs) h = book_more me (step me book g).book hs h

-- the book that a journal leads to
abbrev pub led_to : Setup → JournalValue → BookValue
led_to s j = book_after (replica_self s j.shard j.index) (empty_book (pen_of s j.shard j.index)) j.taken

-- ---- where no replica with a journal takes

pub none_full : (js : List JournalValue) (taking : Option Taking) → journal_of js taking ≡ None → full js taking ≡ None
none_full js None e = refl
none_full js (Some t) e = ap (option_and_then (full_by t.handed)) e

pub none_written : (js : List JournalValue) (taking : Option Taking) → journal_of js taking ≡ None → written taking js ≡ js
none_written js None e = refl
none_written js (Some t) e = ap (λ o. put_at (λ j. after_take j t.handed Taken) o js) e

-- ---- an event

module _ (s : Setup) (st after : State) (taking : Option Taking)
    (follows : (shard index : ℕ) → book_in after shard index ≡ option_map (after_taking s taking shard index) (book_in st shard index))
  where
    -- a book that isn't changed
    own_still : (j : JournalValue) → IsOwn s st j → after_taking s taking j.shard j.index (led_to s j) ≡ led_to s j → IsOwn s after j
    own_still j own e = record {
      correct = own.correct;
      book = follows j.shard j.index ∙ ap (option_map (after_taking s taking j.shard j.index)) own.book ∙ ap Some e;
    }

module _ (s : Setup) (st after : State) (t : Taking)
    (follows : (shard index : ℕ) → book_in after shard index ≡ option_map (after_taking s (Some t) shard index) (book_in st shard index))
  where
    -- the journal of another replica
    own_other : (j : JournalValue) → IsOwn s st j → ((t.shard == j.shard) && (t.index == j.index)) ≡ false → IsOwn s after j
    own_other j own e =
        own_still s st after (Some t) follows j own
        (ap (λ b. cond b (step (replica_self s j.shard j.index) (led_to s j) t.handed).book (led_to s j)) e)

    -- that of the replica that takes
    own_taken : (k : JournalValue) → IsOwn s st k → k.shard ≡ t.shard → k.index ≡ t.index → IsOwn s after (after_take k t.handed Taken)
    own_taken k own e f =
        let me = replica_self s k.shard k.index in
        let here : ((t.shard == k.shard) && (t.index == k.index)) ≡ true =
        ap (λ b. b && (t.index == k.index)) (eq-eqb t.shard k.shard (sym e)) ∙ eq-eqb t.index k.index (sym f) in
        record {
          correct = own.correct;
          book = follows k.shard k.index
              ∙ ap (option_map (after_taking s (Some t) k.shard k.index)) own.book
              ∙ ap (λ b. Some (cond b (step me (led_to s k) t.handed).book (led_to s k))) here
              ∙ ap Some (sym (book_more me (empty_book (pen_of s k.shard k.index)) k.taken t.handed));
        }

    -- where the replica that takes has no journal
    own_without : (js : List JournalValue) → AreOwn s st js → journal_at js t.shard t.index ≡ None → AreOwn s after js
    own_without js own none shard index j found = by ((t.shard == j.shard) && (t.index == j.index)) refl
      where
        by : (b : Bool) → ((t.shard == j.shard) && (t.index == j.index)) ≡ b → IsOwn s after j
        by false e = own_other j (own shard index j found) e
        by true e =
            let same = same_place t.shard t.index j.shard j.index e in
            let there : journal_at js t.shard t.index ≡ Some j =
            ap (λ (n : ℕ). journal_at js n t.index) same.0 ∙ ap (λ (n : ℕ). journal_at js j.shard n) same.1
            ∙ found_own js shard index j found in
            absurd (not_none (journal_at js t.shard t.index) j there none)

    -- where it has this one
    own_with : (js : List JournalValue) (k : JournalValue) → AreOwn s st js → journal_at js t.shard t.index ≡ Some k →
        AreOwn s after (put_journal (after_take k t.handed Taken) js)
    own_with js k own there shard index j found = by (is_its shard index k) refl
      where
        here : IsThere t.shard t.index k
        here = found_there js t.shard t.index k there

        by : (b : Bool) → is_its shard index k ≡ b → IsOwn s after j
        by true e =
            let at = is_there shard index k e in
            let k_at : journal_at js shard index ≡ Some k =
            sym (ap (λ (n : ℕ). journal_at js n index) at.shard_is ∙ refl) ∙ ap (λ (n : ℕ). journal_at js k.shard n) (sym at.index_is)
            ∙ found_own js t.shard t.index k there in
            subst (IsOwn s after)
            (same_Some (after_take k t.handed Taken) j
            (sym (put_found (after_take k t.handed Taken) js shard index k e k_at) ∙ found))
            (own_taken k (own t.shard t.index k there) here.shard_is here.index_is)
        by false e =
            let old : journal_at js shard index ≡ Some j = sym (put_other (after_take k t.handed Taken) js shard index e) ∙ found in
            let at = found_there js shard index j old in
            own_other j (own shard index j old)
            (ap (λ (n : ℕ). (n == j.shard) && (t.index == j.index)) (sym here.shard_is)
            ∙ ap (λ (n : ℕ). (k.shard == n) && (t.index == j.index)) at.shard_is
            ∙ ap (λ (n : ℕ). (k.shard == shard) && (n == j.index)) (sym here.index_is)
            ∙ ap (λ (n : ℕ). (k.shard == shard) && (k.index == n)) at.index_is
            ∙ e)

-- what is written leads to the books after the event
pub own_on : BooksFollowDeliveries → (s : Setup) (st after : State) (e : EventValue) (js : List JournalValue) →
    happens s e st ≡ Ok after → AreOwn s st js → AreOwn s after (written (takes s st e) js)
own_on law s st after e js h own = by (takes s st e) (law s st after e h)
  where
    with_one : (t : Taking) →
        ((shard index : ℕ) → book_in after shard index ≡ option_map (after_taking s (Some t) shard index) (book_in st shard index)) →
        (o : Option JournalValue) → journal_at js t.shard t.index ≡ o →
        AreOwn s after (put_at (λ j. after_take j t.handed Taken) o js)
    with_one t follows None there = own_without s st after t follows js own there
    with_one t follows (Some k) there = own_with s st after t follows js k own there

    by : (taking : Option Taking) →
        ((shard index : ℕ) → book_in after shard index ≡ option_map (after_taking s taking shard index) (book_in st shard index)) →
        AreOwn s after (written taking js)
    by None follows = λ shard index j found. own_still s st after None follows j (own shard index j found) refl
    by (Some t) follows = with_one t follows (journal_at js t.shard t.index) refl
