-- The journals before the first event.
use Rattle.std.proofs.Common.{◌≡◌, ◌∙◌, ℕ, zero, suc, ◌+◌, Bool, true, false, cond, List, [], ◌∷◌, ◌++◌, map, refl, sym, ap, subst}
use Rattle.std.proofs.Common.{arith, append_assoc}
use Rattle.std.proofs.lemmas.Grind.{flat_map-append}
use Rattle.std.proofs.lemmas.List.{append-nil}
use Rattle.std.proofs.lemmas.List.Elements.{filter-append}
use Rattle.std.proofs.lemmas.List.FromFn.{map-range_with_len_more}
use Rattle.std.proofs.lemmas.Option.{same_Some}
use Rattle.std.specs.List.{flat_map, range_with_len}
use Rattle.std.specs.Prelude.{⊤, Some, filter, find, not, option_map}
use Rattle.basil_types.specs.declared.party.Party.TheVariants.{Replica}
use Rattle.cluster_nodes.specs.Standings.{IsOf}
use Rattle.keyring.specs.declared.verifier.Verifier as verifiers
use Rattle.keyring.specs.declared.signer.Signer as signers
use Rattle.keyring.specs.Signing.{Signing}
use Rattle.certificates.specs.Accepted.{Accepted}
use Rattle.basil_types.specs.Setting.{Setting}
use Rattle.node_journal.specs.Opening.{self_in}
use Rattle.node_steps.specs.Pens.{PenValue}
use Rattle.quorum_laws.specs.Numbers.{replicas}
use Rattle.replica_core.specs.Replicas.{empty_book}
use Rattle.run_journals.specs.declared.journal.RunJournal.{RunJournal}
use Rattle.run_journals.specs.declared.journals.Journals.{Journals}
use Rattle.run_journals.specs.Journals.{JournalValue, fresh, journal_at}
use Rattle.run_journals.specs.Kept.{IsJournal, IsOne}
use Rattle.cluster_run.specs.Parts.{replica_self}
use Rattle.cluster_run.specs.States.{KitValue, Setup, Standing, first_standing, is_at, is_faulty, shard_standing, start}
use Rattle.delivery_laws.specs.Deliveries.{book_in}
use Rattle.journaled_runs.specs.Beginning.{AddsJournals}
use Rattle.journaled_runs.specs.Journaling.{first_state, fresh_journals, fresh_of, is_correct}
use Rattle.journaled_runs.specs.Shown.{AreOwn, Holds, IsOwn, KeepsAll, pen_of}
use Rattle.journaled_runs.proofs.Places.{found_so, same_place}

-- ---- lists

range_more : (a n : ℕ) → range_with_len a (suc n) ≡ range_with_len a n ++ (a + n) ∷ []
range_more a zero = let same : a ≡ a + 0 = omega arith in ap (λ x. x ∷ []) same
range_more a (suc n) =
    let same : a + 1 + n ≡ a + suc n = omega arith in
    ap (λ l. a ∷ l) (range_more (a + 1) n ∙ ap (λ x. range_with_len (a + 1) n ++ x ∷ []) same)

flat_more : {A : Type 0} (f : ℕ → List A) (n : ℕ) →
    flat_map f (range_with_len 0 (n + 1)) ≡ flat_map f (range_with_len 0 n) ++ f n
flat_more f n =
    let one : n + 1 ≡ suc n = omega arith in
    let same : 0 + n ≡ n = omega arith in
    ap (flat_map f) (ap (range_with_len 0) one ∙ range_more 0 n ∙ ap (λ x. range_with_len 0 n ++ x ∷ []) same)
    ∙ flat_map-append f (range_with_len 0 n) (n ∷ [])
    ∙ ap (λ l. flat_map f (range_with_len 0 n) ++ l) (append-nil (f n))

map_append : {A B : Type 0} (f : A → B) (xs ys : List A) → map f (xs ++ ys) ≡ map f xs ++ map f ys
map_append f [] ys = refl
map_append f (x ∷ xs) ys = ap (λ l. f x ∷ l) (map_append f xs ys)

fresh_append : (s : Setup) (xs ys : List Standing) → fresh_journals s (xs ++ ys) ≡ fresh_journals s xs ++ fresh_journals s ys
fresh_append s xs ys =
    ap (map fresh_of) (filter-append (is_correct s) xs ys) ∙ map_append fresh_of (filter (is_correct s) xs) (filter (is_correct s) ys)

-- ---- one journal more

module _ {V S : Type 0} {v : verifiers.Ghosts V} {g : signers.Ghosts S} (s : Setup) where
  pub none_added : (js : Journals V S v g) → AddsJournals s [] js js
  none_added js before h = subst (Holds s js) (sym (append-nil before)) h

  -- a faulty replica has none
  pub faulty_added : (js : Journals V S v g) (x : Standing) → is_faulty s (Replica x.shard x.index) ≡ true →
      AddsJournals s (x ∷ []) js js
  faulty_added js x out before h =
      subst (Holds s js)
      (sym (ap (λ b. before ++ map fresh_of (cond (not b) (x ∷ []) [])) out ∙ append-nil before)) h

  -- a correct one has this
  pub correct_added : (old new : Journals V S v g) (x : Standing) → is_faulty s (Replica x.shard x.index) ≡ false →
      ((before : List JournalValue) → Holds s old before → Holds s new (before ++ fresh_of x ∷ [])) →
      AddsJournals s (x ∷ []) old new
  correct_added old new x in_it adds before h =
      subst (Holds s new) (sym (ap (λ b. before ++ map fresh_of (cond (not b) (x ∷ []) [])) in_it)) (adds before h)

  more_added : (more last : List Standing) (old now new : Journals V S v g) → AddsJournals s more old now →
      AddsJournals s last now new → AddsJournals s (more ++ last) old new
  more_added more last old now new first next before h =
      subst (Holds s new)
      (append_assoc before (fresh_journals s more) (fresh_journals s last)
      ∙ ap (λ l. before ++ l) (sym (fresh_append s more last)))
      (next (before ++ fresh_journals s more) (first before h))

  -- those of a shard, one more
  pub next_added : (shard index : ℕ) (old now new : Journals V S v g) →
      AddsJournals s (map (first_standing s shard) (range_with_len 0 index)) old now →
      AddsJournals s (first_standing s shard index ∷ []) now new →
      AddsJournals s (map (first_standing s shard) (range_with_len 0 (index + 1))) old new
  next_added shard index old now new first next =
      subst (λ l. AddsJournals s l old new) (sym (map-range_with_len_more (first_standing s shard) 0 index index (omega arith)))
      (more_added (map (first_standing s shard) (range_with_len 0 index)) (first_standing s shard index ∷ []) old now new first next)

  -- those of one more shard
  pub next_shard : (shard : ℕ) (now new : Journals V S v g) →
      Holds s now (fresh_journals s (flat_map (shard_standing s) (range_with_len 0 shard))) →
      AddsJournals s (shard_standing s shard) now new →
      Holds s new (fresh_journals s (flat_map (shard_standing s) (range_with_len 0 (shard + 1))))
  next_shard shard now new h next =
      subst (Holds s new)
      (sym (ap (fresh_journals s) (flat_more (shard_standing s) shard)
      ∙ fresh_append s (flat_map (shard_standing s) (range_with_len 0 shard)) (shard_standing s shard)))
      (next (fresh_journals s (flat_map (shard_standing s) (range_with_len 0 shard))) h)

  -- a journal that begins with a keyring and a pen of the kit
  pub begun_one : (kit : KitValue) (cluster : Setting) (shard index : ℕ) (accepts : Accepted) (signing : Signing) (place : PenValue)
      (journal : RunJournal V S v g) → s.cluster ≡ cluster → s.kit ≡ kit → IsOf kit (Replica shard index) accepts signing place →
      IsJournal (self_in cluster shard index accepts signing) place journal (fresh shard index) →
      IsOne (replica_self s) (pen_of s) journal (fresh shard index)
  begun_one kit cluster shard index accepts signing place journal c k of is =
      let a : accepts ≡ s.kit.accepts = of.accepted ∙ sym (ap (λ (w : KitValue). w.accepts) k) in
      let b : signing ≡ s.kit.signing (Replica shard index) = of.signed ∙ sym (ap (λ (w : KitValue). w.signing (Replica shard index)) k) in
      let d : place ≡ s.kit.pen (Replica shard index) = of.begins ∙ sym (ap (λ (w : KitValue). w.pen (Replica shard index)) k) in
      subst (λ (w : PenValue). IsJournal (replica_self s shard index) w journal (fresh shard index)) d
      (subst (λ (w : Signing). IsJournal (self_in s.cluster shard index s.kit.accepts w) place journal (fresh shard index)) b
      (subst (λ (w : Accepted). IsJournal (self_in s.cluster shard index w signing) place journal (fresh shard index)) a
      (subst (λ (w : Setting). IsJournal (self_in w shard index accepts signing) place journal (fresh shard index)) (sym c) is)))

-- ---- whose they are

-- each replica has the empty book
abbrev AreEmpty : Setup → List Standing → Type 0
AreEmpty s [] = ⊤
AreEmpty s (x ∷ xs) = (x.book ≡ empty_book (pen_of s x.shard x.index)) × AreEmpty s xs

empty_append : (s : Setup) (xs ys : List Standing) → AreEmpty s xs → AreEmpty s ys → AreEmpty s (xs ++ ys)
empty_append s [] ys h k = k
empty_append s (x ∷ xs) ys h k = (h.0, empty_append s xs ys h.1 k)

empty_shard : (s : Setup) (shard : ℕ) (ns : List ℕ) → AreEmpty s (map (first_standing s shard) ns)
empty_shard s shard [] = tt
empty_shard s shard (n ∷ ns) = (refl, empty_shard s shard ns)

empty_all : (s : Setup) (ns : List ℕ) → AreEmpty s (flat_map (shard_standing s) ns)
empty_all s [] = tt
empty_all s (n ∷ ns) =
    empty_append s (shard_standing s n) (flat_map (shard_standing s) ns) (empty_shard s n (range_with_len 0 (replicas s.cluster.f)))
    (empty_all s ns)

-- the replica whose fresh journal is found
record IsFrom (s : Setup) (xs : List Standing) (shard index : ℕ) (j : JournalValue) : Type 0 where
  x : Standing
  found : find (is_at shard index) xs ≡ Some x
  correct : is_faulty s (Replica x.shard x.index) ≡ false
  is : fresh_of x ≡ j
  empty : x.book ≡ empty_book (pen_of s x.shard x.index)

correct_of : (b : Bool) → not b ≡ true → b ≡ false
correct_of true h = absurd cc
correct_of false h = refl

faulty_of : (b : Bool) → not b ≡ false → b ≡ true
faulty_of true h = refl
faulty_of false h = absurd cc

module _ (s : Setup) (shard index : ℕ) (j : JournalValue) where
  -- a faulty one at the place is none
  skips : (x : Standing) (xs : List Standing) → is_faulty s (Replica x.shard x.index) ≡ true → IsFrom s xs shard index j →
      (b : Bool) → is_at shard index x ≡ b → cond b (Some x) (find (is_at shard index) xs) ≡ find (is_at shard index) xs
  skips x xs out from false e = refl
  skips x xs out from true e =
      let a = same_place x.shard x.index shard index e in
      let b = same_place from.x.shard from.x.index shard index (found_so (is_at shard index) xs from.x from.found) in
      let one : is_faulty s (Replica shard index) ≡ true =
      sym (ap (λ (n : ℕ). is_faulty s (Replica n index)) a.0) ∙ sym (ap (λ (n : ℕ). is_faulty s (Replica x.shard n)) a.1) ∙ out in
      let other : is_faulty s (Replica shard index) ≡ false =
      sym (ap (λ (n : ℕ). is_faulty s (Replica n index)) b.0) ∙ sym (ap (λ (n : ℕ). is_faulty s (Replica from.x.shard n)) b.1)
      ∙ from.correct in
      let clash : true ≡ false = sym one ∙ other in
      absurd cc

  from_more : (x : Standing) (xs : List Standing) → find (is_at shard index) (x ∷ xs) ≡ find (is_at shard index) xs →
      IsFrom s xs shard index j → IsFrom s (x ∷ xs) shard index j
  from_more x xs same from = record { x = from.x; found = same ∙ from.found; correct = from.correct; is = from.is; empty = from.empty }

  from_one : (xs : List Standing) → AreEmpty s xs → journal_at (fresh_journals s xs) shard index ≡ Some j → IsFrom s xs shard index j
  from_one [] e h = absurd cc
  from_one (x ∷ xs) e h = by (from_one xs e.1) (is_correct s x) refl h
    where
      here : (journal_at (fresh_journals s xs) shard index ≡ Some j → IsFrom s xs shard index j) → is_correct s x ≡ true →
          (b : Bool) → is_at shard index x ≡ b → cond b (Some (fresh_of x)) (journal_at (fresh_journals s xs) shard index) ≡ Some j →
          IsFrom s (x ∷ xs) shard index j
      here later ok true at k = record {
        x = x;
        found = ap (λ b. cond b (Some x) (find (is_at shard index) xs)) at;
        correct = correct_of (is_faulty s (Replica x.shard x.index)) ok;
        is = same_Some (fresh_of x) j k;
        empty = e.0;
      }
      here later ok false at k = from_more x xs (ap (λ b. cond b (Some x) (find (is_at shard index) xs)) at) (later k)

      by : (journal_at (fresh_journals s xs) shard index ≡ Some j → IsFrom s xs shard index j) →
          (b : Bool) → is_correct s x ≡ b →
          journal_at (map fresh_of (cond b (x ∷ filter (is_correct s) xs) (filter (is_correct s) xs))) shard index ≡ Some j →
          IsFrom s (x ∷ xs) shard index j
      by later true ok k = here later ok (is_at shard index x) refl k
      by later false ok k =
          from_more x xs
          (skips x xs (faulty_of (is_faulty s (Replica x.shard x.index)) ok) (later k) (is_at shard index x) refl) (later k)

-- at the start each journal leads to its replica's book
own_first : (s : Setup) → AreOwn s (start s) (fresh_journals s (start s).replicas)
own_first s shard index j h =
    let from = from_one s shard index j (start s).replicas (empty_all s (range_with_len 0 s.cluster.shards)) h in
    let at = same_place from.x.shard from.x.index shard index (found_so (is_at shard index) (start s).replicas from.x from.found) in
    subst (IsOwn s (start s)) from.is (record {
      correct = from.correct;
      book = ap (λ (n : ℕ). book_in (start s) n from.x.index) at.0 ∙ ap (λ (n : ℕ). book_in (start s) shard n) at.1
          ∙ ap (option_map (λ (y : Standing). y.book)) from.found ∙ ap Some from.empty;
    })

module _ {V S : Type 0} {v : verifiers.Ghosts V} {g : signers.Ghosts S} (s : Setup) where
  pub keeps_first : (kit : KitValue) (js : Journals V S v g) → s.kit ≡ kit → Holds s js (fresh_journals s (start s).replicas) →
      KeepsAll s kit js (first_state s true)
  keeps_first kit js k holds = record { kit_is = k; holds = holds; own = own_first s }

  pub keeps_none : (js : Journals V S v g) → Holds s js [] → KeepsAll s s.kit js (first_state s false)
  keeps_none js holds = record { kit_is = refl; holds = holds; own = λ shard index j h. absurd cc }
