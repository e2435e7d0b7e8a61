-- Journals beside what they are to be.
use Rattle.std.proofs.Common.{◌≡◌, ◌∙◌, ◌<◌, ℕ, zero, suc, ◌+◌, ◌==◌, Bool, true, false, cond, List, [], ◌∷◌, ◌++◌}
use Rattle.std.proofs.Common.{length, refl, sym, ap, subst, add-one, Option, Some, None, arith}
use Rattle.std.proofs.lemmas.Bool.{eqb-true}
use Rattle.std.proofs.lemmas.Option.{same_Some}
use Rattle.std.specs.Prelude.{IfOk, OnOk, Result, Ok, Err}
use Rattle.std.specs.Prelude.{◌&&◌, is_some, option_map, position, slice_get, slice_index_or, slice_set}
use Rattle.basil_types.proofs.Walks.{position-cons}
use Rattle.basil_types.specs.declared.memory.NoMemory.{NoMemory}
use Rattle.basil_types.specs.declared.party.Party.TheVariants.{Replica}
use Rattle.journal_disk.specs.declared.disk.Stop.{Stop}
use Rattle.journal_disk.specs.Memory.{MemDiskState}
use Rattle.keyring.specs.declared.verifier.Verifier as verifiers
use Rattle.keyring.specs.declared.signer.Signer as signers
use Rattle.node_steps.specs.Pens.{PenValue}
use Rattle.replica_core.specs.Replicas.{ReplicaSelf}
use Rattle.replica_laws.specs.Steps.{Handed}
use Rattle.run_journals.specs.declared.journal.RunJournal.{RunJournal}
use Rattle.run_journals.specs.declared.took.Took.{Took}
use Rattle.run_journals.specs.declared.took.Took.TheVariants.{Taken}
use Rattle.run_journals.specs.Journals.{JournalValue, after_stop, after_take, fullness, is_its, journal_at, put_at, put_journal}
use Rattle.run_journals.specs.Journals.{took_among, took_next}
use Rattle.run_journals.specs.Kept.{HoldsJournal, IsJournal, IsOne, ShowsDisk, at_place}
use Rattle.run_journals.specs.Pairs.{Pairs}
use Rattle.run_journals.proofs.TookLaws.{Stays, stop-stays, take-stays}

got : {A : Type 0} (xs : List A) (i : ℕ) (x : A) → i < length xs → x ≡ slice_index_or xs i x → slice_get xs i ≡ Some x
got [] i x h e = absurd (omega arith)
got (y ∷ ys) zero x h e = ap Some (sym e)
got (y ∷ ys) (suc i) x h e = got ys i x (omega arith) e

both : (a b : Bool) → (a && b) ≡ true → (a ≡ true) × (b ≡ true)
both true b h = (refl, h)
both false b h = absurd cc

pub pairs-push : {A B : Type 0} (Is : A → B → Type 0) (ls : List A) (rs : List B) (a : A) (b : B) → Pairs Is ls rs → Is a b →
    Pairs Is (ls ++ a ∷ []) (rs ++ b ∷ [])
pairs-push Is [] [] a b h one = (one, tt)
pairs-push Is [] (y ∷ rs) a b h one = absurd h
pairs-push Is (x ∷ ls) [] a b h one = absurd h
pairs-push Is (x ∷ ls) (y ∷ rs) a b h one = (h.0, pairs-push Is ls rs a b h.1 one)

module _ {V S : Type 0} (v : verifiers.Ghosts V) (g : signers.Ghosts S) (shard index : ℕ) where
  abbrev at : RunJournal V S v g → Bool
  at j = at_place shard index j

  passes : (js : List (RunJournal V S v g)) (place : ℕ) (k : RunJournal V S v g) → position at js ≡ Some place →
      k ≡ slice_index_or js place k → at k ≡ true
  passes [] place k e value = absurd cc
  passes (j ∷ js) place k e value =
      by (λ (i : ℕ). passes js i k) (at j) refl (position at js) refl place (sym (position-cons at j js) ∙ e) value
    where
      by : ((i : ℕ) → position at js ≡ Some i → k ≡ slice_index_or js i k → at k ≡ true) → (b : Bool) → at j ≡ b →
          (o : Option ℕ) → position at js ≡ o → (place : ℕ) → cond b (Some 0) (option_map (λ i. i + 1) o) ≡ Some place →
          k ≡ slice_index_or (j ∷ js) place k → at k ≡ true
      by later true t o q place m value =
          ap at (subst (λ (n : ℕ). k ≡ slice_index_or (j ∷ js) n k) (sym (same_Some 0 place m)) value) ∙ t
      by later false t None q place m value = absurd cc
      by later false t (Some i) q place m value =
          later i q (subst (λ (n : ℕ). k ≡ slice_index_or (j ∷ js) n k) (sym (sym (add-one i) ∙ same_Some (i + 1) place m)) value)

  -- the journal that was found is that of this replica
  pub its : (js : List (RunJournal V S v g)) (place : ℕ) (k : RunJournal V S v g) → position at js ≡ Some place →
      k ≡ slice_index_or js place k → Replica shard index ≡ Replica k.shard k.index
  its js place k e value =
      let b = both (k.shard == shard) (k.index == index) (passes js place k e value) in
      ap (λ (n : ℕ). Replica n index) (sym (eqb-true k.shard shard b.0)) ∙ ap (Replica k.shard) (sym (eqb-true k.index index b.1))

module _ {V S : Type 0} (v : verifiers.Ghosts V) (g : signers.Ghosts S) (who : ℕ → ℕ → ReplicaSelf) (begun : ℕ → ℕ → PenValue)
    (shard index : ℕ) where
  abbrev pub Are : List (RunJournal V S v g) → List JournalValue → Type 0
  Are js xs = Pairs (IsOne {V = V} {S = S} {v = v} {g = g} who begun) js xs

  abbrev pub test : RunJournal V S v g → Bool
  test j = at_place shard index j

  same-place : (j : RunJournal V S v g) (x : JournalValue) → IsOne who begun j x → test j ≡ is_its shard index x
  same-place j x h =
      ap (λ (n : ℕ). (n == shard) && (j.index == index)) h.shard ∙ ap (λ (n : ℕ). (x.shard == shard) && (n == index)) h.index

  -- none is found where there is none
  pub nowhere : (js : List (RunJournal V S v g)) (xs : List JournalValue) → Are js xs → position test js ≡ None →
      journal_at xs shard index ≡ None
  nowhere [] [] h e = refl
  nowhere [] (x ∷ xs) h e = absurd h
  nowhere (j ∷ js) [] h e = absurd h
  nowhere (j ∷ js) (x ∷ xs) h e =
      by (nowhere js xs h.1) (test j) (same-place j x h.0) (position test js) refl (sym (position-cons test j js) ∙ e)
    where
      by : (position test js ≡ None → journal_at xs shard index ≡ None) → (b : Bool) → b ≡ is_its shard index x → (o : Option ℕ) →
          position test js ≡ o → cond b (Some 0) (option_map (λ k. k + 1) o) ≡ None → journal_at (x ∷ xs) shard index ≡ None
      by later true s o q m = absurd cc
      by later false s None q m = ap (λ (b : Bool). cond b (Some x) (journal_at xs shard index)) (sym s) ∙ later q
      by later false s (Some k) q m = absurd cc

  its-same : (x y : JournalValue) → y.shard ≡ shard → y.index ≡ index → is_its y.shard y.index x ≡ is_its shard index x
  its-same x y s i = ap (λ (n : ℕ). is_its n y.index x) s ∙ ap (λ (n : ℕ). is_its shard n x) i

  -- what stands beside the journal that is found, and the lists with what becomes of both
  pub record IsThere (js : List (RunJournal V S v g)) (xs : List JournalValue) (place : ℕ) : Type 0 where
    pub journal : RunJournal V S v g
    pub x : JournalValue
    pub stands : slice_get js place ≡ Some journal
    pub within : place < length js
    pub is : journal_at xs shard index ≡ Some x
    pub shard_is : x.shard ≡ shard
    pub index_is : x.index ≡ index
    pub one : IsOne who begun journal x
    pub put :
        (j : RunJournal V S v g) (y : JournalValue) → y.shard ≡ shard → y.index ≡ index → IsOne who begun j y →
        Are (slice_set js place j) (put_journal y xs)
    pub same : (j : RunJournal V S v g) → IsOne who begun j x → Are (slice_set js place j) xs

  at-once : (j : RunJournal V S v g) (js : List (RunJournal V S v g)) (x : JournalValue) (xs : List JournalValue) →
      Are (j ∷ js) (x ∷ xs) → is_its shard index x ≡ true → IsThere (j ∷ js) (x ∷ xs) 0
  at-once j js x xs h t =
      let b = both (x.shard == shard) (x.index == index) t in
      record {
        journal = j;
        x = x;
        stands = refl;
        within = omega arith;
        is = ap (λ (b : Bool). cond b (Some x) (journal_at xs shard index)) t;
        shard_is = eqb-true x.shard shard b.0;
        index_is = eqb-true x.index index b.1;
        one = h.0;
        put =
            λ k y s i o.
            subst (λ (ys : List JournalValue). Are (k ∷ js) ys)
            (sym (ap (λ (b : Bool). cond b (y ∷ xs) (x ∷ put_journal y xs)) (its-same x y s i ∙ t))) (o, h.1);
        same = λ k o. (o, h.1);
      }

  behind : (j : RunJournal V S v g) (js : List (RunJournal V S v g)) (x : JournalValue) (xs : List JournalValue) (place : ℕ) →
      Are (j ∷ js) (x ∷ xs) → is_its shard index x ≡ false → IsThere js xs place → IsThere (j ∷ js) (x ∷ xs) (suc place)
  behind j js x xs place h t later =
      let w = later.within in
      record {
        journal = later.journal;
        x = later.x;
        stands = later.stands;
        within = omega (arith, w);
        is = ap (λ (b : Bool). cond b (Some x) (journal_at xs shard index)) t ∙ later.is;
        shard_is = later.shard_is;
        index_is = later.index_is;
        one = later.one;
        put =
            λ k y s i o.
            subst (λ (ys : List JournalValue). Are (j ∷ slice_set js place k) ys)
            (sym (ap (λ (b : Bool). cond b (y ∷ xs) (x ∷ put_journal y xs)) (its-same x y s i ∙ t))) (h.0, later.put k y s i o);
        same = λ k o. (h.0, later.same k o);
      }

  there : (js : List (RunJournal V S v g)) (xs : List JournalValue) (place : ℕ) → Are js xs → position test js ≡ Some place →
      IsThere js xs place
  there [] xs place h e = absurd cc
  there (j ∷ js) [] place h e = absurd h
  there (j ∷ js) (x ∷ xs) place h e =
      by (λ (k : ℕ) (q : position test js ≡ Some k). there js xs k h.1 q) (test j) (same-place j x h.0) (position test js) refl place
      (sym (position-cons test j js) ∙ e)
    where
      by : ((k : ℕ) → position test js ≡ Some k → IsThere js xs k) → (b : Bool) → b ≡ is_its shard index x → (o : Option ℕ) →
          position test js ≡ o → (place : ℕ) → cond b (Some 0) (option_map (λ k. k + 1) o) ≡ Some place →
          IsThere (j ∷ js) (x ∷ xs) place
      by later true s o q place m = subst (IsThere (j ∷ js) (x ∷ xs)) (same_Some 0 place m) (at-once j js x xs h (sym s))
      by later false s None q place m = absurd cc
      by later false s (Some k) q place m =
          subst (IsThere (j ∷ js) (x ∷ xs)) (sym (add-one k) ∙ same_Some (k + 1) place m) (behind j js x xs k h (sym s) (later k q))

  -- what stands beside the journal that was found, and the lists with what becomes of both
  pub record IsFound (js : List (RunJournal V S v g)) (xs : List JournalValue) (place : ℕ) (journal : RunJournal V S v g) :
      Type 0 where
    pub x : JournalValue
    pub is : journal_at xs shard index ≡ Some x
    pub shard_is : x.shard ≡ shard
    pub index_is : x.index ≡ index
    pub one : IsJournal (who x.shard x.index) (begun x.shard x.index) journal x
    pub put :
        (j : RunJournal V S v g) (y : JournalValue) → y.shard ≡ x.shard → y.index ≡ x.index →
        IsJournal (who x.shard x.index) (begun x.shard x.index) j y → Are (slice_set js place j) (put_journal y xs)
    pub same :
        (j : RunJournal V S v g) → IsJournal (who x.shard x.index) (begun x.shard x.index) j x → Are (slice_set js place j) xs

  -- the journal of the same replica is one of those
  moved : (x y : JournalValue) (j : RunJournal V S v g) → y.shard ≡ x.shard → y.index ≡ x.index →
      IsJournal (who x.shard x.index) (begun x.shard x.index) j y → IsOne who begun j y
  moved x y j s i o =
      subst (λ (n : ℕ). IsJournal (who n y.index) (begun n y.index) j y) (sym s)
      (subst (λ (n : ℕ). IsJournal (who x.shard n) (begun x.shard n) j y) (sym i) o)

  pub found : (js : List (RunJournal V S v g)) (xs : List JournalValue) (place : ℕ) (journal : RunJournal V S v g) → Are js xs →
      position test js ≡ Some place → journal ≡ slice_index_or js place journal → IsFound js xs place journal
  found js xs place journal h e value =
      let t = there js xs place h e in
      let same : t.journal ≡ journal = same_Some t.journal journal (sym t.stands ∙ got js place journal t.within value) in
      record {
        x = t.x;
        is = t.is;
        shard_is = t.shard_is;
        index_is = t.index_is;
        one = subst (λ (j : RunJournal V S v g). IsOne who begun j t.x) same t.one;
        put = λ j y s i o. t.put j y (s ∙ t.shard_is) (i ∙ t.index_is) (moved t.x y j s i o);
        same = λ j o. t.same j o;
      }

  -- ---- what is said of them

  module _ (js : List (RunJournal V S v g)) (xs : List JournalValue) (h : Are js xs) where
    pub took-nowhere : (frame : Handed) → position test js ≡ None → Taken ≡ took_among who begun (journal_at xs shard index) frame
    took-nowhere frame e = ap (λ (o : Option JournalValue). took_among who begun o frame) (sym (nowhere js xs h e))

    pub put-nowhere : (becomes : JournalValue → JournalValue) → position test js ≡ None →
        Are js (put_at becomes (journal_at xs shard index) xs)
    put-nowhere becomes e = subst (λ (o : Option JournalValue). Are js (put_at becomes o xs)) (sym (nowhere js xs h e)) h

    module _ (place : ℕ) (k new : RunJournal V S v g) (e : position test js ≡ Some place) (value : k ≡ slice_index_or js place k) where
      abbrev it : IsFound js xs place k
      it = found js xs place k h e value

      pub took-there : (frame : Handed) (r : Result Took NoMemory) →
          ((me : ReplicaSelf) (pen : PenValue) (x : JournalValue) → IsJournal me pen k x →
          IfOk r (λ took. took ≡ took_next me pen x frame)) →
          IfOk r (λ took. took ≡ took_among who begun (journal_at xs shard index) frame)
      took-there frame r tells =
          let x = it.x in
          subst (λ (o : Option JournalValue). IfOk r (λ took. took ≡ took_among who begun o frame)) (sym it.is)
          (tells (who x.shard x.index) (begun x.shard x.index) x it.one)

      put-by : (becomes : JournalValue → Took → JournalValue) → ((x : JournalValue) (took : Took) → Stays x (becomes x took)) →
          (r : Result Took NoMemory) →
          IfOk r (λ took. IsJournal (who it.x.shard it.x.index) (begun it.x.shard it.x.index) new (becomes it.x took)) →
          IfOk r (λ took. Are (slice_set js place new) (put_at (λ x. becomes x took) (journal_at xs shard index) xs))
      put-by becomes stays (Err wanting) one = tt
      put-by becomes stays (Ok took) one =
          let y = becomes it.x took in
          let same = stays it.x took in
          subst (λ (o : Option JournalValue). Are (slice_set js place new) (put_at (λ x. becomes x took) o xs)) (sym it.is)
          (it.put new y same.shard same.index one)

      pub taken-there : (frame : Handed) (r : Result Took NoMemory) →
          ((me : ReplicaSelf) (pen : PenValue) (x : JournalValue) → IsJournal me pen k x →
          IfOk r (λ took. IsJournal me pen new (after_take x frame took))) →
          IfOk r (λ took. Are (slice_set js place new) (put_at (λ x. after_take x frame took) (journal_at xs shard index) xs))
      taken-there frame r tells =
          let x = it.x in
          put-by (λ x took. after_take x frame took) (take-stays frame) r (tells (who x.shard x.index) (begun x.shard x.index) x it.one)

      pub stopped-there : (frame : Handed) (stop : Stop) (OfIts : ReplicaSelf → PenValue → Type 0) (r : Result Took NoMemory) →
          OfIts (who shard index) (begun shard index) →
          ((me : ReplicaSelf) (pen : PenValue) (x : JournalValue) → IsJournal me pen k x → OfIts me pen →
          IfOk r (λ took. IsJournal me pen new (after_stop x frame stop took))) →
          IfOk r (λ took. Are (slice_set js place new) (put_at (λ x. after_stop x frame stop took) (journal_at xs shard index) xs))
      stopped-there frame stop OfIts r of tells =
          let x = it.x in
          put-by (λ x took. after_stop x frame stop took) (stop-stays frame stop) r
          (tells (who x.shard x.index) (begun x.shard x.index) x it.one
          (subst (λ (n : ℕ). OfIts (who n x.index) (begun n x.index)) (sym it.shard_is)
          (subst (λ (n : ℕ). OfIts (who shard n) (begun shard n)) (sym it.index_is) of)))

      pub full-there : (frame : Handed) (r : Result (Option (ℕ × ℕ)) NoMemory) →
          ((me : ReplicaSelf) (pen : PenValue) (x : JournalValue) → IsJournal me pen k x →
          IfOk r (λ full. full ≡ fullness (took_next me pen x frame))) →
          IfOk r (λ full. full ≡ fullness (took_among who begun (journal_at xs shard index) frame))
      full-there frame r tells =
          let x = it.x in
          subst (λ (o : Option JournalValue). IfOk r (λ full. full ≡ fullness (took_among who begun o frame))) (sym it.is)
          (tells (who x.shard x.index) (begun x.shard x.index) x it.one)

      pub same-there : (r : Result (Option (ℕ × ℕ)) NoMemory) →
          ((me : ReplicaSelf) (pen : PenValue) (x : JournalValue) → IsJournal me pen k x → OnOk r (IsJournal me pen new x)) →
          OnOk r (Are (slice_set js place new) xs)
      same-there r tells =
          let x = it.x in
          by r (tells (who x.shard x.index) (begun x.shard x.index) x it.one)
        where
          by : (r : Result (Option (ℕ × ℕ)) NoMemory) →
              OnOk r (IsJournal (who it.x.shard it.x.index) (begun it.x.shard it.x.index) new it.x) →
              OnOk r (Are (slice_set js place new) xs)
          by (Ok full) one = it.same new one
          by (Err wanting) one = tt

      pub disk-there : (disk : MemDiskState) →
          ((me : ReplicaSelf) (pen : PenValue) (x : JournalValue) → IsJournal me pen k x → HoldsJournal disk x) →
          ShowsDisk (Some disk) (journal_at xs shard index)
      disk-there disk tells =
          let x = it.x in
          subst (ShowsDisk (Some disk)) (sym it.is) (tells (who x.shard x.index) (begun x.shard x.index) x it.one)

    pub disk-nowhere : position test js ≡ None → ShowsDisk None (journal_at xs shard index)
    disk-nowhere e = subst (ShowsDisk None) (sym (nowhere js xs h e)) tt

  -- one is found exactly where there is one
  pub has-same : (js : List (RunJournal V S v g)) (xs : List JournalValue) → Are js xs →
      is_some (position test js) ≡ is_some (journal_at xs shard index)
  has-same js xs h = by (position test js) refl
    where
      by : (o : Option ℕ) → position test js ≡ o → is_some o ≡ is_some (journal_at xs shard index)
      by None e = sym (ap is_some (nowhere js xs h e))
      by (Some k) e = sym (ap is_some (there js xs k h e).is)
