-- What a transaction of good form promises.
use Rattle.std.proofs.Common.{◌≡◌, ℕ, Bool, true, false, cond, List, Option, Some, None, refl, sym, ◌∙◌, subst, ltb, arith}
use Rattle.std.specs.Prelude.{not, ◌==◌, length, position, option_map}
use Rattle.std.specs.List.{Contains, position_or_len}
use Rattle.std.proofs.lemmas.Bool.{eq-eqb, ltb-false, not-false}
use Rattle.std.proofs.lemmas.List.Sums.{fails_before_first}
use Rattle.basil_types.specs.declared.transaction.parts.ReadPart.{ReadPart}
use Rattle.basil_types.specs.Transaction.{TransactionValue, version_of}
use Rattle.basil_types.specs.Version.{below}
use Rattle.txn_meta.specs.declared.form.FormFault.TheVariants.{Empty, ZeroTime, ReadNotBelow}
use Rattle.txn_meta.specs.Form.{form_fault, first_not_below, is_empty}

none_passes : {A : Type 0} (p : A → Bool) (xs : List A) → position p xs ≡ None → (x : A) → Contains xs x → p x ≡ false
none_passes {A} p xs h x i = by (ltb (position_or_len p xs) (length xs)) refl h
  where
    by : (t : Bool) → ltb (position_or_len p xs) (length xs) ≡ t → cond t (Some (position_or_len p xs)) None ≡ None → p x ≡ false
    by true e k = absurd cc
    by false e k =
        let l = ltb-false (position_or_len p xs) (length xs) e in
        let P : A → Type 0 = λ z. p z ≡ false in
        subst P i.2 (fails_before_first p xs i.0 x (omega (arith, i.1, l)))

-- its time isn't 0, and what it read lies below it
pub record IsGood (t : TransactionValue) : Type 0 where
  pub time : t.time ≡ 0 → ⊥
  pub reads : (r : ReadPart) → Contains t.reads r → below r.version (version_of t) ≡ true

pub good : (t : TransactionValue) → form_fault t ≡ None → IsGood t
good t h = by (is_empty t) (t.time == 0) refl (first_not_below (version_of t) t.reads) refl h
  where
    by : (empty at_zero : Bool) → (t.time == 0) ≡ at_zero → (o : Option ℕ) → first_not_below (version_of t) t.reads ≡ o →
        cond empty (Some Empty) (cond at_zero (Some ZeroTime) (option_map ReadNotBelow o)) ≡ None → IsGood t
    by true at_zero e o f k = absurd cc
    by false true e o f k = absurd cc
    by false false e (Some n) f k = absurd cc
    by false false e None f k = record {
      time = λ z. let impossible : true ≡ false = sym (eq-eqb t.time 0 z) ∙ e in cc;
      reads = λ r i. not-false (below r.version (version_of t))
          (none_passes (λ (q : ReadPart). not (below q.version (version_of t))) t.reads f r i);
    }
