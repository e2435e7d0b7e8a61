-- Fields of frames: what is read was spelled so and fits, and what fits is read again.
use Rattle.std.proofs.Common.{◌≡◌, ℕ, ◌<◌, ◌≤◌, ◌^◌, Bool, true, false, cond, leb, eqb, List, [], ◌∷◌, ◌++◌, length, Option, Some}
use Rattle.std.proofs.Common.{None, Result, Ok, Err, refl, sym, ap, subst, ◌∙◌, append_assoc, arith}
use Rattle.std.specs.Prelude.{◌&&◌, not, ⊤}
use Rattle.std.specs.Int.{w16, w64, to_be_bytes}
use Rattle.std.proofs.lemmas.Bool.{le-leb, leb-true}
use Rattle.basil_types.specs.declared.reading.Fault.{Fault}
use Rattle.basil_types.specs.declared.reading.Fault.TheVariants.{Range, Order}
use Rattle.basil_types.specs.declared.party.Decision.{Decision}
use Rattle.basil_types.specs.declared.party.Decision.TheVariants.{Commit, Abort}
use Rattle.basil_types.specs.Limits.{signature_limit, IsU64}
use Rattle.basil_types.specs.Texts.{IsBytes, IsKey}
use Rattle.basil_types.specs.Reading.{number_at, run_at, between, flag_at, key_at}
use Rattle.basil_types.specs.Parsed.{transaction_at}
use Rattle.basil_types.specs.Transaction.{IsTransaction, canonical, short_text, long_text}
use Rattle.basil_types.specs.Words.{decision_byte}
use Rattle.basil_types.proofs.Fields.{bind_ok, ok_is, pass_ok, guard_ok, both_true, Takes, Takes-then, between_takes, between_again}
use Rattle.basil_types.proofs.Fields.{number_takes, number_again, wide16, wide64, run_takes, run_again, flag_takes, flag_again}
use Rattle.basil_types.proofs.PartLaws.{key_takes, key_again}
use Rattle.basil_types.proofs.TransactionLaws.{transaction_takes, transaction_again}
use Rattle.frame_views.specs.Forms.{part_at, allowed_flag_at}
use Rattle.frame_views.specs.Fitting.{IsSignature, IsId, FitsPart}
use Rattle.frame_views.specs.Spelling.{u64_bytes, optional}
use Rattle.frame_views.specs.Grammar.{signature_at, decision_at, number_from_at, next_number_at, maybe_at}
use Rattle.frame_views.proofs.FormLaws.{Lawful, made_takes, made_again}

-- ---- single bytes

abbrev pub one_byte : ℕ → List ℕ
one_byte n = n ∷ []

pub byte_law : (low high wide : ℕ) → high ≤ wide → Lawful (between low high) (between low wide) one_byte (λ n. (low ≤ n) × (n < high))
byte_law low high wide le = record {
  takes = λ bytes x fits e. (let t = between_takes low high bytes x fits e in (t.0, (t.1, t.2)));
  again = λ v rest fits. between_again low wide v rest fits.0 (omega (arith, fits.1));
}

next_takes : (high floor : ℕ) (bytes : List ℕ) (x : ℕ × List ℕ) → IsBytes bytes → next_number_at high floor bytes ≡ Ok x
    → Takes bytes (one_byte x.0) x.1 × ((floor ≤ x.0) × (x.0 < high))
unfolding next_number_at
next_takes high floor bytes x fits e =
    let b = bind_ok (between 0 high bytes) (λ b. cond (leb floor b.0) (Ok b) (Err (Order (length bytes)))) x e in
    let g = pass_ok (leb floor b.0.0) (Order (length bytes)) (Ok b.0) x b.2 in
    let t = between_takes 0 high bytes b.0 fits b.1 in
    subst (λ (y : ℕ × List ℕ). Takes bytes (one_byte y.0) y.1 × ((floor ≤ y.0) × (y.0 < high))) (ok_is b.0 x g.1)
    (t.0, (leb-true _ _ g.0, t.2))

next_again : (high floor n : ℕ) (rest : List ℕ) → floor ≤ n → n < high → next_number_at high floor (n ∷ rest) ≡ Ok (n, rest)
unfolding next_number_at
next_again high floor n rest above below = rw (between_again 0 high n rest (omega arith) below, le-leb floor n above) refl

pub next_law : (high wide floor : ℕ) → high ≤ wide → Lawful (next_number_at high floor) (next_number_at wide floor) one_byte
    (λ n. (floor ≤ n) × (n < high))
next_law high wide floor le = record {
  takes = λ bytes x fits e. next_takes high floor bytes x fits e;
  again = λ v rest fits. next_again wide floor v rest fits.0 (omega (arith, fits.1));
}

-- ---- decisions

abbrev pub decision_text : Decision → List ℕ
decision_text d = decision_byte d ∷ []

abbrev pub Any : {A : Type 0} → A → Type 0
Any a = ⊤

decision_back : (b : ℕ) → b < 2 → decision_byte (cond (eqb b 1) Abort Commit) ≡ b
decision_back b low = by (eqb b 1) refl
  where
    by : (t : Bool) → eqb b 1 ≡ t → decision_byte (cond t Abort Commit) ≡ b
    by true e = grind (arith, e)
    by false e = grind (arith, e)

decision_takes : (bytes : List ℕ) (x : Decision × List ℕ) → IsBytes bytes → decision_at bytes ≡ Ok x → Takes bytes (decision_text x.0) x.1
    × Any x.0
unfolding decision_at
decision_takes bytes x fits e =
    let b = bind_ok (between 0 2 bytes) (λ b. Ok (cond (eqb b.0 1) Abort Commit, b.1)) x e in
    let t = between_takes 0 2 bytes b.0 fits b.1 in
    let all : Decision × List ℕ = (cond (eqb b.0.0 1) Abort Commit, b.0.1) in (
      subst (λ (y : Decision × List ℕ). Takes bytes (decision_text y.0) y.1) (ok_is all x b.2)
          (subst (λ (k : ℕ). Takes bytes (k ∷ []) b.0.1) (sym (decision_back b.0.0 t.2)) t.0),
      tt,
    )

decision_again : (d : Decision) (rest : List ℕ) → decision_at (decision_byte d ∷ rest) ≡ Ok (d, rest)
unfolding decision_at
decision_again Commit rest = rw (between_again 0 2 0 rest (omega arith) (omega arith)) refl
decision_again Abort rest = rw (between_again 0 2 1 rest (omega arith) (omega arith)) refl

pub decision_law : Lawful decision_at decision_at decision_text Any
decision_law = record {
  takes = λ bytes x fits e. decision_takes bytes x fits e;
  again = λ v rest fits. decision_again v rest;
}

-- ---- numbers of eight bytes

pub number_law : Lawful (number_at w64) (number_at w64) u64_bytes IsU64
unfolding u64_bytes
number_law = record {
  takes = λ bytes x fits e. number_takes w64 (2 ^ 64) wide64 bytes x.0 x.1 fits e;
  again = λ v rest fits. number_again w64 (2 ^ 64) wide64 v rest fits;
}

from_takes : (low : ℕ) (bytes : List ℕ) (x : ℕ × List ℕ) → IsBytes bytes → number_from_at low bytes ≡ Ok x
    → Takes bytes (u64_bytes x.0) x.1 × ((low ≤ x.0) × IsU64 x.0)
unfolding number_from_at u64_bytes
from_takes low bytes x fits e =
    let b = bind_ok (number_at w64 bytes) (λ n. cond (leb low n.0) (Ok n) (Err (Range (length bytes)))) x e in
    let g = pass_ok (leb low b.0.0) (Range (length bytes)) (Ok b.0) x b.2 in
    let t = number_takes w64 (2 ^ 64) wide64 bytes b.0.0 b.0.1 fits b.1 in
    subst (λ (y : ℕ × List ℕ). Takes bytes (u64_bytes y.0) y.1 × ((low ≤ y.0) × IsU64 y.0)) (ok_is b.0 x g.1)
    (t.0, (leb-true _ _ g.0, t.1))

from_again : (low n : ℕ) (rest : List ℕ) → low ≤ n → IsU64 n → number_from_at low (u64_bytes n ++ rest) ≡ Ok (n, rest)
unfolding number_from_at u64_bytes
from_again low n rest above fits = rw (number_again w64 (2 ^ 64) wide64 n rest fits, le-leb low n above) refl

pub from_law : (low lower : ℕ) → lower ≤ low → Lawful (number_from_at low) (number_from_at lower) u64_bytes (λ n. (low ≤ n) × IsU64 n)
from_law low lower le = record {
  takes = λ bytes x fits e. from_takes low bytes x fits e;
  again = λ v rest fits. from_again lower v rest (omega (arith, fits.0)) fits.1;
}

-- ---- ids, keys, signatures and transactions

abbrev pub itself : List ℕ → List ℕ
itself bytes = bytes

pub id_law : Lawful (run_at 32) (run_at 32) itself IsId
id_law = record {
  takes = λ bytes x fits e. (let t = run_takes 32 bytes x fits e in (t.0, t.1));
  again = λ v rest fits. subst (λ (k : ℕ). run_at k (v ++ rest) ≡ Ok (v, rest)) fits (run_again v rest);
}

pub key_law : Lawful key_at key_at short_text IsKey
key_law = record { takes = λ bytes x fits e. key_takes bytes x fits e; again = λ v rest fits. key_again v rest fits }

pub transaction_law : Lawful transaction_at transaction_at canonical IsTransaction
transaction_law =
    record { takes = λ bytes x fits e. transaction_takes bytes x fits e; again = λ v rest fits. transaction_again v rest fits }

signature_takes : (bytes : List ℕ) (x : List ℕ × List ℕ) → IsBytes bytes → signature_at bytes ≡ Ok x → Takes bytes (long_text x.0) x.1
    × IsSignature x.0
unfolding signature_at
signature_takes bytes x fits e =
    let b = bind_ok (number_at w16 bytes) (λ n. cond (leb 1 n.0 && leb n.0 signature_limit) (run_at n.0 n.1)
    (Err (Range (length bytes)))) x e in
    let n = b.0 in
    let g = pass_ok (leb 1 n.0 && leb n.0 signature_limit) (Range (length bytes)) (run_at n.0 n.1) x b.2 in
    let tests = both_true _ _ g.0 in
    let first = number_takes w16 (2 ^ 16) wide16 bytes n.0 n.1 fits b.1 in
    let second = run_takes n.0 n.1 x first.0.rest_fits g.1 in
    let all = Takes-then bytes (to_be_bytes w16 n.0) n.1 x.0 x.1 first.0 second.0 in
    let low : 1 ≤ n.0 = leb-true _ _ tests.0 in
    let high : n.0 ≤ signature_limit = leb-true _ _ tests.1 in (
      subst (λ (k : ℕ). Takes bytes (to_be_bytes w16 k ++ x.0) x.1) (sym second.1) all,
      record { some = omega (arith, second.1); short = omega (arith, second.1) },
    )

signature_again : (text rest : List ℕ) → IsSignature text → signature_at (long_text text ++ rest) ≡ Ok (text, rest)
unfolding signature_at
signature_again text rest fits =
    let some = fits.some in
    let short = fits.short in
    let len : length text < 2 ^ 16 = omega arith in
    let regrouped : long_text text ++ rest ≡ to_be_bytes w16 (length text) ++ (text ++ rest) =
    append_assoc (to_be_bytes w16 (length text)) text rest in
    ap signature_at regrouped ∙ rw (
      number_again w16 (2 ^ 16) wide16 (length text) (text ++ rest) len,
      le-leb 1 (length text) some,
      le-leb (length text) signature_limit short,
    ) (run_again text rest)

pub signature_law : Lawful signature_at signature_at long_text IsSignature
signature_law = record { takes = λ bytes x fits e. signature_takes bytes x fits e; again = λ v rest fits. signature_again v rest fits }

-- ---- parts behind a flag

flag_allowed : (d allowed : Bool) → (d && not allowed) ≡ false → d ≡ true → allowed ≡ true
flag_allowed true true e h = refl
flag_allowed true false e h = absurd cc
flag_allowed false allowed e h = absurd cc

allowed_takes : (allowed : Bool) (bytes : List ℕ) (x : Bool × List ℕ) → IsBytes bytes → allowed_flag_at allowed bytes ≡ Ok x
    → Takes bytes (cond x.0 1 0 ∷ []) x.1 × (x.0 ≡ true → allowed ≡ true)
unfolding allowed_flag_at
allowed_takes allowed bytes x fits e =
    let b = bind_ok (flag_at bytes) (λ flag. cond (flag.0 && not allowed) (Err (Range (length bytes))) (Ok flag)) x e in
    let g = guard_ok (b.0.0 && not allowed) (Range (length bytes)) b.0 x b.2 in
    let t = flag_takes bytes b.0 fits b.1 in
    subst (λ (y : Bool × List ℕ). Takes bytes (cond y.0 1 0 ∷ []) y.1 × (y.0 ≡ true → allowed ≡ true)) g.1
    (t, flag_allowed b.0.0 allowed g.0)

allowed_none : (allowed : Bool) (rest : List ℕ) → allowed_flag_at allowed (0 ∷ rest) ≡ Ok (false, rest)
unfolding allowed_flag_at
allowed_none allowed rest = rw (flag_again false rest) refl

allowed_some : (allowed : Bool) (rest : List ℕ) → allowed ≡ true → allowed_flag_at allowed (1 ∷ rest) ≡ Ok (true, rest)
unfolding allowed_flag_at
allowed_some allowed rest e = rw (flag_again true rest, e) refl

module _ {A : Type 0} (allowed : Bool) (one wide : List ℕ → Result (A × List ℕ) Fault) (spell : A → List ℕ) (Fit : A → Type 0) where
  pub maybe_law : Lawful one wide spell Fit → Lawful (maybe_at allowed one) (maybe_at allowed wide) (optional spell) (FitsPart allowed Fit)
  maybe_law law = record { takes = takes; again = again }
    where
      by : (d : Bool) (bytes r : List ℕ) (x : Option A × List ℕ) → Takes bytes (cond d 1 0 ∷ []) r → (d ≡ true → allowed ≡ true)
          → part_at one d r ≡ Ok x → Takes bytes (optional spell x.0) x.1 × FitsPart allowed Fit x.0
      by true bytes r x t ok h =
          let m = made_takes Some one wide spell Fit law r x t.rest_fits h in
          subst (λ (o : Option A). Takes bytes (optional spell o) x.1 × FitsPart allowed Fit o) m.1
          (Takes-then bytes (1 ∷ []) r (spell m.0) x.1 t m.2, (ok refl, m.3))
      by false bytes r x t ok h =
          subst (λ (y : Option A × List ℕ). Takes bytes (optional spell y.0) y.1 × FitsPart allowed Fit y.0) (ok_is (None, r) x h) (t, tt)

      takes : (bytes : List ℕ) (x : Option A × List ℕ) → IsBytes bytes → maybe_at allowed one bytes ≡ Ok x
          → Takes bytes (optional spell x.0) x.1 × FitsPart allowed Fit x.0
      takes bytes x fits e =
          let a = bind_ok (allowed_flag_at allowed bytes) (λ flag. part_at one flag.0 flag.1) x e in
          let t = allowed_takes allowed bytes a.0 fits a.1 in
          by a.0.0 bytes a.0.1 x t.0 t.1 a.2

      again : (v : Option A) (rest : List ℕ) → FitsPart allowed Fit v → maybe_at allowed wide (optional spell v ++ rest) ≡ Ok (v, rest)
      again None rest fits = rw (allowed_none allowed rest) refl
      again (Some a) rest fits = rw (allowed_some allowed (spell a ++ rest) fits.0) (made_again Some one wide spell Fit law a rest fits.1)
