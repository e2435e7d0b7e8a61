-- Parts without a fault are a transaction.
use Rattle.std.proofs.Common.{◌≡◌, ℕ, ◌+◌, ◌≤◌, ◌<◌, ◌^◌, Bool, true, false, cond, leb, ltb, eqb, List}
use Rattle.std.proofs.Common.{[], ◌∷◌, length, map, get_or, Option, Some, None, refl, sym, ◌∙◌, arith}
use Rattle.std.specs.Prelude.{not, position, option_map, All}
use Rattle.std.specs.List.{list_any, position_or_len, AllByRecursion}
use Rattle.std.proofs.lemmas.Bool.{leb-true, eqb-true, ltb-false}
use Rattle.std.proofs.lemmas.List.Folds.{list_any_at}
use Rattle.std.proofs.lemmas.List.Sums.{fails_before_first}
use Rattle.std.proofs.lemmas.List.{nil_from_length}
use Rattle.std.proofs.lemmas.List.Elements.{recursion_from_All}
use Rattle.basil_types.specs.declared.transaction.parts.ReadPart.{ReadPart}
use Rattle.basil_types.specs.declared.transaction.parts.WritePart.{WritePart}
use Rattle.basil_types.specs.declared.transaction.fault.BuildFault.TheVariants.{ClientOut, TooMany, SizeOut, KeyOrder}
use Rattle.basil_types.specs.Lists.{AreItems}
use Rattle.basil_types.specs.Texts.{IsBytes, IsKey, IsValue, key_below}
use Rattle.basil_types.specs.Transaction.{IsTransaction, FitsRead, FitsWrite, key_of_read, key_of_write}
use Rattle.basil_types.specs.Built.{format_of, built, key_fits, read_fits, value_fits, write_fits, order_fault_from}
use Rattle.basil_types.specs.Built.{order_fault, or_else, size_fault, key_fault, build_fault, ReadInRange, WriteInRange}
use Rattle.basil_types.proofs.Fields.{both_true}

neither : {A : Type 0} (a b : Option A) → or_else a b ≡ None → (a ≡ None) × (b ≡ None)
neither (Some x) b e = absurd cc
neither None b e = (refl, e)

passed : {A : Type 0} (b : Bool) (x : A) → cond b None (Some x) ≡ None → b ≡ true
passed true x e = refl
passed false x e = absurd cc

unmapped : {A B : Type 0} (f : A → B) (o : Option A) → option_map f o ≡ None → o ≡ None
unmapped f (Some x) e = absurd cc
unmapped f None e = refl

key_is : (key : List ℕ) → key_fits key ≡ true → IsBytes key → IsKey key
key_is key e bytes =
    let b = both_true _ _ e in
    record { some = leb-true _ _ b.0; short = leb-true _ _ b.1; bytes = bytes }

-- the empty key, which stands before the first, is below each key
nothing_below : (key : List ℕ) → 1 ≤ length key → key_below [] key ≡ true
nothing_below [] some = absurd (omega arith)
nothing_below (b ∷ key) some = refl

ordered : (place : ℕ) (before key : List ℕ) (keys : List (List ℕ)) → order_fault_from place before (key ∷ keys) ≡ None →
    (key_below before key ≡ true) × (order_fault_from (place + 1) key keys ≡ None)
ordered place before key keys e = by (key_below before key) e
  where
    by : (b : Bool) → cond b (order_fault_from (place + 1) key keys) (Some place) ≡ None → (b ≡ true) ×
        (order_fault_from (place + 1) key keys ≡ None)
    by true h = (refl, h)
    by false h = absurd cc

abbrev Sized : ReadPart → Type 0
Sized r = read_fits r ≡ true

abbrev SizedWrite : WritePart → Type 0
SizedWrite w = write_fits w ≡ true

read_is : (before : List ℕ) (r : ReadPart) → Sized r → ReadInRange r → key_below before r.key ≡ true → FitsRead before r
read_is before r sized plain above = record { key = key_is r.key sized plain.key; above = above; version = plain.version }

reads_fit : (place : ℕ) (before : List ℕ) (reads : List ReadPart) → order_fault_from place before (map key_of_read reads) ≡ None →
    AllByRecursion Sized reads → AllByRecursion ReadInRange reads → AreItems FitsRead key_of_read before reads
reads_fit place before [] e sized plain = tt
reads_fit place before (r ∷ reads) e sized plain =
    let o = ordered place before r.key (map key_of_read reads) e in
    (read_is before r sized.0 plain.0 o.0, reads_fit (place + 1) r.key reads o.1 sized.1 plain.1)

are_reads : (reads : List ReadPart) → order_fault (map key_of_read reads) ≡ None → AllByRecursion Sized reads →
    AllByRecursion ReadInRange reads → AreItems FitsRead key_of_read [] reads
are_reads [] e sized plain = tt
are_reads (r ∷ reads) e sized plain =
    let key = key_is r.key sized.0 plain.0.key in
    (read_is [] r sized.0 plain.0 (nothing_below r.key key.some), reads_fit 1 r.key reads e sized.1 plain.1)

abbrev Keeps : ℕ → WritePart → Type 0
Keeps format w = format ≡ 1 → w.deletes ≡ false

value_is : (deletes : Bool) (value : List ℕ) → cond deletes (eqb (length value) 0) (leb (length value) 256) ≡ true → IsBytes value →
    IsValue value × (deletes ≡ true → value ≡ [])
value_is true value e bytes =
    let none : length value ≡ 0 = eqb-true _ _ e in
    (record { short = omega arith; bytes = bytes }, λ h. nil_from_length value none)
value_is false value e bytes = (record { short = leb-true _ _ e; bytes = bytes }, λ h. absurd cc)

write_is : (format : ℕ) (before : List ℕ) (w : WritePart) → SizedWrite w → WriteInRange w → Keeps format w → key_below before w.key ≡ true →
    FitsWrite format before w
write_is format before w sized plain keeps above =
    let b = both_true (key_fits w.key) (value_fits w) sized in
    let v = value_is w.deletes w.value b.1 plain.value in
    record { key = key_is w.key b.0 plain.key; above = above; value = v.0; gives = keeps; deletes = v.1 }

writes_fit : (format place : ℕ) (before : List ℕ) (writes : List WritePart) → order_fault_from place before (map key_of_write writes)
    ≡ None → AllByRecursion SizedWrite writes → AllByRecursion WriteInRange writes → AllByRecursion (Keeps format) writes → AreItems
    (FitsWrite format) key_of_write before writes
writes_fit format place before [] e sized plain keeps = tt
writes_fit format place before (w ∷ writes) e sized plain keeps =
    let o = ordered place before w.key (map key_of_write writes) e in
    (write_is format before w sized.0 plain.0 keeps.0 o.0, writes_fit format (place + 1) w.key writes o.1 sized.1 plain.1 keeps.1)

are_writes : (format : ℕ) (writes : List WritePart) → order_fault (map key_of_write writes) ≡ None → AllByRecursion SizedWrite writes →
    AllByRecursion WriteInRange writes → AllByRecursion (Keeps format) writes → AreItems (FitsWrite format) key_of_write [] writes
are_writes format [] e sized plain keeps = tt
are_writes format (w ∷ writes) e sized plain keeps =
    let b = both_true (key_fits w.key) (value_fits w) sized.0 in
    let key = key_is w.key b.0 plain.0.key in (
      write_is format [] w sized.0 plain.0 keeps.0 (nothing_below w.key key.some),
      writes_fit format 1 w.key writes e sized.1 plain.1 keeps.1,
    )

not-false : (b : Bool) → not b ≡ false → b ≡ true
not-false true e = refl
not-false false e = absurd cc

all_pass : {X : Type 0} (p : X → Bool) (xs : List X) → position (λ x. not (p x)) xs ≡ None → All (λ x. p x ≡ true) xs
all_pass {X} p xs e = λ k d lt. not-false (p (get_or xs k d)) (fails_before_first (λ x. not (p x)) xs k d (omega (arith, past)))
  where
    far : (b : Bool) → cond b (Some (position_or_len (λ x. not (p x)) xs)) None ≡ None → b ≡ false
    far true h = absurd cc
    far false h = refl

    past : length xs ≤ position_or_len (λ x. not (p x)) xs
    past = ltb-false _ _ (far (ltb (position_or_len (λ x. not (p x)) xs) (length xs)) e)

abbrev number : Bool → ℕ
number b = cond b 2 1

keep : (writes : List WritePart) → All (Keeps (format_of writes)) writes
keep writes = λ k d lt one. by k d lt (plain (list_any (λ w. w.deletes) writes) one) ((get_or writes k d).deletes) refl
  where
    plain : (b : Bool) → number b ≡ 1 → b ≡ false
    plain true h = absurd (omega arith)
    plain false h = refl

    by : (k : ℕ) (d : WritePart) → k < length writes → list_any (λ w. w.deletes) writes ≡ false → (b : Bool) → (get_or writes k d).deletes
        ≡ b → (get_or writes k d).deletes ≡ false
    by k d lt none true was =
        let some : list_any (λ w. w.deletes) writes ≡ true = list_any_at (λ w. w.deletes) writes k d lt was in
        absurd (let no : true ≡ false = sym some ∙ none in cc)
    by k d lt none false was = was

pub built-is : (time client : ℕ) (reads : List ReadPart) (writes : List WritePart) → build_fault client reads writes ≡ None →
    time < 2 ^ 64 → All ReadInRange reads → All WriteInRange writes → IsTransaction (built time client reads writes)
built-is time client reads writes e fits reads_plain writes_plain =
    let a = neither _ _ e in
    let b = neither _ _ a.1 in
    let d = neither _ _ b.1 in
    let who = both_true _ _ (passed _ ClientOut a.0) in
    let few = both_true _ _ (passed _ TooMany b.0) in
    let sizes = neither _ _ (unmapped SizeOut (size_fault reads writes) d.0) in
    let orders = neither _ _ (unmapped KeyOrder (key_fault reads writes) d.1) in
    let write_sizes = unmapped (λ place. length reads + place) (position (λ w. not (write_fits w)) writes) sizes.1 in
    let write_orders = unmapped (λ place. length reads + place) (order_fault (map key_of_write writes)) orders.1 in
    let format = formats (list_any (λ w. w.deletes) writes) in
    record {
      known = format.0;
      format = format.1;
      time = fits;
      someone = leb-true _ _ who.0;
      client = leb-true _ _ who.1;
      few_reads = leb-true _ _ few.0;
      few_writes = leb-true _ _ few.1;
      reads = are_reads reads orders.0 (recursion_from_All Sized reads (all_pass read_fits reads sizes.0))
          (recursion_from_All ReadInRange reads reads_plain);
      writes = are_writes (format_of writes) writes write_orders
          (recursion_from_All SizedWrite writes (all_pass write_fits writes write_sizes))
          (recursion_from_All WriteInRange writes writes_plain)
          (recursion_from_All (Keeps (format_of writes)) writes (keep writes));
    }
  where
    formats : (b : Bool) → (1 ≤ number b) × (number b ≤ 2)
    formats true = (omega arith, omega arith)
    formats false = (omega arith, omega arith)
