-- What a transaction puts at the keys of its items, one after the other.
use Rattle.std.proofs.Common.{◌≡◌, ℕ, zero, suc, inl, inr, Bool, true, false, cond, List, []}
use Rattle.std.proofs.Common.{◌∷◌, ◌++◌, take, Option, Some, None, refl, sym, ap, subst, ◌∙◌}
use Rattle.std.specs.Prelude.{◌||◌, ◌&&◌, IsSome, is_some, option_map, Contains, slice_get}
use Rattle.std.specs.List.{list_any}
use Rattle.std.specs.Str.{bytes_eq}
use Rattle.std.specs.Ordering.{is_lt}
use Rattle.std.specs.Cmp.Lexicographic.{nat_list_cmp_total}
use Rattle.std.specs.declared.cmp.Ordering.{Ordering}
use Rattle.std.specs.declared.cmp.Ordering.TheVariants.{Less, Equal, Greater}
use Rattle.std.proofs.lemmas.Cmp.{tied_itself}
use Rattle.std.proofs.lemmas.List.Elements.{Contains-push_cases}
use Rattle.std.proofs.lemmas.List.Folds.{list_any-append}
use Rattle.basil_types.specs.declared.version.Version.{Version}
use Rattle.basil_types.specs.declared.transaction.parts.ReadPart.{ReadPart}
use Rattle.basil_types.specs.Lists.{AreItems}
use Rattle.basil_types.specs.Texts.{key_below}
use Rattle.basil_types.specs.Transaction.{FitsRead, key_of_read}
use Rattle.basil_types.specs.Version.{same_version}
use Rattle.mv_store.specs.Changes.{Puts}
use Rattle.basil_types.proofs.KeyLaws.{bytes_tell, bytes_same}
use Rattle.basil_types.proofs.VersionLaws.{same_exactly}
use Rattle.mv_store.proofs.VersionLaws.{and_parts}
use Rattle.mv_store.proofs.Searches.{Contains-nil, Contains-head, Contains-tail, Contains-cons, any_to}

pub version_same : (v : Version) → same_version v v ≡ true
version_same v = (same_exactly v v).1 refl

pub both : (a b : Bool) → a ≡ true → b ≡ true → (a && b) ≡ true
both true true p q = refl
both true false p q = q
both false b p q = p

-- ---- one item after the other

neither : (a b s : Bool) → ((a || (b || false)) && s) ≡ false → ((a && s) ≡ false) × ((b && s) ≡ false)
neither true true true h = absurd cc
neither true true false h = (refl, refl)
neither true false true h = absurd cc
neither true false false h = (refl, refl)
neither false true true h = absurd cc
neither false true false h = (refl, refl)
neither false false s h = (refl, refl)

pub puts_more : {P A : Type 0} (key_of : P → List ℕ) (slot_of : P
    → Option A) (xs : List P) (x : P) (version : Version) (old now new : List ℕ → Version → Option A)
    → Puts key_of slot_of xs version old now
    → ((k : List ℕ) (v : Version) → new k v ≡ cond (bytes_eq (key_of x) k && same_version version v) (slot_of x) (now k v))
    → ((y : P) → Contains xs y → bytes_eq (key_of x) (key_of y) ≡ true → slot_of y ≡ slot_of x)
    → Puts key_of slot_of (xs ++ x ∷ []) version old new
puts_more key_of slot_of xs x version old now new so_far is same =
    record {
      put =
          λ y h.
          elim (Contains-push_cases xs x y h) [
            | inl among ↦ earlier y among (bytes_eq (key_of x) (key_of y) && same_version version version) refl
            | inr q ↦ subst (λ z. new (key_of z) version ≡ slot_of z) q here
          ];
      others =
          λ k v h.
          let apart = neither (list_any (λ y. bytes_eq (key_of y) k) xs) (bytes_eq (key_of x) k) (same_version version v) (sym (ap (λ b. b
          && same_version version v) (list_any-append (λ y. bytes_eq (key_of y) k) xs (x ∷ []))) ∙ h) in
          is k v ∙ ap (λ b. cond b (slot_of x) (now k v)) apart.1 ∙ so_far.others k v apart.0;
    }
  where
    here : new (key_of x) version ≡ slot_of x
    here = is (key_of x) version
        ∙ ap (λ b. cond b (slot_of x) (now (key_of x) version)) (both _ _ (bytes_same (key_of x)) (version_same version))

    earlier : (y : _) → Contains xs y → (b : Bool) → (bytes_eq (key_of x) (key_of y) && same_version version version) ≡ b
        → new (key_of y) version ≡ slot_of y
    earlier y among true e =
        is (key_of y) version ∙ ap (λ b. cond b (slot_of x) (now (key_of y) version)) e
        ∙ sym (same y among (and_parts (bytes_eq (key_of x) (key_of y)) (same_version version version) e).0)
    earlier y among false e = is (key_of y) version ∙ ap (λ b. cond b (slot_of x) (now (key_of y) version)) e ∙ so_far.put y among

-- a key that had a slot has one
pub slot_stays : {P A : Type 0} (key_of : P → List ℕ) (slot_of : P → Option A) (xs : List P) (version : Version) (old now : List ℕ → Version
    → Option A) (k : List ℕ)
    → Puts key_of slot_of xs version old now → ((x : P) → IsSome (slot_of x)) → IsSome (old k version) → IsSome (now k version)
slot_stays key_of slot_of xs version old now k puts some there = by (list_any (λ x. bytes_eq (key_of x) k) xs
    && same_version version version) refl
  where
    by : (b : Bool) → (list_any (λ x. bytes_eq (key_of x) k) xs && same_version version version) ≡ b → IsSome (now k version)
    by true e =
        let f = any_to (λ x. bytes_eq (key_of x) k) xs (and_parts _ _ e).0 in
        ap is_some (ap (λ q. now q version) (sym (bytes_tell (key_of f.item) k f.passes)) ∙ puts.put f.item f.among) ∙ some f.item
    by false e = ap is_some (puts.others k version e) ∙ there

-- ---- the keys of a transaction's reads ascend

key_less : (o : Ordering) → is_lt o ≡ true → o ≡ Less
key_less Less e = refl
key_less Equal e = absurd cc
key_less Greater e = absurd cc

key_trans : (a b c : List ℕ) → key_below a b ≡ true → key_below b c ≡ true → key_below a c ≡ true
key_trans a b c p q = ap is_lt (nat_list_cmp_total.trans a b c (key_less _ p) (key_less _ q))

above_floor : (floor : List ℕ) (reads : List ReadPart) (y : ReadPart) → AreItems FitsRead key_of_read floor reads → Contains reads y
    → key_below floor y.key ≡ true
above_floor floor [] y items h = Contains-nil y h
above_floor floor (r ∷ reads) y items h =
    elim (Contains-cons r y reads h) [
      | inl q ↦ subst (λ (z : ReadPart). key_below floor z.key ≡ true) q (items.0).above
      | inr q ↦ key_trans floor r.key y.key (items.0).above (above_floor r.key reads y items.1 q)
    ]

pub found_at : {A : Type 0} (xs : List A) (i : ℕ) (x : A) → slice_get xs i ≡ Some x → Contains xs x
found_at [] i x e = absurd cc
found_at (y ∷ ys) zero x e = let same : y ≡ x = cc in subst (λ z. Contains (z ∷ ys) x) (sym same) (Contains-head x ys)
found_at (y ∷ ys) (suc i) x e = Contains-tail y x ys (found_at ys i x e)

ascending : (floor : List ℕ) (reads : List ReadPart) (i : ℕ) (x y : ReadPart) → AreItems FitsRead key_of_read floor reads
    → slice_get reads i ≡ Some x → Contains (take i reads) y → key_below y.key x.key ≡ true
ascending floor [] i x y items at h = absurd cc
ascending floor (r ∷ reads) zero x y items at h = Contains-nil y h
ascending floor (r ∷ reads) (suc i) x y items at h =
    elim (Contains-cons r y (take i reads) h) [
      | inl q ↦ subst (λ (z : ReadPart). key_below z.key x.key ≡ true) q (above_floor r.key reads x items.1 (found_at reads i x at))
      | inr q ↦ ascending r.key reads i x y items.1 at q
    ]

pub reads_apart : {A : Type 0} (floor : List ℕ) (reads : List ReadPart) (i : ℕ) (x y : ReadPart) → AreItems FitsRead key_of_read floor reads
    → slice_get reads i ≡ Some x → Contains (take i reads) y → bytes_eq x.key y.key ≡ true → A
reads_apart floor reads i x y items at among e =
    let itself : key_below x.key x.key ≡ true = ap (λ k. key_below k x.key) (bytes_tell x.key y.key e)
    ∙ ascending floor reads i x y items at among in
    let never : key_below x.key x.key ≡ false = ap is_lt (tied_itself nat_list_cmp_total x.key) in
    let impossible : true ≡ false = sym itself ∙ never in
    absurd cc

-- ---- what is told

pub some_slot : {A B : Type 0} (f : A → B) (o : Option A) → IsSome o → IsSome (option_map f o)
some_slot f None h = h
some_slot f (Some x) h = refl

pub some_told : {A B : Type 0} (f : A → B) (o : Option A) (r : Option B) → r ≡ option_map f o → IsSome r → IsSome o
some_told f None r e h = sym (ap is_some e) ∙ h
some_told f (Some x) r e h = refl

pub twice : {A B C : Type 0} (f : A → B) (g : B → C) (o : Option A) (r : Option B) → r ≡ option_map f o
    → option_map g r ≡ option_map (λ x. g (f x)) o
twice f g None r e = ap (option_map g) e
twice f g (Some x) r e = ap (option_map g) e
