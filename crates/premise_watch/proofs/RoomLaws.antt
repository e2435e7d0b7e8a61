-- Parties of which nobody is there twice and few are of one shard fit their room.
use Rattle.std.proofs.Common.{◌≡◌, ℕ, zero, suc, ◌+◌, ◌*◌, ◌≤◌, ◌<◌, Bool, true, false, cond, List, [], ◌∷◌}
use Rattle.std.proofs.Common.{◌++◌, length, length-append, not, refl, sym, ap, subst, ◌∙◌, inl, inr, arith}
use Rattle.std.specs.Prelude.{All, ◌&&◌, ◌||◌, ◌==◌, nat_lt, if◌then◌else◌}
use Rattle.std.specs.List.{count_by, list_any}
use Rattle.std.proofs.lemmas.Bool.{cases_lt, cases_eq, lt-ltb, le-ltb, lt-leb, leb-false, and_parts, eqb-true, eq-eqb, ne_eqb}
use Rattle.std.proofs.lemmas.List.Elements.{All-head, All-tail, All-push, All-nil}
use Rattle.std.proofs.lemmas.List.Sums.{sum_by_push, sum_by-cons}
use Rattle.basil_types.specs.Setting.{Setting}
use Rattle.basil_types.specs.declared.party.Party.{Party}
use Rattle.basil_types.specs.declared.party.Party.TheVariants.{Replica, Client}
use Rattle.quorum_laws.specs.Numbers.{replicas}
use Rattle.quorum_laws.specs.Sets.{size}
use Rattle.txn_table.specs.Entries.{same_party}
use Rattle.premise_watch.specs.Parties.{is_among, is_of_shard, count_of_shard, is_too_many, can_join, joined, AreFew, AreCounted}
use Rattle.premise_watch.specs.Rooms.{IsNumbered, AreRoomy, CanCome}

-- ---- counts

abbrev one : Bool → ℕ
one b = cond b 1 0

count_cons : (p : Party → Bool) (x : Party) (xs : List Party) → count_by p (x ∷ xs) ≡ one (p x) + count_by p xs
count_cons p x xs = sum_by-cons (λ x. one (p x)) x xs

pub count_push : (p : Party → Bool) (xs : List Party) (x : Party) → count_by p (xs ++ x ∷ []) ≡ count_by p xs + one (p x)
count_push p xs x = sum_by_push (λ x. one (p x)) xs x

count_split : (p q r : Party → Bool) → ((x : Party) → one (p x) ≡ one (q x) + one (r x)) → (xs : List Party) →
    count_by p xs ≡ count_by q xs + count_by r xs
count_split p q r h [] = omega arith
count_split p q r h (x ∷ xs) = omega (arith, h x, count_split p q r h xs, count_cons p x xs, count_cons q x xs, count_cons r x xs)

count_none : (p : Party → Bool) → ((x : Party) → p x ≡ false) → (xs : List Party) → count_by p xs ≡ 0
count_none p h [] = refl
count_none p h (x ∷ xs) = let z : one (p x) ≡ 0 = ap one (h x) in omega (arith, count_cons p x xs, z, count_none p h xs)

count_absent : (p : Party → Bool) (xs : List Party) → list_any p xs ≡ false → count_by p xs ≡ 0
count_absent p [] e = refl
count_absent p (x ∷ xs) e = by (count_absent p xs) (p x) refl
  where
    by : (list_any p xs ≡ false → count_by p xs ≡ 0) → (b : Bool) → p x ≡ b → count_by p (x ∷ xs) ≡ 0
    by next true h = absurd (let bad : true ≡ false = sym (ap (λ b. b || list_any p xs) h) ∙ e in cc)
    by next false h =
        let z : one (p x) ≡ 0 = ap one h in
        let rest = next (sym (ap (λ b. b || list_any p xs) h) ∙ e) in
        omega (arith, count_cons p x xs, z, rest)

step_below : (m n : ℕ) → one (nat_lt m (suc n)) ≡ one (nat_lt m n) + one (m == n)
step_below m n = elim (cases_lt m n) [
  | inl l ↦ rw (lt-ltb m (suc n) (omega arith), lt-ltb m n l, ne_eqb m n (λ e. omega arith)) refl
  | inr g ↦ elim (cases_eq m n) [
    | inl e ↦ rw (lt-ltb m (suc n) (omega arith), le-ltb m n g, eq-eqb m n e) refl
    | inr d ↦ rw (le-ltb m (suc n) (omega arith), le-ltb m n g, ne_eqb m n d) refl
  ]
]

-- ---- clients and replicas

abbrev client_below : ℕ → Party → Bool
client_below n (Replica shard index) = false
client_below n (Client number) = nat_lt number n

abbrev client_is : ℕ → Party → Bool
client_is n (Replica shard index) = false
client_is n (Client number) = number == n

abbrev shard_below : ℕ → Party → Bool
shard_below n (Replica shard index) = nat_lt shard n
shard_below n (Client number) = false

clients_split : (n : ℕ) (x : Party) → one (client_below (suc n) x) ≡ one (client_below n x) + one (client_is n x)
clients_split n (Replica shard index) = omega arith
clients_split n (Client number) = step_below number n

shards_split : (n : ℕ) (x : Party) → one (shard_below (suc n) x) ≡ one (shard_below n x) + one (is_of_shard n x)
shards_split n (Replica shard index) = step_below shard n
shards_split n (Client number) = omega arith

no_client : (x : Party) → client_below 0 x ≡ false
no_client (Replica shard index) = refl
no_client (Client number) = le-ltb number 0 (omega arith)

no_shard : (x : Party) → shard_below 0 x ≡ false
no_shard (Replica shard index) = le-ltb shard 0 (omega arith)
no_shard (Client number) = refl

clients_fit : (n : ℕ) (xs : List Party) → ((k : ℕ) → count_by (client_is k) xs ≤ 1) → count_by (client_below n) xs ≤ n
clients_fit zero xs h = omega (arith, count_none (client_below 0) no_client xs)
clients_fit (suc n) xs h =
    omega (arith, count_split (client_below (suc n)) (client_below n) (client_is n) (clients_split n) xs, clients_fit n xs h, h n)

shards_fit : (n k : ℕ) (xs : List Party) → AreCounted k xs → count_by (shard_below n) xs ≤ n * k
shards_fit zero k xs h = omega (arith, count_none (shard_below 0) no_shard xs)
shards_fit (suc n) k xs h =
    let more : suc n * k ≡ n * k + k = omega arith in
    omega (arith, count_split (shard_below (suc n)) (shard_below n) (is_of_shard n) (shards_split n) xs, shards_fit n k xs h, h n, more)

same_client : (n : ℕ) (x : Party) → same_party (Client n) x ≡ client_is n x
same_client n (Replica shard index) = refl
same_client n (Client number) = by (n == number) (number == n) refl refl
  where
    by : (a b : Bool) → (n == number) ≡ a → (number == n) ≡ b → a ≡ b
    by true true e f = refl
    by false false e f = refl
    by true false e f = absurd (let bad : (number == n) ≡ true = eq-eqb number n (sym (eqb-true n number e)) in cc)
    by false true e f = absurd (let bad : (n == number) ≡ true = eq-eqb n number (sym (eqb-true number n f)) in cc)

count_same : (p q : Party → Bool) → ((x : Party) → p x ≡ q x) → (xs : List Party) → count_by p xs ≡ count_by q xs
count_same p q h [] = refl
count_same p q h (x ∷ xs) =
    count_cons p x xs ∙ ap (λ b. one b + count_by p xs) (h x) ∙ ap (λ n. one (q x) + n) (count_same p q h xs)
    ∙ sym (count_cons q x xs)

all_below : (xs : List Party) → All IsNumbered xs → length xs ≡ count_by (client_below 256) xs + count_by (shard_below 256) xs
all_below [] h = refl
all_below (x ∷ xs) h =
    omega (
      arith,
      here x (All-head IsNumbered x xs h),
      all_below xs (All-tail IsNumbered x xs h),
      count_cons (client_below 256) x xs,
      count_cons (shard_below 256) x xs,
    )
  where
    here : (x : Party) → IsNumbered x → one (client_below 256 x) + one (shard_below 256 x) ≡ 1
    here (Replica shard index) n = let z : one (nat_lt shard 256) ≡ 1 = ap one (lt-ltb shard 256 n) in omega (arith, z)
    here (Client number) n = let z : one (nat_lt number 256) ≡ 1 = ap one (lt-ltb number 256 n) in omega (arith, z)

pub they_fit : (xs : List Party) → AreRoomy xs → length xs ≤ 1792
they_fit xs h =
    omega (
      arith,
      all_below xs h.numbered,
      clients_fit 256 xs
          (λ k. subst (λ n. n ≤ 1) (count_same (same_party (Client k)) (client_is k) (same_client k) xs) (h.once (Client k))),
      shards_fit 256 6 xs h.counted,
    )

-- ---- one more

party_same : (p q : Party) → same_party p q ≡ true → p ≡ q
party_same (Replica a b) (Replica c d) h =
    let both = and_parts (a == c) (b == d) h in
    ap (λ x. Replica x b) (eqb-true a c both.0) ∙ ap (λ y. Replica c y) (eqb-true b d both.1)
party_same (Replica a b) (Client n) h = absurd cc
party_same (Client n) (Replica a b) h = absurd cc
party_same (Client n) (Client m) h = ap Client (eqb-true n m h)

pub counted_with : (f k : ℕ) → f ≤ k → (xs : List Party) (p : Party) → is_too_many f xs p ≡ false → AreCounted k xs →
    AreCounted k (xs ++ p ∷ [])
counted_with f k few xs (Client number) room h shard = omega (arith, count_push (is_of_shard shard) xs (Client number), h shard)
counted_with f k few xs (Replica own index) room h shard = elim (cases_eq own shard) [
  | inl e ↦
      let below : count_of_shard shard xs < f = subst (λ s. count_of_shard s xs < f) e (leb-false f (count_of_shard own xs) room) in
      let more : one (own == shard) ≡ 1 = ap one (eq-eqb own shard e) in
      omega (arith, count_push (is_of_shard shard) xs (Replica own index), below, more)
  | inr d ↦
      let more : one (own == shard) ≡ 0 = ap one (ne_eqb own shard d) in
      omega (arith, count_push (is_of_shard shard) xs (Replica own index), h shard, more)
]

pub with_one : (f : ℕ) (xs : List Party) (p : Party) → f ≤ 6 → IsNumbered p → is_among xs p ≡ false → is_too_many f xs p ≡ false →
    AreRoomy xs → AreRoomy (xs ++ p ∷ [])
with_one f xs p few numbered absent room h = record {
  numbered = All-push IsNumbered xs p h.numbered numbered;
  once = λ q. once q (same_party q p) refl;
  counted = counted_with f 6 few xs p room h.counted;
}
  where
    once : (q : Party) (b : Bool) → same_party q p ≡ b → count_by (same_party q) (xs ++ p ∷ []) ≤ 1
    once q true e =
        let none : count_by (same_party q) xs ≡ 0 = count_absent (same_party q) xs (ap (is_among xs) (party_same q p e) ∙ absent) in
        let more : one (same_party q p) ≡ 1 = ap one e in
        omega (arith, count_push (same_party q) xs p, none, more)
    once q false e =
        let more : one (same_party q p) ≡ 0 = ap one e in
        omega (arith, count_push (same_party q) xs p, h.once q, more)

pub nobody : AreRoomy []
nobody = record { numbered = All-nil IsNumbered; once = λ p. omega arith; counted = λ shard. omega arith }

-- ---- sets of replicas

size_or : (p q : ℕ → Bool) (n : ℕ) → size (λ r. p r || q r) n ≤ size p n + size q n
size_or p q zero = omega arith
size_or p q (suc n) = by (p n) (q n) (size_or p q n)
  where
    by : (a b : Bool) → size (λ r. p r || q r) n ≤ size p n + size q n →
        cond (a || b) (suc (size (λ r. p r || q r) n)) (size (λ r. p r || q r) n)
        ≤ cond a (suc (size p n)) (size p n) + cond b (suc (size q n)) (size q n)
    by true true h = omega (arith, h)
    by true false h = omega (arith, h)
    by false true h = omega (arith, h)
    by false false h = omega (arith, h)

size_none : (n : ℕ) → size (λ _. false) n ≡ 0
size_none zero = refl
size_none (suc n) = size_none n

-- a replica of another place counts for nothing
size_one : (a : Bool) (i n : ℕ) → size (λ r. a && (r == i)) n ≤ one (a && nat_lt i n)
size_one a i zero = omega arith
size_one false i (suc n) = omega (arith, size_none n)
size_one true i (suc n) = elim (cases_eq n i) [
  | inl e ↦
      let none : one (nat_lt i n) ≡ 0 = ap one (le-ltb i n (omega arith)) in
      let below : size (λ r. true && (r == i)) n ≡ 0 = omega (arith, size_one true i n, none) in
      rw (eq-eqb n i e, lt-ltb i (suc n) (omega arith), below) (omega arith)
  | inr d ↦ rw (ne_eqb n i d) (elim (cases_lt i n) [
    | inl l ↦ (let is : one (nat_lt i n) ≡ 1 = ap one (lt-ltb i n l) in
        rw (lt-ltb i (suc n) (omega arith)) (omega (arith, size_one true i n, is)))
    | inr g ↦ (let is : one (nat_lt i n) ≡ 0 = ap one (le-ltb i n g) in
        rw (le-ltb i (suc n) (omega arith)) (omega (arith, size_one true i n, is)))
  ])
]

size_of : (shard n : ℕ) (x : Party) → size (λ r. same_party (Replica shard r) x) n ≤ one (is_of_shard shard x)
size_of shard n (Client number) = omega (arith, size_none n)
size_of shard n (Replica s i) = by (shard == s) (s == shard) refl refl (size_one (shard == s) i n)
  where
    by : (a b : Bool) → (shard == s) ≡ a → (s == shard) ≡ b → size (λ r. a && (r == i)) n ≤ one (a && nat_lt i n) →
        size (λ r. a && (r == i)) n ≤ one b
    by false b e f h = omega (arith, size_none n)
    by true true e f h = at_most (nat_lt i n) h
      where
        at_most : (c : Bool) → size (λ r. true && (r == i)) n ≤ one c → size (λ r. true && (r == i)) n ≤ 1
        at_most true h = h
        at_most false h = omega (arith, h)
    by true false e f h = absurd (let bad : (s == shard) ≡ true = eq-eqb s shard (sym (eqb-true shard s e)) in cc)

size_counted : (shard n : ℕ) (xs : List Party) → size (λ r. is_among xs (Replica shard r)) n ≤ count_of_shard shard xs
size_counted shard n [] = omega (arith, size_none n)
size_counted shard n (x ∷ xs) =
    omega (
      arith,
      size_or (λ r. same_party (Replica shard r) x) (λ r. is_among xs (Replica shard r)) n,
      size_of shard n x,
      size_counted shard n xs,
      count_cons (is_of_shard shard) x xs,
    )

pub counted_are_few : (c : Setting) (xs : List Party) → AreCounted c.f xs → AreFew c xs
counted_are_few c xs h shard = omega (arith, size_counted shard (replicas c.f) xs, h shard)

-- ---- a party that may join

pub room_left : (xs : List Party) (p : Party) → AreRoomy (xs ++ p ∷ []) → length xs < 1792
room_left xs p h = omega (arith, they_fit (xs ++ p ∷ []) h, length-append xs (p ∷ []))

pub joins : (f : ℕ) (xs : List Party) (p : Party) → is_among xs p ≡ false → is_too_many f xs p ≡ false → can_join f xs p ≡ true
joins f xs p e g = ap (λ b. not (b || is_too_many f xs p)) e ∙ ap not g

pub joined_is : (f : ℕ) (xs : List Party) (p : Party) → is_among xs p ≡ false → is_too_many f xs p ≡ false → joined f xs p ≡ xs ++ p ∷ []
joined_is f xs p e g = ap (λ b. if b then xs ++ p ∷ [] else xs) (joins f xs p e g)

pub seventh : (f : ℕ) (xs : List Party) (p : Party) → f ≤ 6 → is_too_many f xs p ≡ false → is_too_many 6 xs p ≡ false
seventh f xs (Client number) few e = refl
seventh f xs (Replica shard index) few e =
    let below = leb-false f (count_of_shard shard xs) e in
    lt-leb 6 (count_of_shard shard xs) (omega (arith, below, few))

pub comes : (xs : List Party) (p : Party) → CanCome xs p → AreRoomy xs → AreRoomy (xs ++ p ∷ [])
comes xs p can h = with_one 6 xs p (omega arith) can.numbered can.absent can.few h
