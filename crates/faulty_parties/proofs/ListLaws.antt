-- Lists by number, and what they are made of.
use Rattle.std.proofs.Common.{◌≡◌, ◌∙◌, ℕ, zero, suc, ◌+◌, ◌≤◌, ◌<◌, Bool, true, false, cond, List, [], ◌∷◌, ◌++◌}
use Rattle.std.proofs.Common.{Option, Some, None, length, map, take, refl, sym, ap, subst, add-one, append_assoc, arith}
use Rattle.std.specs.Prelude.{◌==◌, filter_map, find, option_map}
use Rattle.std.specs.List.{cons_option, range_with_len}
use Rattle.std.proofs.lemmas.Bool.{eqb-true}
use Rattle.std.proofs.lemmas.List.{append-nil, length-map, map-append, take-map}
use Rattle.std.proofs.lemmas.List.Elements.{All-head, All-tail, All-take, filter_map-append}
use Rattle.basil_types.specs.Lists.{AreItems}
use Rattle.basil_types.specs.Setting.{Setting}
use Rattle.frame_values.specs.declared.owned.parts.ElectPart.{ElectPart}
use Rattle.frame_values.specs.declared.owned.parts.VotePart.{VotePart}
use Rattle.frame_values.specs.Owned.{vote_value, word_value}
use Rattle.frame_views.specs.Fitting.{AreCounted, FitsVote, FitsVotes, FitsWord, IsSignature, after_vote, after_word, widest}
use Rattle.frame_views.specs.Values.{VoteValue, WordValue}
use Rattle.node_steps.specs.Lists.{by_number, first_with}
use Rattle.quorum_laws.specs.Numbers.{replicas}
use Rattle.faulty_parties.specs.Heard.{AreSigned}
use Rattle.faulty_parties.specs.Tallies.{listed, vote_said}

-- ---- maps

pub find_mapped : {A B : Type 0} (f : A → B) (p : B → Bool) (xs : List A) → find p (map f xs) ≡ option_map f (find (λ x. p (f x)) xs)
find_mapped f p [] = refl
find_mapped {A} {B} f p (x ∷ xs) = by (p (f x)) (find_mapped f p xs)
  where
    by : (b : Bool) → find p (map f xs) ≡ option_map f (find (λ x. p (f x)) xs) →
        cond b (Some (f x)) (find p (map f xs)) ≡ option_map f (cond b (Some x) (find (λ x. p (f x)) xs))
    by true e = refl
    by false e = e

-- numbers give in one list what they give in another, mapped
given_mapped : {A B : Type 0} (f : A → B) (g : ℕ → Option B) (h : ℕ → Option A) → ((n : ℕ) → g n ≡ option_map f (h n)) →
    (numbers : List ℕ) → filter_map g numbers ≡ map f (filter_map h numbers)
given_mapped f g h same [] = refl
given_mapped {A} {B} f g h same (n ∷ ns) =
    ap (λ o. cons_option o (filter_map g ns)) (same n) ∙ by (h n) (given_mapped f g h same ns)
  where
    by : (o : Option A) → filter_map g ns ≡ map f (filter_map h ns) →
        cons_option (option_map f o) (filter_map g ns) ≡ map f (cons_option o (filter_map h ns))
    by None e = e
    by (Some x) e = ap (λ l. f x ∷ l) e

pub by_number_mapped : {A B : Type 0} (f : A → B) (number : B → ℕ) (numbers : List ℕ) (xs : List A) →
    by_number number numbers (map f xs) ≡ map f (by_number (λ x. number (f x)) numbers xs)
by_number_mapped f number numbers xs =
    given_mapped f (first_with number (map f xs)) (first_with (λ x. number (f x)) xs)
    (λ n. find_mapped f (λ b. number b == n) xs) numbers

-- ---- one more number

range_more : (a n : ℕ) → range_with_len a (suc n) ≡ range_with_len a n ++ (a + n) ∷ []
range_more a zero = ap (λ k. k ∷ []) (omega arith)
range_more a (suc n) =
    ap (λ l. a ∷ l) (range_more (a + 1) n)
    ∙ ap (λ k. a ∷ (range_with_len (a + 1) n ++ k ∷ [])) (omega arith)

number_more : (r : ℕ) → range_with_len 0 (r + 1) ≡ range_with_len 0 r ++ r ∷ []
number_more r = ap (range_with_len 0) (add-one r) ∙ range_more 0 r ∙ ap (λ k. range_with_len 0 r ++ k ∷ []) (omega arith)

module _ {A V : Type 0} (number : A → ℕ) (g : A → V) (xs : List A) (r : ℕ) where
  more : by_number number (range_with_len 0 (r + 1)) xs
      ≡ by_number number (range_with_len 0 r) xs ++ cons_option (first_with number xs r) []
  more = ap (filter_map (first_with number xs)) (number_more r)
      ∙ filter_map-append (first_with number xs) (range_with_len 0 r) (r ∷ [])

  pub one_listed : (x : A) (parts new : List V) → first_with number xs r ≡ Some x → new ≡ parts ++ g x ∷ [] →
      parts ≡ map g (by_number number (range_with_len 0 r) xs) → new ≡ map g (by_number number (range_with_len 0 (r + 1)) xs)
  one_listed x parts new found is before =
      is ∙ ap (λ l. l ++ g x ∷ []) before
      ∙ sym (ap (map g) (more ∙ ap (λ o. by_number number (range_with_len 0 r) xs ++ cons_option o []) found)
      ∙ map-append g (by_number number (range_with_len 0 r) xs) (x ∷ []))

  pub none_listed : (parts : List V) → first_with number xs r ≡ None →
      parts ≡ map g (by_number number (range_with_len 0 r) xs) → parts ≡ map g (by_number number (range_with_len 0 (r + 1)) xs)
  none_listed parts none before =
      before ∙ sym (ap (map g) (more ∙ ap (λ o. by_number number (range_with_len 0 r) xs ++ cons_option o []) none
      ∙ append-nil (by_number number (range_with_len 0 r) xs)))

-- ---- signatures

pub first_signed : (count : ℕ) (words : List ElectPart) (new : List ElectPart) → new ≡ take count words →
    AreSigned (map word_value words) → AreSigned (map word_value new)
first_signed count words new is signed =
    subst AreSigned (take-map word_value count words ∙ ap (map word_value) (sym is))
    (All-take (λ (w : WordValue). IsSignature w.signature) count (map word_value words) signed)

-- ---- words that are listed fit a frame

some_is : {A : Type 0} (x y : A) → Some x ≡ Some y → x ≡ y
some_is x y e = cc

found_signed : (r : ℕ) (ws : List WordValue) → AreSigned ws → (w : WordValue) → first_with (λ (w : WordValue). w.replica) ws r ≡ Some w →
    IsSignature w.signature × (w.replica ≡ r)
found_signed r [] signed w e = absurd cc
found_signed r (x ∷ xs) signed w e =
    by (x.replica == r) refl e (found_signed r xs (All-tail (λ (w : WordValue). IsSignature w.signature) x xs signed) w)
  where
    by : (b : Bool) → (x.replica == r) ≡ b → cond b (Some x) (first_with (λ (w : WordValue). w.replica) xs r) ≡ Some w →
        (first_with (λ (w : WordValue). w.replica) xs r ≡ Some w → IsSignature w.signature × (w.replica ≡ r)) →
        IsSignature w.signature × (w.replica ≡ r)
    by true is k later =
        let same : x ≡ w = some_is x w k in (
          subst (λ (y : WordValue). IsSignature y.signature) same (All-head (λ (w : WordValue). IsSignature w.signature) x xs signed),
          ap (λ (y : WordValue). y.replica) (sym same) ∙ eqb-true x.replica r is,
        )
    by false is k later = later k

module _ (ws : List WordValue) (signed : AreSigned ws) where
  abbrev by_replica : ℕ → Option WordValue
  by_replica r = first_with (λ (w : WordValue). w.replica) ws r

  items : (count from floor : ℕ) → floor ≤ from → from + count ≤ 256 →
      AreItems (FitsWord widest) after_word floor (filter_map by_replica (range_with_len from count))
  items zero from floor h k = tt
  items (suc count) from floor h k =
      by (by_replica from) refl (λ low l. items count (from + 1) low l (omega (arith, k)))
    where
      by : (o : Option WordValue) → by_replica from ≡ o →
          ((low : ℕ) → low ≤ from + 1 →
          AreItems (FitsWord widest) after_word low (filter_map by_replica (range_with_len (from + 1) count))) →
          AreItems (FitsWord widest) after_word floor (cons_option o (filter_map by_replica (range_with_len (from + 1) count)))
      by None e more = more floor (omega (arith, h))
      by (Some w) e more =
          let is = found_signed from ws signed w e in
          let same : w.replica ≡ from = is.1 in (
            record { above = omega (arith, same, h); below = omega (arith, same, k); signature = is.0 },
            more (w.replica + 1) (omega (arith, same)),
          )

  few : (count from : ℕ) → length (filter_map by_replica (range_with_len from count)) ≤ count
  few zero from = omega arith
  few (suc count) from = by (by_replica from) (few count (from + 1))
    where
      by : (o : Option WordValue) → length (filter_map by_replica (range_with_len (from + 1) count)) ≤ count →
          length (cons_option o (filter_map by_replica (range_with_len (from + 1) count))) ≤ suc count
      by None h = omega (arith, h)
      by (Some a) h = omega (arith, h)

  pub listed_counted : (c : Setting) → replicas c.f < 256 → AreCounted (FitsWord widest) after_word (listed c ws)
  listed_counted c small =
      let l = few (replicas c.f) 0 in
      record {
        count = omega (arith, small, l);
        each = items (replicas c.f) 0 0 (omega arith) (omega (arith, small));
      }

-- ---- votes of words

pub next_vote : (votes new : List VotePart) (w : ElectPart) (rest left : List ElectPart) (total : List VoteValue) → rest ≡ w ∷ left →
    new ≡ votes ++ record { replica = w.replica; signature = w.signature } ∷ [] →
    map vote_value votes ++ map vote_said (map word_value rest) ≡ total →
    map vote_value new ++ map vote_said (map word_value left) ≡ total
next_vote votes new w rest left total r n before =
    let v : VotePart = record { replica = w.replica; signature = w.signature } in
    ap (λ l. map vote_value l ++ map vote_said (map word_value left)) n
    ∙ ap (λ l. l ++ map vote_said (map word_value left)) (map-append vote_value votes (v ∷ []))
    ∙ append_assoc (map vote_value votes) (vote_value v ∷ []) (map vote_said (map word_value left))
    ∙ ap (λ l. map vote_value votes ++ map vote_said (map word_value l)) (sym r) ∙ before

votes_items : (floor : ℕ) (ws : List WordValue) → AreItems (FitsWord widest) after_word floor ws →
    AreItems (FitsVote widest) after_vote floor (map vote_said ws)
votes_items floor [] are = tt
votes_items floor (w ∷ ws) are =
    (record { above = are.0.above; below = are.0.below; signature = are.0.signature }, votes_items (w.replica + 1) ws are.1)

pub votes_counted : (ws : List WordValue) → AreCounted (FitsWord widest) after_word ws → FitsVotes widest (map vote_said ws)
votes_counted ws are =
    let l = length-map ws vote_said in
    let n = are.count in
    record { count = omega (arith, l, n); each = votes_items 0 ws are.each }
