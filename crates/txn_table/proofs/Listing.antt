-- The places of the entries that depend on an id.
use Rattle.std.proofs.Common.{◌≡◌, ℕ, zero, suc, ◌+◌, ◌-◌, ◌<◌, Bool, true, false, cond, List, [], ◌∷◌, ◌++◌, length, filter}
use Rattle.std.proofs.Common.{Option, Some, None, refl, sym, ap, ◌∙◌, arith, Vec, Global, Bor, length-append, if◌then◌else◌}
use Rattle.std.specs.Prelude.{option_map, slice_get, filter_map, is_none, IfSome, ◌&&◌, ◌||◌, ◌==◌}
use Rattle.std.specs.List.{list_any, enumerate_from, cons_option}
use Rattle.std.specs.Option.{option_map_or, option_and_then}
use Rattle.std.specs.Str.{bytes_eq}
use Rattle.std.specs.Map.{lookup, set_value}
use Rattle.std.specs.Cmp.Lexicographic.{bytes_decides}
use Rattle.std.proofs.lemmas.Bool.{eqb-true, eqb-false, and_parts, false≢true}
use Rattle.std.proofs.lemmas.List.{append-nil}
use Rattle.std.proofs.lemmas.Option.{same_Some}
use Rattle.basil_types.specs.declared.party.Decision.{Decision}
use Rattle.basil_types.specs.declared.party.Decision.TheVariants.{Commit, Abort}
use Rattle.basil_types.specs.declared.transaction.parts.ReadPart.{ReadPart}
use Rattle.indexmap.specs.IndexMap.{get, get_by}
use Rattle.txn_table.specs.declared.waiters.Waiters.{Waiters}
use Rattle.txn_table.specs.declared.released.Home.{Home}
use Rattle.txn_table.specs.declared.released.Supposed.{Supposed}
use Rattle.txn_table.specs.Entries.{EntryValue, is_waiting}
use Rattle.txn_table.specs.Released.{released, released_among, released_vote, placed_vote, is_dependency, dependencies}
use Rattle.txn_table.specs.Released.{depends, some_aborted, all_committed, is_place, outcome_at, vote_after}
use Rattle.txn_table.specs.Tables.{id_of, place_of}
use Rattle.txn_table.specs.Waiters.{reads_on, waits_on, places_from, places_on, ends_with, with_place, listed, SamePlaces, Adds, AreListed}
use Rattle.basil_types.proofs.KeyLaws.{lookup-set_value}
use Rattle.txn_table.proofs.Places.{entry_placed}

-- ---- one more entry

put_front : (b : Bool) (k : ℕ) (xs ys : List ℕ) → cond b (k ∷ (xs ++ ys)) (xs ++ ys) ≡ cond b (k ∷ xs) xs ++ ys
put_front true k xs ys = refl
put_front false k xs ys = refl

pushed : (id : List ℕ) (k : ℕ) (es : List EntryValue) (e : EntryValue)
    → places_from id k (es ++ e ∷ []) ≡ places_from id k es ++ cond (waits_on e.transaction id) ((k + length es) ∷ []) []
pushed id k [] e = let n : k ≡ k + 0 = omega arith in ap (λ (j : ℕ). cond (waits_on e.transaction id) (j ∷ []) []) n
pushed id k (d ∷ es) e =
    let b : Bool = waits_on d.transaction id in
    let n : (k + 1) + length es ≡ k + suc (length es) = omega arith in
    ap (λ (l : List ℕ). cond b (k ∷ l) l) (pushed id (k + 1) es e)
    ∙ put_front b k (places_from id (k + 1) es) (cond (waits_on e.transaction id) (((k + 1) + length es) ∷ []) [])
    ∙ ap (λ (j : ℕ). cond b (k ∷ places_from id (k + 1) es) (places_from id (k + 1) es) ++ cond (waits_on e.transaction id) (j ∷ []) []) n

-- each of the places is held
below : (id : List ℕ) (k : ℕ) (es : List EntryValue) (i x : ℕ) → slice_get (places_from id k es) i ≡ Some x → x < k + length es
below id k [] i x h = absurd cc
below id k (d ∷ es) i x h = by (λ j g. below id (k + 1) es j x g) (waits_on d.transaction id) i h
  where
    by : ((j : ℕ) → slice_get (places_from id (k + 1) es) j ≡ Some x → x < (k + 1) + length es) → (b : Bool) (i : ℕ)
        → slice_get (cond b (k ∷ places_from id (k + 1) es) (places_from id (k + 1) es)) i ≡ Some x → x < k + suc (length es)
    by next true zero h = let is : k ≡ x = same_Some k x h in omega (arith, is)
    by next true (suc i) h = let rest : x < (k + 1) + length es = next i h in omega (arith, rest)
    by next false i h = let rest : x < (k + 1) + length es = next i h in omega (arith, rest)

apart : (x n : ℕ) → x < n → (x == n) ≡ false
apart x n h = by (x == n) refl
  where
    by : (b : Bool) → (x == n) ≡ b → (x == n) ≡ false
    by true e = let is : x ≡ n = eqb-true x n e in absurd (omega (arith, h, is))
    by false e = e

not_last : (n : ℕ) (xs : List ℕ) → ((i x : ℕ) → slice_get xs i ≡ Some x → x < n) → ends_with n xs ≡ false
not_last n xs h = by (slice_get xs (length xs - 1)) refl
  where
    by : (o : Option ℕ) → slice_get xs (length xs - 1) ≡ o → ends_with n xs ≡ false
    by None e = ap (λ (o : Option ℕ). option_map_or (λ (last : ℕ). last == n) o false) e
    by (Some x) e = ap (λ (o : Option ℕ). option_map_or (λ (last : ℕ). last == n) o false) e ∙ apart x n (h (length xs - 1) x e)

chosen : (b : Bool) (n : ℕ) (xs : List ℕ) → ends_with n xs ≡ false → cond b (with_place n xs) xs ≡ xs ++ cond b (n ∷ []) []
chosen true n xs h = ap (λ (b : Bool). cond b xs (xs ++ n ∷ [])) h
chosen false n xs h = sym (append-nil xs)

-- an entry that arrives is listed at the ids that its transaction depends on
pub one-more : (id : List ℕ) (es : List EntryValue) (e : EntryValue)
    → cond (waits_on e.transaction id) (with_place (length es) (places_on id es)) (places_on id es) ≡ places_on id (es ++ e ∷ [])
one-more id es e =
    let n : 0 + length es ≡ length es = omega arith in
    chosen (waits_on e.transaction id) (length es) (places_on id es)
    (not_last (length es) (places_on id es) (λ i x h. let b : x < 0 + length es = below id 0 es i x h in omega (arith, b, n)))
    ∙ sym (pushed id 0 es e ∙ ap (λ (j : ℕ). places_on id es ++ cond (waits_on e.transaction id) (j ∷ []) []) n)

-- ---- lists at ids

end-at : (xs : List ℕ) (x : ℕ) → slice_get (xs ++ x ∷ []) (length xs) ≡ Some x
end-at [] x = refl
end-at (y ∷ xs) x = end-at xs x

same_number : (p : ℕ) → (p == p) ≡ true
same_number p = by (p == p) refl
  where
    by : (b : Bool) → (p == p) ≡ b → (p == p) ≡ true
    by true e = e
    by false e = absurd (eqb-false p p e refl)

last_is : (p : ℕ) (xs : List ℕ) → ends_with p (xs ++ p ∷ []) ≡ true
last_is p xs =
    let n : length (xs ++ p ∷ []) - 1 ≡ length xs = omega (arith, length-append xs (p ∷ [])) in
    ap (λ (o : Option ℕ). option_map_or (λ (last : ℕ). last == p) o false) (ap (slice_get (xs ++ p ∷ [])) n ∙ end-at xs p) ∙ same_number p

twice : (p : ℕ) (xs : List ℕ) → with_place p xs ≡ with_place p (with_place p xs)
twice p xs = by (ends_with p xs) refl
  where
    by : (b : Bool) → ends_with p xs ≡ b → with_place p xs ≡ with_place p (with_place p xs)
    by true e = sym (ap (with_place p) (ap (λ (b : Bool). cond b xs (xs ++ p ∷ [])) e))
    by false e =
        let more : with_place p xs ≡ xs ++ p ∷ [] = ap (λ (b : Bool). cond b xs (xs ++ p ∷ [])) e in
        more ∙ sym (ap (with_place p) more ∙ ap (λ (b : Bool). cond b (xs ++ p ∷ []) ((xs ++ p ∷ []) ++ p ∷ [])) (last_is p xs))

-- a place that is listed twice is listed once
pub absorbs : (h r : Bool) (p : ℕ) (xs : List ℕ)
    → cond (h || r) (with_place p xs) xs ≡ cond r (with_place p (cond h (with_place p xs) xs)) (cond h (with_place p xs) xs)
absorbs true true p xs = twice p xs
absorbs true false p xs = refl
absorbs false true p xs = refl
absorbs false false p xs = refl

abbrev pub items_of : Option (Vec ℕ Global) → List ℕ
items_of o = option_map_or (λ (v : Vec ℕ Global). v.items) o []

same_id : (id q : List ℕ) → bytes_eq id q ≡ true → id ≡ q
same_id id q e = (bytes_decides id q).0 e

-- the list of one id becomes this one
module _ (w w' : Waiters) (id : List ℕ) (v : Vec ℕ Global) (up : (q : List ℕ) → get bytes_eq w'.lists q
    ≡ cond (bytes_eq id q) (Some v) (get bytes_eq w.lists q)) where
  after : (q : List ℕ) → listed w' q ≡ cond (bytes_eq id q) v.items (listed w q)
  after q = ap items_of (up q) ∙ by (bytes_eq id q)
    where
      by : (b : Bool) → items_of (cond b (Some v) (get bytes_eq w.lists q)) ≡ cond b v.items (listed w q)
      by true = refl
      by false = refl

  pub same-written : v.items ≡ listed w id → (q : List ℕ) → listed w' q ≡ listed w q
  same-written same q = after q ∙ by (bytes_eq id q) refl
    where
      by : (b : Bool) → bytes_eq id q ≡ b → cond b v.items (listed w q) ≡ listed w q
      by true e = same ∙ ap (listed w) (same_id id q e)
      by false e = refl

  pub adds-written : (p : ℕ) → v.items ≡ with_place p (listed w id) → (q : List ℕ)
      → listed w' q ≡ cond (bytes_eq id q) (with_place p (listed w q)) (listed w q)
  adds-written p more q = after q ∙ by (bytes_eq id q) refl
    where
      by : (b : Bool) → bytes_eq id q ≡ b → cond b v.items (listed w q) ≡ cond b (with_place p (listed w q)) (listed w q)
      by true e = more ∙ ap (λ (k : List ℕ). with_place p (listed w k)) (same_id id q e)
      by false e = refl

-- what a written list makes of all
written : (w w' : Waiters) (id : List ℕ) (v v' : Vec ℕ Global) → get_by (bytes_eq id) w.lists ≡ Some v
    → w'.lists.entries ≡ set_value (bytes_eq id) w.lists.entries v' → (q : List ℕ)
    → get bytes_eq w'.lists q ≡ cond (bytes_eq id q) (Some v') (get bytes_eq w.lists q)
written w w' id v v' found e q = ap (lookup (bytes_eq q)) e ∙ lookup-set_value (λ x. x) id q w.lists.entries v v' found

pub same-at : (w w' : Waiters) (id : List ℕ) (v v' : Vec ℕ Global) → get_by (bytes_eq id) w.lists ≡ Some v
    → w'.lists.entries ≡ set_value (bytes_eq id) w.lists.entries v' → w'.whole ≡ w.whole → v'.items ≡ v.items → SamePlaces w w'
same-at w w' id v v' found e whole same =
    record { whole = whole; places = same-written w w' id v' (written w w' id v v' found e) (same ∙ sym (ap items_of found)) }

pub adds-at : (w w' : Waiters) (id : List ℕ) (v v' : Vec ℕ Global) (p : ℕ) → get_by (bytes_eq id) w.lists ≡ Some v
    → w'.lists.entries ≡ set_value (bytes_eq id) w.lists.entries v'
    → (w'.whole ≡ true → (w.whole ≡ true) × (v'.items ≡ with_place p v.items)) → Adds (bytes_eq id) w w' p
adds-at w w' id v v' p found e more =
    record {
      whole = λ h. (more h).0;
      places = λ h. adds-written w w' id v' (written w w' id v v' found e) p ((more h).1 ∙ ap (with_place p) (sym (ap items_of found)));
    }

-- a new empty list changes no places
pub same-new : (w w' : Waiters) (id : List ℕ) (v : Vec ℕ Global) → get_by (bytes_eq id) w.lists ≡ None
    → ((q : List ℕ) → get bytes_eq w'.lists q ≡ cond (bytes_eq id q) (Some v) (get bytes_eq w.lists q)) → w'.whole ≡ w.whole → v.items ≡ []
    → SamePlaces w w'
same-new w w' id v none up whole empty =
    record { whole = whole; places = same-written w w' id v up (empty ∙ sym (ap items_of none)) }

pub none-listed : (w : Waiters) (entries : List EntryValue) → entries ≡ [] → ((id : List ℕ) → listed w id ≡ []) → AreListed w entries
none-listed w entries none is whole id = is id ∙ sym (ap (places_on id) none)

-- what is found where the lists are whole
pub listed-found : (w : Waiters) (entries : List EntryValue) (id : List ℕ) (o : Option (Bor (List ℕ))) → AreListed w entries
    → IfSome o (λ places. w.whole ≡ true) →
    IfSome o (λ places. places.now ≡ listed w id) → IfSome o (λ places. places.now ≡ places_on id entries)
listed-found w entries id None are whole is = is
listed-found w entries id (Some places) are whole is = is ∙ are whole id

pub same-then : (a b c : Waiters) → SamePlaces a b → SamePlaces b c → SamePlaces a c
same-then a b c h k = record { whole = k.whole ∙ h.whole; places = λ id. k.places id ∙ h.places id }

-- ---- what is released is listed

abbrev placed : ℕ → Option Decision → Option (ℕ × Decision)
placed k o = option_map (λ (vote : Decision). let y : ℕ × Decision = (k, vote) in y) o

or_none : (a b : Bool) → (a || b) ≡ false → (a ≡ false) × (b ≡ false)
or_none true b h = absurd (false≢true (sym h))
or_none false b h = (refl, h)

module _ (home : Home) (s : Supposed) (all : List EntryValue) (x : EntryValue) (held : slice_get all s.place ≡ Some x) where
  not_there : (r : ReadPart) → bytes_eq r.version.id (id_of x) ≡ false → (o : Option ℕ) → place_of all r.version.id ≡ o
      → is_place s.place o ≡ false
  not_there r other None at = refl
  not_there r other (Some j) at = by (j == s.place) refl
    where
      by : (b : Bool) → (j == s.place) ≡ b → (j == s.place) ≡ false
      by true e =
          let found : option_map id_of (slice_get all s.place) ≡ Some r.version.id =
          entry_placed all r.version.id s.place (at ∙ ap Some (eqb-true j s.place e)) in
          let own : id_of x ≡ r.version.id = same_Some (id_of x) r.version.id (sym (ap (option_map id_of) held) ∙ found) in
          absurd (false≢true (sym other ∙ (bytes_decides r.version.id (id_of x)).1 (sym own)))
      by false e = e

  elsewhere : (reads : List ReadPart) → list_any (reads_on (id_of x)) reads ≡ false
      → depends s all (filter (is_dependency home) reads) ≡ false
  elsewhere [] h = refl
  elsewhere (r ∷ rs) h =
      let parts = or_none (reads_on (id_of x) r) (list_any (reads_on (id_of x)) rs) h in
      by (elsewhere rs parts.1) parts.0 (is_dependency home r) refl
    where
      by : depends s all (filter (is_dependency home) rs) ≡ false → reads_on (id_of x) r ≡ false → (b : Bool) → is_dependency home r ≡ b
          → depends s all (cond b (r ∷ filter (is_dependency home) rs) (filter (is_dependency home) rs)) ≡ false
      by rest not_on true e =
          let on : r.dependency ≡ true = (and_parts r.dependency _ e).0 in
          let other : bytes_eq r.version.id (id_of x) ≡ false = sym (ap (λ (b : Bool). b && bytes_eq r.version.id (id_of x)) on) ∙ not_on in
          ap (λ (b : Bool). b || depends s all (filter (is_dependency home) rs)) (not_there r other (place_of all r.version.id) refl) ∙ rest
      by rest not_on false e = rest

  none : (b : Bool) (o : Option Decision) → cond b (cond false o None) None ≡ None
  none true o = refl
  none false o = refl

  unlisted : (k : ℕ) (e : EntryValue) → waits_on e.transaction (id_of x) ≡ false → released_vote home s all k e ≡ None
  unlisted k e h =
      let reads : List ReadPart = dependencies home e.transaction in
      let b : Bool = is_waiting e.vote && is_none (outcome_at s all k) in
      ap (λ (o : Option Decision). cond b o None) (after reads (elsewhere e.transaction.reads h)) ∙ none b None
    where
      after : (reads : List ReadPart) → depends s all reads ≡ false → vote_after s all reads ≡ None
      after reads h =
          ap (λ (c : Bool). if c then
          (if some_aborted s all reads then Some Abort else (if all_committed s all reads then Some Commit else None)) else None) h

  pub among_from : (k : ℕ) (es : List EntryValue) → ((i : ℕ) (e : EntryValue) → slice_get es i ≡ Some e → slice_get all (k + i) ≡ Some e)
      → filter_map (placed_vote home s all) (places_from (id_of x) k es)
      ≡ filter_map (λ y. option_map (λ vote. (y.0, vote)) (released_vote home s all y.0 y.1)) (enumerate_from k es)
  among_from k [] h = refl
  among_from k (e ∷ es) h =
      let z : k + 0 ≡ k = omega arith in
      let at : slice_get all k ≡ Some e = sym (ap (slice_get all) z) ∙ h 0 e refl in
      by (among_from (k + 1) es (λ i d g. let n : k + suc i ≡ (k + 1) + i = omega arith in sym (ap (slice_get all) n) ∙ h (suc i) d g))
      (ap (λ (o : Option EntryValue). placed k (option_and_then (released_vote home s all k) o)) at) (waits_on e.transaction (id_of x)) refl
    where
      by : filter_map (placed_vote home s all) (places_from (id_of x) (k + 1) es)
          ≡ filter_map (λ y. option_map (λ vote. (y.0, vote)) (released_vote home s all y.0 y.1)) (enumerate_from (k + 1) es)
          → placed_vote home s all k ≡ placed k (released_vote home s all k e)
          → (b : Bool) → waits_on e.transaction (id_of x) ≡ b
          → filter_map (placed_vote home s all) (cond b (k ∷ places_from (id_of x) (k + 1) es) (places_from (id_of x) (k + 1) es))
          ≡ cons_option (placed k (released_vote home s all k e))
          (filter_map (λ y. option_map (λ vote. (y.0, vote)) (released_vote home s all y.0 y.1)) (enumerate_from (k + 1) es))
      by rest this true w =
          ap (λ (o : Option (ℕ × Decision)). cons_option o (filter_map (placed_vote home s all) (places_from (id_of x) (k + 1) es))) this
          ∙ ap (cons_option (placed k (released_vote home s all k e))) rest
      by rest this false w =
          rest ∙ sym (ap (λ (o : Option Decision). cons_option (placed k o) (filter_map
          (λ y. option_map (λ vote. (y.0, vote)) (released_vote home s all y.0 y.1)) (enumerate_from (k + 1) es))) (unlisted k e w))

  -- those listed at the id of the supposed place are all that can be released
  pub among : released_among home s all (places_on (id_of x) all) ≡ released home s all
  among = among_from 0 all (λ i e g. let n : 0 + i ≡ i = omega arith in ap (slice_get all) n ∙ g)
