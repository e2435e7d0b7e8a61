-- The first text of each id, as transactions are seen.
use Rattle.std.proofs.Common.{◌≡◌, ℕ, ◌⊎◌, inl, inr, Bool, true, false, cond, not, List, [], ◌∷◌}
use Rattle.std.proofs.Common.{◌++◌, Option, Some, None, Contains, refl, sym, ap, subst, ◌∙◌, arith}
use Rattle.std.specs.Prelude.{All, ◌&&◌, find, option_map}
use Rattle.std.specs.Map.{lookup}
use Rattle.std.specs.Option.{option_or}
use Rattle.std.specs.Str.{bytes_eq}
use Rattle.std.proofs.lemmas.Bool.{and_parts}
use Rattle.std.proofs.lemmas.List.Elements.{All-nil, All-cons, All-contains, Contains-get_or, Contains-append_left}
use Rattle.std.proofs.lemmas.List.Elements.{Contains-append_right, Contains-push, Contains-push_cases}
use Rattle.std.proofs.lemmas.List.Folds.{find-append}
use Rattle.std.proofs.lemmas.Option.{same_Some}
use Rattle.std.proofs.lemmas.Slice.Eq.{bytes_eq-Decides}
use Rattle.basil_types.specs.Id.{id_of}
use Rattle.basil_types.specs.Transaction.{TransactionValue, canonical, id}
use Rattle.premise_watch.specs.declared.broken.Broken.TheVariants.{Collision}
use Rattle.premise_watch.specs.Breaches.{WatchValue, collides, collision}
use Rattle.premise_watch.specs.Texts.{has_id, first_text, AreApart, AreTexts}

-- ---- look-ups

found_text : {X : Type 0} (p : X → Bool) (xs : List X) (x : X) → find p xs ≡ Some x → Contains xs x × (p x ≡ true)
found_text p [] x e = absurd cc
found_text p (y ∷ ys) x e = by (found_text p ys x) (p y) refl
  where
    by : (find p ys ≡ Some x → Contains ys x × (p x ≡ true)) → (b : Bool) → p y ≡ b → Contains (y ∷ ys) x × (p x ≡ true)
    by next true h =
        let same : y ≡ x = same_Some y x (sym (ap (λ b. cond b (Some y) (find p ys)) h) ∙ e) in
        (subst (Contains (y ∷ ys)) same (Contains-get_or (y ∷ ys) 0 y (omega arith)), subst (λ z. p z ≡ true) same h)
    by next false h =
        let r = next (sym (ap (λ b. cond b (Some y) (find p ys)) h) ∙ e) in
        (Contains-append_right (y ∷ []) ys x r.0, r.1)

none_pass : {X : Type 0} (p : X → Bool) (xs : List X) → find p xs ≡ None → All (λ x. p x ≡ false) xs
none_pass p [] e = All-nil (λ x. p x ≡ false)
none_pass p (y ∷ ys) e = by (none_pass p ys) (p y) refl
  where
    by : (find p ys ≡ None → All (λ x. p x ≡ false) ys) → (b : Bool) → p y ≡ b → All (λ x. p x ≡ false) (y ∷ ys)
    by next true h = absurd (let i : Some y ≡ None = sym (ap (λ b. cond b (Some y) (find p ys)) h) ∙ e in cc)
    by next false h =
        All-cons (λ x. p x ≡ false) y ys h (next (sym (ap (λ b. cond b (Some y) (find p ys)) h) ∙ e))

missed : {X : Type 0} (p : X → Bool) (xs : List X) (x : X) → find p xs ≡ None → Contains xs x → p x ≡ false
missed p xs x e c = All-contains (λ x. p x ≡ false) xs x (none_pass p xs e) c

swapped : (a b : List ℕ) (r : Bool) → bytes_eq a b ≡ r → bytes_eq b a ≡ r
swapped a b true e = (bytes_eq-Decides b a).1 (sym ((bytes_eq-Decides a b).0 e))
swapped a b false e = by (bytes_eq b a) refl
  where
    by : (r : Bool) → bytes_eq b a ≡ r → bytes_eq b a ≡ false
    by true h = let t : bytes_eq a b ≡ true = (bytes_eq-Decides a b).1 (sym ((bytes_eq-Decides b a).0 h)) in absurd cc
    by false h = h

lookup_push : (test : List ℕ → Bool) (es : List (List ℕ × List ℕ)) (k v : List ℕ) →
    lookup test (es ++ (k, v) ∷ []) ≡ option_or (lookup test es) (cond (test k) (Some v) None)
lookup_push test [] k v = refl
lookup_push test (e ∷ es) k v = by (lookup_push test es k v) (test e.0)
  where
    by : lookup test (es ++ (k, v) ∷ []) ≡ option_or (lookup test es) (cond (test k) (Some v) None) → (b : Bool) →
        cond b (Some e.1) (lookup test (es ++ (k, v) ∷ []))
        ≡ option_or (cond b (Some e.1) (lookup test es)) (cond (test k) (Some v) None)
    by next true = refl
    by next false = next

map_or : (o p : Option TransactionValue) →
    option_map canonical (option_or o p) ≡ option_or (option_map canonical o) (option_map canonical p)
map_or None p = refl
map_or (Some t) p = refl

map_cond : (b : Bool) (t : TransactionValue) → option_map canonical (cond b (Some t) None) ≡ cond b (Some (canonical t)) None
map_cond true t = refl
map_cond false t = refl

first_push : (i : List ℕ) (ts : List TransactionValue) (t : TransactionValue) →
    first_text i (ts ++ t ∷ []) ≡ option_or (first_text i ts) (cond (has_id i t) (Some (canonical t)) None)
first_push i ts t =
    ap (option_map canonical) (find-append (has_id i) ts (t ∷ [])) ∙ map_or (find (has_id i) ts) (find (has_id i) (t ∷ []))
    ∙ ap (option_or (first_text i ts)) (map_cond (has_id i t) t)

-- ---- collisions

same_texts : (t u : TransactionValue) → collides t u ≡ false → id u ≡ id t → canonical u ≡ canonical t
same_texts t u e i = by (bytes_eq (canonical u) (canonical t)) refl
  where
    one : bytes_eq (id u) (id t) ≡ true
    one = (bytes_eq-Decides (id u) (id t)).1 i

    by : (b : Bool) → bytes_eq (canonical u) (canonical t) ≡ b → canonical u ≡ canonical t
    by true h = (bytes_eq-Decides (canonical u) (canonical t)).0 h
    by false h = absurd (let bad : collides t u ≡ true = ap (λ b. b && not (bytes_eq (canonical u) (canonical t))) one ∙ ap not h in cc)

other_ids : (t u : TransactionValue) → bytes_eq (id u) (id t) ≡ false → collides t u ≡ false
other_ids t u e = ap (λ b. b && not (bytes_eq (canonical u) (canonical t))) e

and_no : (b : Bool) → (b && false) ≡ false
and_no true = refl
and_no false = refl

never_itself : (t u : TransactionValue) → canonical u ≡ canonical t → collides t u ≡ false
never_itself t u e =
    ap (λ b. bytes_eq (id u) (id t) && not b) ((bytes_eq-Decides (canonical u) (canonical t)).1 e)
    ∙ and_no (bytes_eq (id u) (id t))

-- the text with the id of a collision
collided : (t u : TransactionValue) → collides t u ≡ true → id u ≡ id t
collided t u e =
    (bytes_eq-Decides (id u) (id t)).0 (and_parts (bytes_eq (id u) (id t)) (not (bytes_eq (canonical u) (canonical t))) e).0

no_collision : (ts : List TransactionValue) (t : TransactionValue) → AreApart (ts ++ t ∷ []) → find (collides t) ts ≡ None
no_collision ts t apart = by (find (collides t) ts) refl
  where
    by : (o : Option TransactionValue) → find (collides t) ts ≡ o → find (collides t) ts ≡ None
    by None e = e
    by (Some u) e =
        let there = found_text (collides t) ts u e in
        absurd (let bad : collides t u ≡ false = apart t u (Contains-push ts t) (Contains-append_left ts (t ∷ []) u there.0) in
        let good : collides t u ≡ true = there.1 in cc)

pub sound : (w : WatchValue) (t : TransactionValue) → AreApart (w.texts ++ t ∷ []) → collision w t ≡ None
sound w t apart = ap (option_map (λ u. Collision (canonical u) (canonical t))) (no_collision w.texts t apart)

-- ---- one more

with_one : (ts : List TransactionValue) (t : TransactionValue) → AreApart ts →
    ((u : TransactionValue) → Contains ts u → (collides t u ≡ false) × (collides u t ≡ false)) → AreApart (ts ++ t ∷ [])
with_one ts t apart new a b ca cb = by (Contains-push_cases ts t a ca) (Contains-push_cases ts t b cb)
  where
    by : Contains ts a ⊎ (t ≡ a) → Contains ts b ⊎ (t ≡ b) → collides a b ≡ false
    by (inl x) (inl y) = apart a b x y
    by (inl x) (inr y) = subst (λ u. collides a u ≡ false) y (new a x).1
    by (inr x) (inl y) = subst (λ u. collides u b ≡ false) x (new b y).0
    by (inr x) (inr y) = never_itself a b (ap canonical (sym y ∙ x))

module _ (es : List (List ℕ × List ℕ)) (ts : List TransactionValue) (t : TransactionValue) (h : AreTexts es ts) where
  -- of an id that has none
  pub new_text : lookup (bytes_eq (id t)) es ≡ None → AreTexts (es ++ (id t, canonical t) ∷ []) (ts ++ t ∷ [])
  new_text none = record {
    first =
        λ i.
        lookup_push (bytes_eq i) es (id t) (canonical t)
        ∙ ap (λ o. option_or o (cond (bytes_eq i (id t)) (Some (canonical t)) None)) (h.first i) ∙ sym (first_push i ts t);
    apart = with_one ts t h.apart (λ u c.
        let apart : bytes_eq (id t) (id u) ≡ false =
        missed (has_id (id t)) ts u (unmapped (find (has_id (id t)) ts) (sym (h.first (id t)) ∙ none)) c in
        (other_ids t u (swapped (id t) (id u) false apart), other_ids u t apart));
  }
    where
      unmapped : (o : Option TransactionValue) → option_map canonical o ≡ None → o ≡ None
      unmapped None e = refl
      unmapped (Some u) e = absurd cc

  -- the transaction whose text is the first of an id
  first_of : (b : List ℕ) → lookup (bytes_eq (id t)) es ≡ Some b →
      (u : TransactionValue) × Contains ts u × (id u ≡ id t) × (canonical u ≡ b)
  first_of b there = by (find (has_id (id t)) ts) refl (sym (h.first (id t)) ∙ there)
    where
      by : (o : Option TransactionValue) → find (has_id (id t)) ts ≡ o → option_map canonical o ≡ Some b →
          (u : TransactionValue) × Contains ts u × (id u ≡ id t) × (canonical u ≡ b)
      by None e m = absurd cc
      by (Some u) e m =
          let f = found_text (has_id (id t)) ts u e in
          (u, f.0, sym ((bytes_eq-Decides (id t) (id u)).0 f.1), same_Some (canonical u) b m)

  -- the same text again
  pub same_text : lookup (bytes_eq (id t)) es ≡ Some (canonical t) → AreTexts es (ts ++ t ∷ [])
  same_text there =
      let f = first_of (canonical t) there in
      record {
        first = λ i. h.first i ∙ by i (first_text i ts) refl ∙ sym (first_push i ts t);
        apart = with_one ts t h.apart (λ x c. (as_t f.0 x f.3 (h.apart f.0 x f.1 c), of_t f.0 x f.3 (h.apart x f.0 c f.1)));
      }
    where
      by : (i : List ℕ) (o : Option (List ℕ)) → first_text i ts ≡ o →
          first_text i ts ≡ option_or (first_text i ts) (cond (has_id i t) (Some (canonical t)) None)
      by i (Some b) e = e ∙ ap (λ o. option_or o (cond (has_id i t) (Some (canonical t)) None)) (sym e)
      by i None e = nothing (has_id i t) refl ∙ ap (λ o. option_or o (cond (has_id i t) (Some (canonical t)) None)) (sym e)
        where
          nothing : (b : Bool) → has_id i t ≡ b → first_text i ts ≡ cond (has_id i t) (Some (canonical t)) None
          nothing true g = absurd (let same : i ≡ id t = (bytes_eq-Decides i (id t)).0 g in
              let bad : None ≡ Some (canonical t) = sym e ∙ sym (h.first i) ∙ ap (λ j. lookup (bytes_eq j) es) same ∙ there in cc)
          nothing false g = e ∙ ap (λ b. cond b (Some (canonical t)) None) (sym g)

      as_t : (u x : TransactionValue) → canonical u ≡ canonical t → collides u x ≡ false → collides t x ≡ false
      as_t u x s e = ap (λ c. bytes_eq (id x) (id_of c) && not (bytes_eq (canonical x) c)) (sym s) ∙ e

      of_t : (u x : TransactionValue) → canonical u ≡ canonical t → collides x u ≡ false → collides x t ≡ false
      of_t u x s e = ap (λ c. bytes_eq (id_of c) (id x) && not (bytes_eq c (canonical x))) (sym s) ∙ e

  -- another text
  pub clash : (b : List ℕ) → lookup (bytes_eq (id t)) es ≡ Some b → bytes_eq b (canonical t) ≡ false →
      option_map (λ u. Collision (canonical u) (canonical t)) (find (collides t) ts) ≡ Some (Collision b (canonical t))
  clash b there differs = by (first_of b there) (find (collides t) ts) refl
    where
      by : (u : TransactionValue) × Contains ts u ×
          (id u ≡ id t) × (canonical u ≡ b) → (o : Option TransactionValue) → find (collides t) ts ≡ o →
          option_map (λ u. Collision (canonical u) (canonical t)) (find (collides t) ts) ≡ Some (Collision b (canonical t))
      by f None e =
          let one : bytes_eq (id f.0) (id t) ≡ true = (bytes_eq-Decides (id f.0) (id t)).1 f.2 in
          let other : bytes_eq (canonical f.0) (canonical t) ≡ false = ap (λ c. bytes_eq c (canonical t)) f.3 ∙ differs in
          absurd (let bad : collides t f.0 ≡ true = ap (λ b. b && not (bytes_eq (canonical f.0) (canonical t))) one ∙ ap not other in
          let good : collides t f.0 ≡ false = missed (collides t) ts f.0 e f.1 in cc)
      by f (Some v) e =
          let g = found_text (collides t) ts v e in
          let same : canonical v ≡ b = same_texts f.0 v (h.apart f.0 v f.1 g.0) (collided t v g.1 ∙ sym f.2) ∙ f.3 in
          ap (option_map (λ u. Collision (canonical u) (canonical t))) e ∙ ap (λ c. Some (Collision c (canonical t))) same

-- ---- as texts are looked up, by the digest of bytes

module _ (es : List (List ℕ × List ℕ)) (t : TransactionValue)
    (bytes i : List ℕ) (is : i ≡ id_of bytes) (spelled : bytes ≡ canonical t) where
  id_is : i ≡ id t
  id_is = is ∙ ap id_of spelled

  pub seen_same : (ts : List TransactionValue) (first : List ℕ) → lookup (bytes_eq i) es ≡ Some first → bytes_eq first bytes ≡ true →
      AreTexts es ts → AreTexts es (ts ++ t ∷ [])
  seen_same ts first there same h =
      same_text es ts t h
      (ap (λ j. lookup (bytes_eq j) es) (sym id_is) ∙ there ∙ ap Some ((bytes_eq-Decides first bytes).0 same ∙ spelled))

  pub seen_other : (w : WatchValue) (first second : List ℕ) → second ≡ bytes → lookup (bytes_eq i) es ≡ Some first →
      bytes_eq first bytes ≡ false → AreTexts es w.texts → collision w t ≡ Some (Collision first second)
  seen_other w first second e there differs h =
      clash es w.texts t h first (ap (λ j. lookup (bytes_eq j) es) (sym id_is) ∙ there) (ap (bytes_eq first) (sym spelled) ∙ differs)
      ∙ ap (λ c. Some (Collision first c)) (sym spelled ∙ sym e)

  pub seen_new : (new : List (List ℕ × List ℕ)) (ts : List TransactionValue) → lookup (bytes_eq i) es ≡ None → new ≡ es ++ (i, bytes) ∷ [] →
      AreTexts es ts → AreTexts new (ts ++ t ∷ [])
  seen_new new ts none e h =
      subst (λ es. AreTexts es (ts ++ t ∷ [])) (sym (e ∙ ap (λ j. es ++ (j, bytes) ∷ []) id_is ∙ ap (λ c. es ++ (id t, c) ∷ []) spelled))
      (new_text es ts t h (ap (λ j. lookup (bytes_eq j) es) (sym id_is) ∙ none))
