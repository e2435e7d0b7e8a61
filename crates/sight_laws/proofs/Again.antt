-- A message that was seen shows nothing new.
use Rattle.std.proofs.Common.{◌≡◌, ℕ, Bool, true, false, cond, List, [], ◌∷◌, ◌++◌, map, Option, Some, None, refl, sym, ap, subst}
use Rattle.std.proofs.Common.{◌∙◌, ◌⊎◌, inl, inr}
use Rattle.std.specs.Prelude.{Contains, filter, find, option_map, ◌||◌}
use Rattle.std.specs.List.{list_any}
use Rattle.std.specs.Option.{option_or}
use Rattle.std.proofs.lemmas.List.{append-nil, append_assoc, map-append}
use Rattle.std.proofs.lemmas.List.Elements.{Contains-append_left, Contains-push_cases, filter-append}
use Rattle.std.proofs.lemmas.List.Folds.{find-append}
use Rattle.basil_types.proofs.KeyLaws.{bytes_same}
use Rattle.basil_types.proofs.MemberLaws.{filter_in, in_cases, in_filter, in_head, in_none, in_tail, map_in}
use Rattle.basil_types.specs.Built.{or_else}
use Rattle.basil_types.specs.declared.party.Decision.TheVariants.{Commit}
use Rattle.basil_types.specs.Transaction.{TransactionValue, canonical, id}
use Rattle.certificates.specs.Accepted.{Accepted}
use Rattle.client_recover.proofs.Walks.{firsts-push}
use Rattle.frame_views.specs.Carried.{paired, pairs_in}
use Rattle.frame_views.specs.Signed.{SignedBy}
use Rattle.frame_views.specs.Values.{PairValue}
use Rattle.node_steps.specs.Lists.{firsts, firsts_after}
use Rattle.premise_watch.specs.declared.broken.Broken.TheVariants.{Collision}
use Rattle.premise_watch.specs.Breaches.{WatchValue, after_marks, collides, collision, first_breach, forged, seen_text}
use Rattle.premise_watch.specs.Marks.{MarkValue, Signature, Text, marks}
use Rattle.premise_watch.specs.Texts.{AreApart, AreTexts, has_id}
use Rattle.cluster_run.specs.Headline.{proves}
use Rattle.cluster_run.specs.Parts.{is_proven}
use Rattle.cluster_run.specs.Telling.{is_pair_of, same_transaction}
use Rattle.sight_laws.specs.Seen.{SeenShowsNothing, committed_in}

-- ---- searches

missed : {X : Type 0} (p : X → Bool) (xs : List X) (x : X) → find p xs ≡ None → Contains xs x → p x ≡ false
missed p [] x h i = absurd (in_none x i)
missed {X} p (y ∷ ys) x h i = by (p y) refl h (λ k more. missed p ys x k more)
  where
    by : (b : Bool) → p y ≡ b → cond b (Some y) (find p ys) ≡ None → (find p ys ≡ None → Contains ys x → p x ≡ false) → p x ≡ false
    by true e k rest = absurd cc
    by false e k rest = elim (in_cases y ys x i) [
      | inl is ↦ ap p (sym is) ∙ e
      | inr more ↦ rest k more
    ]

none_found : {X : Type 0} (p : X → Bool) (xs : List X) → ((x : X) → Contains xs x → p x ≡ false) → find p xs ≡ None
none_found p [] h = refl
none_found p (x ∷ xs) h =
    ap (λ b. cond b (Some x) (find p xs)) (h x (in_head x xs)) ∙ none_found p xs (λ y i. h y (in_tail x xs y i))

-- one that stands among them already
find_again : {X : Type 0} (p : X → Bool) (xs : List X) (x : X) → Contains xs x → find p (xs ++ x ∷ []) ≡ find p xs
find_again {X} p xs x i = find-append p xs (x ∷ []) ∙ by (find p xs) refl
  where
    by : (o : Option X) → find p xs ≡ o → option_or o (find p (x ∷ [])) ≡ o
    by (Some y) e = refl
    by None e = ap (λ b. cond b (Some x) None) (missed p xs x e i)

in_before : {X : Type 0} (xs : List X) (x y : X) → Contains xs x → Contains (xs ++ x ∷ []) y → Contains xs y
in_before xs x y i h = elim (Contains-push_cases xs x y h) [
  | inl there ↦ there
  | inr is ↦ subst (Contains xs) is i
]

-- ---- texts

apart_again : (ts : List TransactionValue) (t : TransactionValue) → AreApart ts → Contains ts t → AreApart (ts ++ t ∷ [])
apart_again ts t h i a b j k = h a b (in_before ts t a i j) (in_before ts t b i k)

text_again : (es : List (List ℕ × List ℕ)) (ts : List TransactionValue) (t : TransactionValue) → AreTexts es ts → Contains ts t →
    AreTexts es (ts ++ t ∷ [])
text_again es ts t h i = record {
  first = λ x. h.first x ∙ sym (ap (option_map canonical) (find_again (has_id x) ts t i));
  apart = apart_again ts t h.apart i;
}

-- each of these transactions was seen
abbrev Were : List MarkValue → List TransactionValue → Type 0
Were ms ts = (t : TransactionValue) → Contains ms (Text t) → Contains ts t

were_more : (t : TransactionValue) (ms : List MarkValue) (ts : List TransactionValue) → Were (Text t ∷ ms) ts → Were ms (ts ++ t ∷ [])
were_more t ms ts h u i = Contains-append_left ts (t ∷ []) u (h u (in_tail (Text t) ms (Text u) i))

were_rest : (g : SignedBy) (ms : List MarkValue) (ts : List TransactionValue) → Were (Signature g ∷ ms) ts → Were ms ts
were_rest g ms ts h t i = h t (in_tail (Signature g) ms (Text t) i)

texts_again : (ms : List MarkValue) (w : WatchValue) (es : List (List ℕ × List ℕ)) → AreTexts es w.texts → Were ms w.texts →
    AreTexts es (after_marks w ms).texts
texts_again [] w es h were = h
texts_again (Signature g ∷ ms) w es h were = texts_again ms w es h (were_rest g ms w.texts were)
texts_again (Text t ∷ ms) w es h were =
    texts_again ms (seen_text w t) es (text_again es w.texts t h (were t (in_head (Text t) ms))) (were_more t ms w.texts were)

no_collision : (w : WatchValue) (t : TransactionValue) → AreApart w.texts → Contains w.texts t → collision w t ≡ None
no_collision w t h i =
    ap (option_map (λ (u : TransactionValue). Collision (canonical u) (canonical t)))
    (none_found (collides t) w.texts (λ u j. h t u i j))

nothing_broken : (A : Accepted) (ms : List MarkValue) (w : WatchValue) → AreApart w.texts → Were ms w.texts →
    ((g : SignedBy) → Contains ms (Signature g) → forged A w g ≡ None) → first_breach A w ms ≡ None
nothing_broken A [] w h were right = refl
nothing_broken A (Signature g ∷ ms) w h were right =
    ap (λ o. or_else o (first_breach A w ms)) (right g (in_head (Signature g) ms))
    ∙ nothing_broken A ms w h (were_rest g ms w.texts were) (λ f i. right f (in_tail (Signature g) ms (Signature f) i))
nothing_broken A (Text t ∷ ms) w h were right =
    let there = were t (in_head (Text t) ms) in
    ap (λ o. or_else o (first_breach A (seen_text w t) ms)) (no_collision w t h there)
    ∙ nothing_broken A ms (seen_text w t) (apart_again w.texts t h there) (were_more t ms w.texts were)
    (λ g i. right g (in_tail (Text t) ms (Signature g) i))

-- ---- pairs

-- one of some is like one of their firsts
like_first : {A : Type 0} (like : A → A → Bool) (before xs : List A) (x : A) → like x x ≡ true → Contains xs x →
    (list_any (like x) before || list_any (like x) (firsts_after like before xs)) ≡ true
like_first like before [] x same i = absurd (in_none x i)
like_first {A} like before (y ∷ ys) x same i =
    by (list_any (like y) before) refl (in_cases y ys x i) (λ more. like_first like before ys x same more)
    (λ more. like_first like (y ∷ before) ys x same more)
  where
    right : (a : Bool) → (a || true) ≡ true
    right true = refl
    right false = refl

    swap : (a b c : Bool) → ((a || b) || c) ≡ true → (b || (a || c)) ≡ true
    swap true true c h = refl
    swap true false c h = refl
    swap false b c h = h

    by : (b : Bool) → list_any (like y) before ≡ b → (y ≡ x) ⊎ Contains ys x →
        (Contains ys x → (list_any (like x) before || list_any (like x) (firsts_after like before ys)) ≡ true) →
        (Contains ys x → ((like x y || list_any (like x) before) || list_any (like x) (firsts_after like (y ∷ before) ys)) ≡ true) →
        (list_any (like x) before || list_any (like x)
        (cond b (firsts_after like before ys) (y ∷ firsts_after like (y ∷ before) ys))) ≡ true
    by true e (inl is) old new =
        ap (λ c. c || list_any (like x) (firsts_after like before ys)) (ap (λ z. list_any (like z) before) (sym is) ∙ e)
    by true e (inr more) old new = old more
    by false e (inl is) old new =
        ap (λ c. list_any (like x) before || (c || list_any (like x) (firsts_after like (y ∷ before) ys))) (ap (like x) is ∙ same)
        ∙ right (list_any (like x) before)
    by false e (inr more) old new =
        swap (like x y) (list_any (like x) before) (list_any (like x) (firsts_after like (y ∷ before) ys)) (new more)

firsts_again : (ts : List TransactionValue) (t : TransactionValue) → Contains ts t →
    firsts same_transaction (ts ++ t ∷ []) ≡ firsts same_transaction ts
firsts_again ts t i =
    firsts-push same_transaction ts t
    ∙ ap (λ b. firsts same_transaction ts ++ cond b [] (t ∷ [])) (like_first same_transaction [] ts t (bytes_same (id t)) i)
    ∙ append-nil (firsts same_transaction ts)

abbrev those : List PairValue → List TransactionValue
those pairs = map paired (filter (proves Commit) pairs)

committed_again : (pairs : List PairValue) (p : PairValue) → Contains pairs p → committed_in (pairs ++ p ∷ []) ≡ committed_in pairs
committed_again pairs p i =
    ap (firsts same_transaction)
    (ap (map paired) (filter-append (proves Commit) pairs (p ∷ []))
    ∙ map-append paired (filter (proves Commit) pairs) (filter (proves Commit) (p ∷ [])))
    ∙ by (proves Commit p) refl
  where
    by : (b : Bool) → proves Commit p ≡ b →
        firsts same_transaction (those pairs ++ map paired (cond b (p ∷ []) [])) ≡ firsts same_transaction (those pairs)
    by true e =
        firsts_again (those pairs) p.transaction
        (map_in paired (filter (proves Commit) pairs) p (filter_in (proves Commit) pairs p i e))
    by false e = ap (firsts same_transaction) (append-nil (those pairs))

-- pairs that stand among them already
pub decided_more : (named : List ℕ) (pairs more : List PairValue) → ((p : PairValue) → Contains more p → Contains pairs p) →
    find (is_pair_of named) (pairs ++ more) ≡ find (is_pair_of named) pairs
decided_more named pairs [] h = ap (find (is_pair_of named)) (append-nil pairs)
decided_more named pairs (p ∷ more) h =
    ap (find (is_pair_of named)) (sym (append_assoc pairs (p ∷ []) more))
    ∙ decided_more named (pairs ++ p ∷ []) more (λ q i. Contains-append_left pairs (p ∷ []) q (h q (in_tail p more q i)))
    ∙ find_again (is_pair_of named) pairs p (h p (in_head p more))

committed_more : (pairs more : List PairValue) → ((p : PairValue) → Contains more p → Contains pairs p) →
    committed_in (pairs ++ more) ≡ committed_in pairs
committed_more pairs [] h = ap committed_in (append-nil pairs)
committed_more pairs (p ∷ more) h =
    ap committed_in (sym (append_assoc pairs (p ∷ []) more))
    ∙ committed_more (pairs ++ p ∷ []) more (λ q i. Contains-append_left pairs (p ∷ []) q (h q (in_tail p more q i)))
    ∙ committed_again pairs p (h p (in_head p more))

pub seen_shows_nothing : SeenShowsNothing
seen_shows_nothing s watch certified m apart seen =
    let there : (p : PairValue) → Contains (filter (is_proven s) (pairs_in m)) p → Contains certified p =
    λ p i. let k = in_filter (is_proven s) (pairs_in m) p i in seen.pairs p k.0 k.1 in
    record {
      unbroken = nothing_broken s.kit.accepts (marks m) watch apart seen.texts seen.signed;
      texts = λ es h. texts_again (marks m) watch es h seen.texts;
      decided = λ named. decided_more named certified (filter (is_proven s) (pairs_in m)) there;
      committed = committed_more certified (filter (is_proven s) (pairs_in m)) there;
    }
