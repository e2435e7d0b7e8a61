-- What is kept of pairs, with one pair more.
use Rattle.std.proofs.Common.{◌≡◌, ℕ, Bool, true, false, cond, List, [], ◌∷◌, ◌++◌, map, Option, Some, None, refl, sym, ap, ◌∙◌}
use Rattle.std.specs.Prelude.{◌&&◌, ◌||◌, filter, find, is_some, option_map}
use Rattle.std.specs.List.{list_any}
use Rattle.std.specs.Map.{lookup}
use Rattle.std.specs.Option.{option_or}
use Rattle.std.specs.Str.{bytes_eq}
use Rattle.std.proofs.lemmas.List.{append-nil, map-append}
use Rattle.std.proofs.lemmas.List.Elements.{filter-append}
use Rattle.std.proofs.lemmas.List.Folds.{find-append}
use Rattle.sight_laws.specs.Seen.{committed_in}
use Rattle.basil_types.proofs.KeyLaws.{bytes_same, bytes_tell}
use Rattle.basil_types.specs.Decision.{is_abort, same_decision}
use Rattle.basil_types.specs.declared.party.Decision.{Decision}
use Rattle.basil_types.specs.declared.party.Decision.TheVariants.{Commit, Abort}
use Rattle.basil_types.specs.Transaction.{TransactionValue, id}
use Rattle.certificates.specs.Refusals.{decision_of}
use Rattle.client_recover.proofs.Walks.{firsts-push}
use Rattle.frame_views.specs.Carried.{paired}
use Rattle.frame_views.specs.Values.{PairValue}
use Rattle.node_steps.specs.Lists.{firsts}
use Rattle.cluster_run.specs.Headline.{proves}
use Rattle.cluster_run.specs.Telling.{is_pair_of, same_transaction}
use Rattle.run_sight.specs.Keeping.{AreKept, Commits, Decisions, by_id, decision_in, has, with_first}

-- ---- look-ups

lookup_push : {X : Type 0} (test : List ℕ → Bool) (es : List (List ℕ × X)) (k : List ℕ) (v : X) →
    lookup test (es ++ (k, v) ∷ []) ≡ option_or (lookup test es) (cond (test k) (Some v) None)
lookup_push test [] k v = refl
lookup_push {X} test (e ∷ es) k v = by (lookup_push test es k v) (test e.0)
  where
    by : lookup test (es ++ (k, v) ∷ []) ≡ option_or (lookup test es) (cond (test k) (Some v) None) → (b : Bool) →
        cond b (Some e.1) (lookup test (es ++ (k, v) ∷ []))
        ≡ option_or (cond b (Some e.1) (lookup test es)) (cond (test k) (Some v) None)
    by next true = refl
    by next false = next

turned : (a b : List ℕ) → bytes_eq a b ≡ bytes_eq b a
turned a b = by (bytes_eq a b) refl
  where
    no : bytes_eq a b ≡ false → (r : Bool) → bytes_eq b a ≡ r → bytes_eq b a ≡ false
    no e true h = absurd (let t : bytes_eq a b ≡ true = ap (bytes_eq a) (bytes_tell b a h) ∙ bytes_same a in cc)
    no e false h = h

    by : (r : Bool) → bytes_eq a b ≡ r → bytes_eq a b ≡ bytes_eq b a
    by true e = e ∙ sym (ap (bytes_eq b) (bytes_tell a b e) ∙ bytes_same b)
    by false e = e ∙ sym (no e (bytes_eq b a) refl)

or_none : {X : Type 0} (o : Option X) → o ≡ option_or o None
or_none None = refl
or_none (Some x) = refl

map_or : {X Y : Type 0} (f : X → Y) (o p : Option X) → option_map f (option_or o p) ≡ option_or (option_map f o) (option_map f p)
map_or f None p = refl
map_or f (Some x) p = refl

map_cond : {X Y : Type 0} (f : X → Y) (b : Bool) (x : X) → option_map f (cond b (Some x) None) ≡ cond b (Some (f x)) None
map_cond f true x = refl
map_cond f false x = refl

-- ---- decisions

abbrev pub named_by : PairValue → Decision
named_by p = decision_of p.certificate.body

decision_push : (named : List ℕ) (pairs : List PairValue) (p : PairValue) →
    decision_in (pairs ++ p ∷ []) named ≡ option_or (decision_in pairs named) (cond (is_pair_of named p) (Some (named_by p)) None)
decision_push named pairs p =
    ap (option_map named_by) (find-append (is_pair_of named) pairs (p ∷ []))
    ∙ map_or named_by (find (is_pair_of named) pairs) (find (is_pair_of named) (p ∷ []))
    ∙ ap (option_or (decision_in pairs named)) (map_cond named_by (is_pair_of named p) p)

module _ (ds : Decisions) (pairs : List PairValue) (p : PairValue)
    (h : (named : List ℕ) → lookup (bytes_eq named) ds ≡ decision_in pairs named) (named : List ℕ) where
  abbrev More : Decisions → Type 0
  More new = lookup (bytes_eq named) new ≡ decision_in (pairs ++ p ∷ []) named

  known : (d : Decision) → lookup (bytes_eq (id p.transaction)) ds ≡ Some d → (b : Bool) → is_pair_of named p ≡ b →
      decision_in pairs named ≡ option_or (decision_in pairs named) (cond (is_pair_of named p) (Some (named_by p)) None)
  known d e true k =
      let there : decision_in pairs named ≡ Some d =
      sym (h named) ∙ ap (λ i. lookup (bytes_eq i) ds) (sym (bytes_tell (id p.transaction) named k)) ∙ e in
      there ∙ ap (λ o. option_or o (cond (is_pair_of named p) (Some (named_by p)) None)) (sym there)
  known d e false k =
      or_none (decision_in pairs named)
      ∙ ap (λ b. option_or (decision_in pairs named) (cond b (Some (named_by p)) None)) (sym k)

  decided_more : More (with_first ds (id p.transaction) (named_by p))
  decided_more = by (lookup (bytes_eq (id p.transaction)) ds) refl
    where
      by : (o : Option Decision) → lookup (bytes_eq (id p.transaction)) ds ≡ o →
          More (cond (is_some o) ds (ds ++ (id p.transaction, named_by p) ∷ []))
      by None e =
          lookup_push (bytes_eq named) ds (id p.transaction) (named_by p)
          ∙ ap (λ o. option_or o (cond (bytes_eq named (id p.transaction)) (Some (named_by p)) None)) (h named)
          ∙ ap (λ b. option_or (decision_in pairs named) (cond b (Some (named_by p)) None)) (turned named (id p.transaction))
          ∙ sym (decision_push named pairs p)
      by (Some d) e = h named ∙ known d e (is_pair_of named p) refl ∙ sym (decision_push named pairs p)

-- ---- committed transactions

has_by_id : (i : List ℕ) (ts : List TransactionValue) → has (map by_id ts) i ≡ list_any (λ t. bytes_eq i (id t)) ts
has_by_id i [] = refl
has_by_id i (t ∷ ts) = by (bytes_eq i (id t)) (has_by_id i ts)
  where
    by : (b : Bool) → has (map by_id ts) i ≡ list_any (λ t. bytes_eq i (id t)) ts →
        is_some (cond b (Some t) (lookup (bytes_eq i) (map by_id ts))) ≡ (b || list_any (λ t. bytes_eq i (id t)) ts)
    by true e = refl
    by false e = e

-- one more that commits
put_commit : (ts : List TransactionValue) (t : TransactionValue) →
    with_first (map by_id (firsts same_transaction ts)) (id t) t ≡ map by_id (firsts same_transaction (ts ++ t ∷ []))
put_commit ts t =
    by (has (map by_id known) (id t)) (has_by_id (id t) known)
    ∙ ap (map by_id) (sym (firsts-push same_transaction ts t))
  where
    known : List TransactionValue
    known = firsts same_transaction ts

    on : (b : Bool) → cond b (map by_id known) (map by_id known ++ (id t, t) ∷ []) ≡ map by_id (known ++ cond b [] (t ∷ []))
    on true = ap (map by_id) (sym (append-nil known))
    on false = sym (map-append by_id known (t ∷ []))

    by : (b : Bool) → b ≡ list_any (same_transaction t) known →
        cond b (map by_id known) (map by_id known ++ (id t, t) ∷ [])
        ≡ map by_id (known ++ cond (list_any (same_transaction t) known) [] (t ∷ []))
    by b e = on b ∙ ap (λ c. map by_id (known ++ cond c [] (t ∷ []))) e

abbrev those : List PairValue → List TransactionValue
those pairs = map paired (filter (proves Commit) pairs)

those_push : (pairs : List PairValue) (p : PairValue) →
    those (pairs ++ p ∷ []) ≡ those pairs ++ map paired (filter (proves Commit) (p ∷ []))
those_push pairs p =
    ap (map paired) (filter-append (proves Commit) pairs (p ∷ []))
    ∙ map-append paired (filter (proves Commit) pairs) (filter (proves Commit) (p ∷ []))

module _ (cs : Commits) (pairs : List PairValue) (p : PairValue) (h : cs ≡ map by_id (committed_in pairs)) where
  commits_more : named_by p ≡ Commit → with_first cs (id p.transaction) p.transaction ≡ map by_id (committed_in (pairs ++ p ∷ []))
  commits_more e =
      ap (λ es. with_first es (id p.transaction) p.transaction) h
      ∙ put_commit (those pairs) p.transaction
      ∙ ap (λ ts. map by_id (firsts same_transaction ts)) (sym (those_push pairs p
      ∙ ap (λ b. those pairs ++ map paired (cond b (p ∷ []) []))
      (ap (λ d. same_decision d Commit) e)))

  commits_same : named_by p ≡ Abort → cs ≡ map by_id (committed_in (pairs ++ p ∷ []))
  commits_same e =
      h ∙ ap (λ ts. map by_id (firsts same_transaction ts)) (sym (those_push pairs p
      ∙ ap (λ b. those pairs ++ map paired (cond b (p ∷ []) []))
      (ap (λ d. same_decision d Commit) e) ∙ append-nil (those pairs)))

-- ---- both

module _ (ds : Decisions) (cs : Commits) (pairs : List PairValue) (p : PairValue) (h : AreKept ds cs pairs) where
  -- a pair is kept
  pub kept_more : (new : Decisions) (commits : Commits) → new ≡ with_first ds (id p.transaction) (named_by p) →
      (named_by p ≡ Commit → commits ≡ with_first cs (id p.transaction) p.transaction) → (named_by p ≡ Abort → commits ≡ cs) →
      AreKept new commits (pairs ++ p ∷ [])
  kept_more new commits d c a = record {
    decided = λ named. ap (lookup (bytes_eq named)) d ∙ decided_more ds pairs p h.decided named;
    committed = by (named_by p) refl;
  }
    where
      by : (x : Decision) → named_by p ≡ x → commits ≡ map by_id (committed_in (pairs ++ p ∷ []))
      by Commit e = c e ∙ commits_more cs pairs p h.committed e
      by Abort e = a e ∙ commits_same cs pairs p h.committed e

  there : {X : Type 0} (es : List (List ℕ × X)) (i : List ℕ) (x : X) → has es i ≡ true → es ≡ with_first es i x
  there es i x e = ap (λ b. cond b es (es ++ (i, x) ∷ [])) (sym e)

  -- a pair that tells nothing new
  pub kept_same : (has ds (id p.transaction) && (is_abort (named_by p) || has cs (id p.transaction))) ≡ true →
      AreKept ds cs (pairs ++ p ∷ [])
  kept_same e =
      kept_more ds cs (there ds (id p.transaction) (named_by p) (left (has ds (id p.transaction)) _ e))
      (λ k. there cs (id p.transaction) p.transaction (found (named_by p) k (right (has ds (id p.transaction)) _ e)))
      (λ k. refl)
    where
      left : (a b : Bool) → (a && b) ≡ true → a ≡ true
      left true b e = refl
      left false b e = e

      right : (a b : Bool) → (a && b) ≡ true → b ≡ true
      right true b e = e
      right false b e = absurd cc

      found : (d : Decision) → d ≡ Commit → (is_abort d || has cs (id p.transaction)) ≡ true → has cs (id p.transaction) ≡ true
      found Commit k e = e
      found Abort k e = absurd cc

-- ---- what is written

-- an entry whose id had none
pub put_first : {X : Type 0} (es new : List (List ℕ × X)) (i : List ℕ) (x : X) (r : Bool) → r ≡ has es i → r ≡ false →
    (lookup (bytes_eq i) es ≡ None → new ≡ es ++ (i, x) ∷ []) → new ≡ with_first es i x
put_first {X} es new i x r e f put =
    put (none (lookup (bytes_eq i) es) (sym e ∙ f)) ∙ ap (λ b. cond b es (es ++ (i, x) ∷ [])) (sym (sym e ∙ f))
  where
    none : (o : Option X) → is_some o ≡ false → o ≡ None
    none None e = refl
    none (Some x) e = absurd cc
