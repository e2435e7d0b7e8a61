-- Tallies of shards, one after the other.
use Rattle.std.proofs.Common.{◌≡◌, ◌∙◌, ℕ, zero, suc, ◌+◌, ◌≤◌, ◌<◌, Bool, true, false, cond, List, [], ◌∷◌, ◌++◌}
use Rattle.std.proofs.Common.{Option, Some, None, All, get_or, length, map, take, refl, sym, ap, subst, add-one, arith}
use Rattle.std.specs.Prelude.{find, slice_get}
use Rattle.std.specs.Option.{option_map_or}
use Rattle.std.proofs.lemmas.List.{length-map, map-append}
use Rattle.std.proofs.lemmas.List.Elements.{All-head, All-tail}
use Rattle.basil_types.specs.Lists.{AreItems}
use Rattle.basil_types.specs.Setting.{Setting}
use Rattle.basil_types.specs.Transaction.{TransactionValue}
use Rattle.frame_values.specs.declared.owned.parts.ShardVotes.{ShardVotes}
use Rattle.frame_values.specs.Owned.{tally_value}
use Rattle.frame_views.specs.Fitting.{FitsTallies, FitsTally, FitsVotes, after_tally, widest}
use Rattle.frame_views.specs.Values.{TallyValue}
use Rattle.txn_meta.specs.Places.{involved, marks_of, members_from}
use Rattle.faulty_parties.proofs.SentLaws.{take_found, take_past}

-- ---- the first that passes

pub found_first : {A : Type 0} (p : A → Bool) (xs : List A) (i : ℕ) (x : A) → find p (take i xs) ≡ None → slice_get xs i ≡ Some x →
    p x ≡ true → find p xs ≡ Some x
found_first p [] i x none at is = absurd cc
found_first p (y ∷ ys) zero x none at is =
    let same : y ≡ x = cc in
    ap (λ z. cond (p z) (Some z) (find p ys)) same ∙ ap (λ b. cond b (Some x) (find p ys)) is
found_first p (y ∷ ys) (suc i) x none at is = by (p y) none (λ k. found_first p ys i x k at is)
  where
    by : (b : Bool) → cond b (Some y) (find p (take i ys)) ≡ None → (find p (take i ys) ≡ None → find p ys ≡ Some x) →
        cond b (Some y) (find p ys) ≡ Some x
    by true k later = absurd cc
    by false k later = later k

-- ---- one more

module _ (f : ℕ → TallyValue) (shards : List ℕ) (place : ℕ) where
  pub next_tally : (shard : ℕ) (list new : List ShardVotes) (one : ShardVotes) → slice_get shards place ≡ Some shard →
      new ≡ list ++ one ∷ [] → tally_value one ≡ f shard → map tally_value list ≡ map f (take place shards) →
      map tally_value new ≡ map f (take (place + 1) shards)
  next_tally shard list new one at is same before =
      ap (map tally_value) is ∙ map-append tally_value list (one ∷ [])
      ∙ ap (λ l. l ++ tally_value one ∷ []) before ∙ ap (λ y. map f (take place shards) ++ y ∷ []) same
      ∙ sym (map-append f (take place shards) (shard ∷ []))
      ∙ ap (map f) (sym (ap (λ n. take n shards) (add-one place) ∙ take_found shards place shard (sym at)))

  pub no_tally : (list : List TallyValue) → slice_get shards place ≡ None → list ≡ map f (take place shards) →
      list ≡ map f (take (place + 1) shards)
  no_tally list at before =
      before ∙ ap (map f) (sym (ap (λ n. take n shards) (add-one place) ∙ take_past shards place (sym at)))

all_more : {A : Type 0} (P : A → Type 0) (xs : List A) (x : A) → All P xs → P x → All P (xs ++ x ∷ [])
all_more P [] x all one k d lt = by k lt
  where
    by : (k : ℕ) → k < 1 → P (get_or (x ∷ []) k d)
    by zero lt = one
    by (suc k) lt = absurd (omega (arith, lt))
all_more P (y ∷ ys) x all one zero d lt = All-head P y ys all
all_more P (y ∷ ys) x all one (suc k) d lt = all_more P ys x (All-tail P y ys all) one k d (omega (arith, lt))

pub fits_more : (list new : List ShardVotes) (one : ShardVotes) → new ≡ list ++ one ∷ [] →
    All (λ (t : TallyValue). FitsVotes widest t.votes) (map tally_value list) → FitsVotes widest (tally_value one).votes →
    All (λ (t : TallyValue). FitsVotes widest t.votes) (map tally_value new)
fits_more list new one is all fits =
    subst (All (λ (t : TallyValue). FitsVotes widest t.votes))
    (sym (ap (map tally_value) is ∙ map-append tally_value list (one ∷ [])))
    (all_more (λ (t : TallyValue). FitsVotes widest t.votes) (map tally_value list) (tally_value one) all fits)

pub all_kept : (list new : List ShardVotes) → new ≡ list →
    All (λ (t : TallyValue). FitsVotes widest t.votes) (map tally_value list) →
    All (λ (t : TallyValue). FitsVotes widest t.votes) (map tally_value new)
all_kept list new is all = subst (λ l. All (λ (t : TallyValue). FitsVotes widest t.votes) (map tally_value l)) (sym is) all

-- ---- one shard, or none

pub one_shard : (f : ℕ → TallyValue) (o : Option ℕ) (shard : ℕ) (list new : List ShardVotes) (one : ShardVotes) → Some shard ≡ o →
    list ≡ [] → new ≡ list ++ one ∷ [] → tally_value one ≡ f shard →
    map tally_value new ≡ option_map_or (λ s. f s ∷ []) o []
one_shard f o shard list new one e none is same =
    ap (map tally_value) (is ∙ ap (λ l. l ++ one ∷ []) none) ∙ ap (λ y. y ∷ []) same
    ∙ ap (λ k. option_map_or (λ s. f s ∷ []) k []) e

pub no_shard : (f : ℕ → TallyValue) (o : Option ℕ) (list new : List ShardVotes) → None ≡ o → list ≡ [] → new ≡ list →
    map tally_value new ≡ option_map_or (λ s. f s ∷ []) o []
no_shard f o list new e none is =
    ap (map tally_value) (is ∙ none) ∙ ap (λ k. option_map_or (λ s. f s ∷ []) k []) e

-- ---- ascending shards

abbrev IsShard : ℕ → ℕ → Type 0
IsShard floor s = (floor ≤ s) × (s < 8)

abbrev after_shard : ℕ → ℕ
after_shard s = s + 1

marked : (marks : List Bool) (from floor : ℕ) → floor ≤ from → from + length marks ≤ 8 →
    AreItems IsShard after_shard floor (members_from from marks)
marked [] from floor h k = tt
marked (true ∷ marks) from floor h k =
    ((h, omega (arith, k)), marked marks (from + 1) (from + 1) (omega arith) (omega (arith, k)))
marked (false ∷ marks) from floor h k = marked marks (from + 1) floor (omega (arith, h)) (omega (arith, k))

eight : (marks : List Bool) → length marks ≡ 8 → AreItems IsShard after_shard 0 (members_from 0 marks)
eight marks e = marked marks 0 0 (omega arith) (omega (arith, e))

few_shards : (shards : List ℕ) (floor : ℕ) → floor ≤ 8 → AreItems IsShard after_shard floor shards → floor + length shards ≤ 8
few_shards [] floor h are = omega (arith, h)
few_shards (s ∷ ss) floor h are = omega (arith, are.0.0, few_shards ss (s + 1) (omega (arith, are.0.1)) are.1)

tallies_items : (f : ℕ → TallyValue) → ((s : ℕ) → (f s).shard ≡ s) → (shards : List ℕ) (floor : ℕ) →
    AreItems IsShard after_shard floor shards → All (λ (t : TallyValue). FitsVotes widest t.votes) (map f shards) →
    AreItems (FitsTally widest) after_tally floor (map f shards)
tallies_items f of [] floor are all = tt
tallies_items f of (s ∷ ss) floor are all =
    let same = of s in (
      record {
        above = omega (arith, same, are.0.0);
        below = omega (arith, same, are.0.1);
        votes = All-head (λ (t : TallyValue). FitsVotes widest t.votes) (f s) (map f ss) all;
      },
      subst (λ n. AreItems (FitsTally widest) after_tally n (map f ss)) (ap (λ k. k + 1) (sym same))
          (tallies_items f of ss (s + 1) are.1 (All-tail (λ (t : TallyValue). FitsVotes widest t.votes) (f s) (map f ss) all)),
    )

pub tallies_fit : (c : Setting) (t : TransactionValue) (f : ℕ → TallyValue) → ((s : ℕ) → (f s).shard ≡ s) →
    (list : List TallyValue) → list ≡ map f (involved c t) → All (λ (t : TallyValue). FitsVotes widest t.votes) list →
    FitsTallies widest list
tallies_fit c t f of list is all =
    let shards = involved c t in
    let are = eight (marks_of c t) refl in
    subst (FitsTallies widest) (sym is)
    (record {
      count = omega (arith, length-map shards f, few_shards shards 0 (omega arith) are);
      each = tallies_items f of shards 0 are (subst (All (λ (t : TallyValue). FitsVotes widest t.votes)) is all);
    })

pub one_fits : (t : TallyValue) → t.shard < 256 → FitsVotes widest t.votes → FitsTallies widest (t ∷ [])
one_fits t small fits = record { count = omega arith; each = (record { above = omega arith; below = small; votes = fits }, tt) }

pub none_fit : FitsTallies widest []
none_fit = record { count = omega arith; each = tt }
