-- The eight shards that a cluster may have.
use Rattle.std.proofs.Common.{◌≡◌, ℕ, zero, suc, ◌+◌, ◌<◌, ◌≤◌, ◌==◌, Bool, true, false, cond, not, ◌||◌, ◌&&◌, List, [], ◌∷◌, length, drop}
use Rattle.std.proofs.Common.{set, Option, None, Some, refl, sym, ap, ◌∙◌, subst, arith, inl, inr, ◌%◌, sum}
use Rattle.std.specs.Prelude.{find, slice_get, option_map}
use Rattle.std.specs.List.{list_any}
use Rattle.std.proofs.lemmas.Bool.{cases_eq, cases_lt, eq-eqb, eqb-true, ne_eqb}
use Rattle.std.proofs.Common.{get_or-set_same, get_or-set_other}
use Rattle.basil_types.specs.Setting.{Setting, IsSetting}
use Rattle.basil_types.specs.declared.transaction.parts.ReadPart.{ReadPart}
use Rattle.basil_types.specs.declared.transaction.parts.WritePart.{WritePart}
use Rattle.basil_types.specs.Transaction.{TransactionValue}
use Rattle.txn_meta.specs.Form.{form_fault}
use Rattle.basil_types.specs.Built.{or_else}
use Rattle.basil_types.specs.Lists.{AreItems}
use Rattle.frame_views.specs.declared.bounds.Bounds.{Bounds}
use Rattle.frame_views.specs.Fitting.{FitsTally, after_tally, bounds_of}
use Rattle.frame_views.specs.Values.{TallyValue}
use Rattle.txn_meta.specs.Places.{log_shard, shard_of, involves, involved, marks_of, is_marked}
use Rattle.txn_meta.proofs.MemberLaws.{some_involved}
use Rattle.certificates.specs.declared.refusal.CertRefusal.TheVariants.{NotInvolved}
use Rattle.certificates.specs.Refusals.{all_shards, stray, stray_logged, stray_listed, stray_alone}
use Rattle.certificates.specs.Tallies.{lists, ListsInvolved}
use Rattle.certificates.proofs.PairLaws.{not_empty}

pub drop_shard : (s : ℕ) → s < 8 → drop s all_shards ≡ s ∷ drop (s + 1) all_shards
drop_shard zero h = refl
drop_shard (suc zero) h = refl
drop_shard (suc (suc zero)) h = refl
drop_shard (suc (suc (suc zero))) h = refl
drop_shard (suc (suc (suc (suc zero)))) h = refl
drop_shard (suc (suc (suc (suc (suc zero))))) h = refl
drop_shard (suc (suc (suc (suc (suc (suc zero)))))) h = refl
drop_shard (suc (suc (suc (suc (suc (suc (suc zero))))))) h = refl
drop_shard (suc (suc (suc (suc (suc (suc (suc (suc s)))))))) h = absurd (omega arith)

drop_past : (s : ℕ) → 8 ≤ s → drop s all_shards ≡ []
drop_past (suc (suc (suc (suc (suc (suc (suc (suc zero)))))))) h = refl
drop_past (suc (suc (suc (suc (suc (suc (suc (suc (suc s))))))))) h = refl
drop_past s h = absurd (omega arith)

-- ---- the least shard that passes, by a walk from 0

pub find_here : (p : ℕ → Bool) (s : ℕ) → s < 8 → p s ≡ true → find p (drop s all_shards) ≡ Some s
find_here p s h e = ap (find p) (drop_shard s h) ∙ ap (λ b. cond b (Some s) (find p (drop (s + 1) all_shards))) e

pub find_later : (p : ℕ → Bool) (s : ℕ) → s < 8 → p s ≡ false → find p (drop s all_shards) ≡ find p (drop (s + 1) all_shards)
find_later p s h e = ap (find p) (drop_shard s h) ∙ ap (λ b. cond b (Some s) (find p (drop (s + 1) all_shards))) e

pub find_past : (p : ℕ → Bool) (s : ℕ) → 8 ≤ s → find p (drop s all_shards) ≡ None
find_past p s h = ap (find p) (drop_past s h)

-- tests that agree on the eight find the same
find_same_from : (p q : ℕ → Bool) → ((s : ℕ) → s < 8 → p s ≡ q s) → (k s : ℕ) → s + k ≡ 8
    → find p (drop s all_shards) ≡ find q (drop s all_shards)
find_same_from p q h zero s e = find_past p s (omega arith) ∙ sym (find_past q s (omega arith))
find_same_from p q h (suc k) s e =
    let low : s < 8 = omega arith in
    ap (find p) (drop_shard s low)
    ∙ ap (λ b. cond b (Some s) (find p (drop (s + 1) all_shards))) (h s low)
    ∙ ap (cond (q s) (Some s)) (find_same_from p q h k (s + 1) (omega arith))
    ∙ sym (ap (find q) (drop_shard s low))

pub find_same : (p q : ℕ → Bool) → ((s : ℕ) → s < 8 → p s ≡ q s) → find p all_shards ≡ find q all_shards
find_same p q h = find_same_from p q h 8 0 refl

-- ---- marks

pub marked_involved : (c : Setting) (t : TransactionValue) (s : ℕ) → s < 8 → is_marked (marks_of c t) s ≡ involves c t s
marked_involved c t zero h = refl
marked_involved c t (suc zero) h = refl
marked_involved c t (suc (suc zero)) h = refl
marked_involved c t (suc (suc (suc zero))) h = refl
marked_involved c t (suc (suc (suc (suc zero)))) h = refl
marked_involved c t (suc (suc (suc (suc (suc zero))))) h = refl
marked_involved c t (suc (suc (suc (suc (suc (suc zero)))))) h = refl
marked_involved c t (suc (suc (suc (suc (suc (suc (suc zero))))))) h = refl
marked_involved c t (suc (suc (suc (suc (suc (suc (suc (suc s)))))))) h = absurd (omega arith)

-- one mark more
pub marked_more : (marks : List Bool) (shard s : ℕ) → shard < length marks
    → is_marked (set marks shard true) s ≡ ((shard == s) || is_marked marks s)
marked_more marks shard s h = elim (cases_eq shard s) [
  | inl e ↦ subst (λ (k : ℕ). is_marked (set marks shard true) k ≡ ((shard == k) || is_marked marks k)) e
      (get_or-set_same marks shard true false h ∙ sym (ap (λ b. b || is_marked marks shard) (eq-eqb shard shard refl)))
  | inr e ↦ get_or-set_other marks shard s true false (λ k. e (sym k)) ∙ sym (ap (λ b. b || is_marked marks s) (ne_eqb shard s e))
]

pub moved : (a b x y : Bool) → ((b || (a || x)) ≡ y) → (((a || b) || x) ≡ y)
moved true true x y h = h
moved true false x y h = h
moved false true x y h = h
moved false false x y h = h

-- ---- no shard above those of the cluster is involved

none_above : {X : Type 0} (key : X → List ℕ) (n s : ℕ) (xs : List X) → 0 < n → n ≤ s → list_any (λ x. (sum (key x) % n) == s) xs ≡ false
none_above key n s [] h k = refl
none_above key n s (x ∷ xs) h k = rw (ne_eqb (sum (key x) % n) s (λ e. omega arith)) (none_above key n s xs h k)

pub involves_above : (c : Setting) (t : TransactionValue) (s : ℕ) → IsSetting c → c.shards ≤ s → involves c t s ≡ false
involves_above c t s i h =
    ap (λ b. b || list_any (λ (w : WritePart). shard_of c w.key == s) t.writes)
    (none_above (λ (r : ReadPart). r.key) c.shards s t.reads (omega (arith, i.some)) h)
    ∙ none_above (λ (w : WritePart). w.key) c.shards s t.writes (omega (arith, i.some)) h

past_eight : (c : Setting) (t : TransactionValue) (s : ℕ) → 8 ≤ s → is_marked (marks_of c t) s ≡ false
past_eight c t (suc (suc (suc (suc (suc (suc (suc (suc s)))))))) h = refl
past_eight c t s h = absurd (omega arith)

pub marked_as_involved : (c : Setting) (t : TransactionValue) (s : ℕ) → IsSetting c → is_marked (marks_of c t) s ≡ involves c t s
marked_as_involved c t s i = elim (cases_lt s 8) [
  | inl h ↦ marked_involved c t s h
  | inr h ↦ past_eight c t s h ∙ sym (involves_above c t s i (omega (arith, i.few)))
]

no_first : (xs : List ℕ) → 0 < length xs → slice_get xs 0 ≡ None → ⊥
no_first [] h e = absurd (omega arith)
no_first (x ∷ xs) h e = absurd cc

pub some_first : (c : Setting) (t : TransactionValue) → IsSetting c → form_fault t ≡ None → slice_get (involved c t) 0 ≡ None → ⊥
some_first c t i f e = no_first (involved c t) (some_involved c t (omega (arith, i.some)) (omega (arith, i.few)) (not_empty t f)) e

-- ---- the shards listed are exactly the involved ones

found_none : (p : ℕ → Bool) (x : ℕ) (xs : List ℕ) → find p (x ∷ xs) ≡ None → (p x ≡ false) × (find p xs ≡ None)
found_none p x xs h = by (p x) h where
  by : (b : Bool) → cond b (Some x) (find p xs) ≡ None → (b ≡ false) × (find p xs ≡ None)
  by true e = absurd cc
  by false e = (refl, e)

none_found_from : (p : ℕ → Bool) (k s : ℕ) → s + k ≡ 8 → find p (drop s all_shards) ≡ None → (j : ℕ) → s ≤ j → j < 8 → p j ≡ false
none_found_from p zero s e h j l m = absurd (omega arith)
none_found_from p (suc k) s e h j l m =
    let parts = found_none p s (drop (s + 1) all_shards) (sym (ap (find p) (drop_shard s (omega arith))) ∙ h) in
    elim (cases_eq s j) [
      | inl same ↦ subst (λ (i : ℕ). p i ≡ false) same parts.0
      | inr other ↦ none_found_from p k (s + 1) (omega arith) parts.1 j (omega arith) m
    ]

pub none_found : (p : ℕ → Bool) → find p all_shards ≡ None → (j : ℕ) → j < 8 → p j ≡ false
none_found p h j m = none_found_from p 8 0 refl h j (omega arith) m

found_nowhere : (p : ℕ → Bool) (xs : List ℕ) → ((s : ℕ) → p s ≡ false) → find p xs ≡ None
found_nowhere p [] h = refl
found_nowhere p (x ∷ xs) h = ap (λ b. cond b (Some x) (find p xs)) (h x) ∙ found_nowhere p xs h

both_ways : (a b : Bool) → (a && not b) ≡ false → (b && not a) ≡ false → a ≡ b
both_ways true true h k = refl
both_ways true false h k = absurd cc
both_ways false true h k = absurd cc
both_ways false false h k = refl

neither : (a b : Bool) → a ≡ b → (a && not b) ≡ false
neither true true h = refl
neither true false h = absurd cc
neither false b h = refl

listed_low : (b : Bounds) (floor s : ℕ) (tallies : List TallyValue) → AreItems (FitsTally b) after_tally floor tallies → b.shards ≤ s
    → lists tallies s ≡ false
listed_low b floor s [] h k = refl
listed_low b floor s (t ∷ ts) h k =
    let low : t.shard < b.shards = h.0.below in
    rw (ne_eqb t.shard s (λ e. omega arith)) (listed_low b (t.shard + 1) s ts h.1 k)

no_refusal : (o : Option ℕ) → option_map NotInvolved o ≡ None → o ≡ None
no_refusal None h = refl
no_refusal (Some s) h = absurd cc

first_none : (o p : Option ℕ) → or_else o p ≡ None → (o ≡ None) × (p ≡ None)
first_none None p h = (refl, h)
first_none (Some s) p h = absurd cc

pub listed_exactly : (c : Setting) (t : TransactionValue) (tallies : List TallyValue) → IsSetting c
    → AreItems (FitsTally (bounds_of c)) after_tally 0 tallies → stray_listed c t tallies ≡ None → ListsInvolved c t tallies
listed_exactly c t tallies i fits h =
    let parts = first_none (find (λ s. lists tallies s && not (involves c t s)) all_shards)
    (find (λ s. involves c t s && not (lists tallies s)) all_shards) (no_refusal _ h) in
    λ s. elim (cases_lt s 8) [
      | inl low ↦ both_ways (lists tallies s) (involves c t s) (none_found (λ s. lists tallies s && not (involves c t s)) parts.0 s low)
          (none_found (λ s. involves c t s && not (lists tallies s)) parts.1 s low)
      | inr high ↦ listed_low (bounds_of c) 0 s tallies fits (omega (arith, i.few)) ∙ sym (involves_above c t s i (omega (arith, i.few)))
    ]

pub none_stray : (c : Setting) (t : TransactionValue) (tallies : List TallyValue) → ListsInvolved c t tallies
    → stray_listed c t tallies ≡ None
none_stray c t tallies h =
    ap (λ o. option_map NotInvolved (or_else o (find (λ s. involves c t s && not (lists tallies s)) all_shards)))
    (found_nowhere (λ s. lists tallies s && not (involves c t s)) all_shards (λ s. neither (lists tallies s) (involves c t s) (h s)))
    ∙ ap (option_map NotInvolved) (found_nowhere (λ s. involves c t s && not (lists tallies s)) all_shards
    (λ s. neither (involves c t s) (lists tallies s) (sym (h s))))

-- ---- one shard

pub is_involved : (c : Setting) (t : TransactionValue) (s : ℕ) → stray c t s ≡ None → involves c t s ≡ true
is_involved c t s h = by (involves c t s) h where
  by : (b : Bool) → cond b None (Some (NotInvolved s)) ≡ None → b ≡ true
  by true e = refl
  by false e = absurd cc

pub not_stray : (c : Setting) (t : TransactionValue) (s : ℕ) → involves c t s ≡ true → stray c t s ≡ None
not_stray c t s h = ap (λ b. cond b None (Some (NotInvolved s))) h

pub is_log_shard : (c : Setting) (t : TransactionValue) (s : ℕ) → stray_logged c t s ≡ None → s ≡ log_shard c t
is_log_shard c t s h = by (s == log_shard c t) refl h where
  by : (b : Bool) → (s == log_shard c t) ≡ b → cond b None (Some (NotInvolved s)) ≡ None → s ≡ log_shard c t
  by true e h = eqb-true s (log_shard c t) e
  by false e h = absurd cc

pub not_stray_logged : (c : Setting) (t : TransactionValue) (s : ℕ) → s ≡ log_shard c t → stray_logged c t s ≡ None
not_stray_logged c t s h = ap (λ b. cond b None (Some (NotInvolved s))) (eq-eqb s (log_shard c t) h)

pub one_alone : (c : Setting) (t : TransactionValue) (tallies : List TallyValue) → IsSetting c → form_fault t ≡ None
    → stray_alone c t tallies ≡ None → (tally : TallyValue) × (tallies ≡ tally ∷ []) × (involves c t tally.shard ≡ true)
one_alone c t [] i f h = absurd (some_first c t i f (no_refusal _ h))
one_alone c t (tally ∷ []) i f h = (tally, refl, is_involved c t tally.shard h)
one_alone c t (tally ∷ other ∷ rest) i f h = absurd cc
