-- What a stop might have left.
use Rattle.std.proofs.Common.{◌≡◌, ℕ, ◌≤◌, ◌<◌, ◌⊎◌, List, [], ◌∷◌, ◌++◌, length, get_or, refl, sym, ap, subst, ◌∙◌, inl, inr}
use Rattle.std.proofs.Common.{length-append, arith}
use Rattle.std.proofs.lemmas.List.{nil_from_length}
use Rattle.journal_disk.specs.Disk.{Change, Wrote, Kept, DiskState, IsTorn, MayLeave, MightLeave, IsOutside, keeps}
use Rattle.journal_records.specs.Journal.{Holds, HoldsEither, HoldsForGood, IsKept, LosesNone}
use Rattle.journal_records.specs.Laws.{StopsDivide}

-- where nothing was done since
pub might-none : (past : List Change) (left : List ℕ) → MightLeave past past left → MayLeave past left
might-none past left m =
    let long = ap length m.since ∙ length-append m.later (m.sooner ++ past) in
    let none : length m.sooner ≡ 0 = omega (arith, long, length-append m.sooner past) in
    subst (λ (s : List Change). MayLeave (s ++ past) left) (nil_from_length m.sooner none) m.leaves

might-by : (then_past now_past : List Change) (x : Change) (left : List ℕ) (later sooner : List Change) →
    x ∷ now_past ≡ later ++ (sooner ++ then_past) → MayLeave (sooner ++ then_past) left
    → MayLeave (x ∷ now_past) left ⊎ MightLeave then_past now_past left
might-by then_past now_past x left [] sooner since leaves = inl (subst (λ (p : List Change). MayLeave p left) (sym since) leaves)
might-by then_past now_past x left (y ∷ later) sooner since leaves =
    inr (record { later = later; sooner = sooner; since = cc; leaves = leaves })

-- a stop now, or one before the last change
pub might-more : (then_past now_past : List Change) (x : Change) (left : List ℕ) → MightLeave then_past (x ∷ now_past) left
    → MayLeave (x ∷ now_past) left ⊎ MightLeave then_past now_past left
might-more then_past now_past x left m = might-by then_past now_past x left m.later m.sooner m.since m.leaves

-- what a stop might have left since some moment, it might have left before a later one, or since then
divided : (then_past middle_past : List Change) (left : List ℕ) (since : List Change) → MightLeave then_past (since ++ middle_past) left
    → MightLeave then_past middle_past left ⊎ MightLeave middle_past (since ++ middle_past) left
divided then_past middle_past left [] m = inl m
divided then_past middle_past left (x ∷ since) m =
    let Divides : Type 0 = MightLeave then_past middle_past left ⊎ MightLeave middle_past (x ∷ (since ++ middle_past)) left in
    elim (might-more then_past (since ++ middle_past) x left m) as (λ _. Divides) [
      | inl may ↦ inr (record { later = []; sooner = x ∷ since; since = refl; leaves = may })
      | inr might ↦ elim (divided then_past middle_past left since might) as (λ _. Divides) [
        | inl sooner ↦ inl sooner
        | inr later ↦ inr
            (record {
              later = x ∷ later.later;
              sooner = later.sooner;
              since = ap (λ (p : List Change). x ∷ p) later.since;
              leaves = later.leaves;
            })
      ]
    ]

pub stops-divide : StopsDivide
stops-divide then_past middle_past now_past left follows m =
    subst (λ (p : List Change). MightLeave then_past middle_past left ⊎ MightLeave middle_past p left) (sym follows.1)
    (divided then_past middle_past left follows.0 (subst (λ (p : List Change). MightLeave then_past p left) follows.1 m))

-- a write that was torn after what reads gave was kept
pub torn-since : (at count : ℕ) (s : DiskState) (left : List ℕ) → IsKept s → IsTorn (Wrote at count ∷ s.past) left
    → (length s.contents ≤ length left)
    × ((i : ℕ) → i < length s.contents → IsOutside at count i → get_or left i 0 ≡ get_or s.contents i 0)
torn-since at count s left kept torn =
    let t : IsTorn (Wrote at count ∷ Kept s.contents ∷ kept.0) left =
    subst (λ (p : List Change). IsTorn (Wrote at count ∷ p) left) kept.1 torn in
    (t.as_long, λ i below outside. t.stays i below (outside, tt))

module _ (entries : List (List ℕ)) (entry : List ℕ) where
  kept-leaves : (s : DiskState) (left : List ℕ) → IsKept s → MayLeave s.past left → left ≡ s.contents
  kept-leaves s left kept may = subst (λ (p : List Change). MayLeave p left) kept.1 may

  pub loses-none : (s : DiskState) → HoldsForGood entries s → LosesNone entries entry s.past s
  loses-none s h =
      record {
        follows = ([], refl);
        now = inl h.holds;
        stopped = λ left m. inl
            (subst (λ (b : List ℕ). Holds entries b)
            (sym (kept-leaves s left h.kept (might-none s.past left m))) h.holds);
      }

  -- one change more
  pub loses-more : (then_past : List Change) (old new : DiskState) (x : Change) → LosesNone entries entry then_past old
      → new.past ≡ x ∷ old.past → HoldsEither entries entry new.contents
      → ((left : List ℕ) → MayLeave (x ∷ old.past) left → HoldsEither entries entry left) → LosesNone entries entry then_past new
  loses-more then_past old new x before past now torn =
      record {
        follows = (x ∷ before.follows.0, past ∙ ap (λ (p : List Change). x ∷ p) before.follows.1);
        now = now;
        stopped = λ left m. elim (might-more then_past old.past x left
            (subst (λ (p : List Change). MightLeave then_past p left) past m)) as (λ _. HoldsEither entries entry left)
            [ inl may ↦ torn left may | inr might ↦ before.stopped left might ];
      }

  pub loses-kept : (then_past : List Change) (s : DiskState) → LosesNone entries entry then_past s
      → LosesNone entries entry then_past (keeps s)
  loses-kept then_past s before =
      loses-more then_past s (keeps s) (Kept s.contents) before refl before.now
      (λ left e. subst (HoldsEither entries entry) (sym e) before.now)
