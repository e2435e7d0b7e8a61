-- Kept election words may stand in frames, and so may those of a proposal.
use Rattle.std.proofs.Common.{◌≡◌, ℕ, suc, ◌+◌, ◌<◌, ◌≤◌, Bool, true, false, cond, List, [], ◌∷◌, ◌++◌, All, length, map, filter, Option}
use Rattle.std.proofs.Common.{Some, None, refl, ap, subst, arith}
use Rattle.std.specs.Prelude.{IfSome, slice_index}
use Rattle.std.specs.List.Sorted.{IsPermutation, IsStrictlyIncreasing}
use Rattle.std.proofs.lemmas.List.Elements.{All-filter, All-map, All-push, All-head, All-tail}
use Rattle.std.proofs.lemmas.List.Sorted.{All-permutation}
use Rattle.basil_types.specs.declared.party.Decision.{Decision}
use Rattle.basil_types.specs.Lists.{AreItems}
use Rattle.basil_types.specs.Setting.{Setting, IsSetting}
use Rattle.fallback_leader.specs.declared.words.KeptWord.{KeptWord}
use Rattle.fallback_leader.specs.Collectors.{CollectorValue}
use Rattle.fallback_leader.specs.Elections.{is_of, words_of, counts, collected, Elects}
use Rattle.frame_values.specs.declared.owned.parts.ElectPart.{ElectPart}
use Rattle.frame_values.specs.Owned.{word_value}
use Rattle.frame_views.specs.Fitting.{widest, after_word, AreCounted, FitsWord}
use Rattle.replica_core.specs.Leads.{IsWritten, AllWritten, AreWritten, kept_by}

pub written_by : (c : CollectorValue) (held : Bool) → AreWritten c → AllWritten (kept_by c held)
written_by c true h = h.before
written_by c false h = h.kept

pub written_collected : (f : ℕ) (kept : List KeptWord) (id : List ℕ) (view : ℕ) (word : ElectPart) → AllWritten kept → IsWritten word
    → AllWritten (collected f kept id view word)
written_collected f kept id view word all one = by (counts f kept id view word)
  where
    by : (b : Bool) → AllWritten (cond b (kept ++ record { id = id; view = view; word = word } ∷ []) kept)
    by true = All-push (λ (k : KeptWord). IsWritten k.word) kept (record { id = id; view = view; word = word }) all one
    by false = all

words_written : (kept : List KeptWord) (id : List ℕ) (view : ℕ) → AllWritten kept → All IsWritten (words_of kept id view)
words_written kept id view all = All-map IsWritten (λ (k : KeptWord). k.word) (filter (is_of id view) kept)
    (All-filter (is_of id view) (λ (k : KeptWord). IsWritten k.word) kept all)

-- each stands above the one before it
items_from : (floor : ℕ) (w : ElectPart) (ws : List ElectPart) → floor ≤ w.replica → IsStrictlyIncreasing (map (λ w. w.replica) (w ∷ ws))
    → All IsWritten (w ∷ ws)
    → AreItems (FitsWord widest) after_word floor (map word_value (w ∷ ws))
items_from floor w [] least up all =
    let one = All-head IsWritten w [] all in
    (record { above = least; below = one.replica; signature = one.signature }, tt)
items_from floor w (v ∷ ws) least up all =
    let one = All-head IsWritten w (v ∷ ws) all in
    let next : w.replica < v.replica = up 0 (omega arith) in
    let rest : IsStrictlyIncreasing (map (λ w. w.replica) (v ∷ ws)) =
    λ k h.
    let i : suc k + 1 ≡ suc (k + 1) = omega arith in
    subst (λ n. slice_index (map (λ w. w.replica) (w ∷ v ∷ ws)) (suc k) < slice_index (map (λ w. w.replica) (w ∷ v ∷ ws)) n) i
    (up (suc k) (omega (arith, h))) in (
      record { above = least; below = one.replica; signature = one.signature },
      items_from (w.replica + 1) v ws (omega (arith, next)) rest (All-tail IsWritten w (v ∷ ws) all),
    )

items_of : (ws : List ElectPart) → IsStrictlyIncreasing (map (λ w. w.replica) ws) → All IsWritten ws
    → AreItems (FitsWord widest) after_word 0 (map word_value ws)
items_of [] up all = tt
items_of (w ∷ ws) up all = items_from 0 w ws (omega arith) up all

same_length : (ws : List ElectPart) → length (map word_value ws) ≡ length ws
same_length [] = refl
same_length (w ∷ ws) = ap suc (same_length ws)

pub proposal_counted : (c : Setting) (kept : List KeptWord) (id : List ℕ) (view : ℕ) (ps : List ElectPart) (decision : Decision)
    → IsSetting c → AllWritten kept
    → IsPermutation (words_of kept id view) ps → Elects c.f ps decision → AreCounted (FitsWord widest) after_word (map word_value ps)
proposal_counted c kept id view ps decision setting all same elects =
    record {
      count = omega (arith, same_length ps, elects.exact, setting.faulty);
      each = items_of ps elects.ascending (All-permutation IsWritten (words_of kept id view) ps same (words_written kept id view all));
    }

pub if_both : {A : Type 0} (o : Option A) (P Q R : A → Type 0) → IfSome o P → IfSome o Q → ((x : A) → P x → Q x → R x) → IfSome o R
if_both None P Q R p q then = tt
if_both (Some x) P Q R p q then = then x p q
