-- One decision for each decided view: what is signed of logs, and what is logged.
use Rattle.std.proofs.Common.{◌≡◌, ℕ, ◌<◌, ◌≤◌, Bool, true, false, cond, List, [], ◌∷◌, ◌++◌}
use Rattle.std.proofs.Common.{Option, Some, None, refl, sym, ap, subst, ◌∙◌, ◌⊎◌, inl, inr, arith}
use Rattle.std.specs.Prelude.{⊤}
use Rattle.std.specs.Str.{bytes_eq}
use Rattle.std.proofs.lemmas.Bool.{cases_Bool}
use Rattle.std.proofs.lemmas.Option.{same_Some}
use Rattle.std.proofs.lemmas.Slice.Eq.{bytes_eq-Decides}
use Rattle.basil_types.specs.Words.{SignedWords, LogReplyOf, LogReplyWords}
use Rattle.decision_log.specs.declared.cell.LogCell.{LogCell}
use Rattle.replica_core.specs.Known.{logged_with, put_logged}
use Rattle.replica_core.specs.Replicas.{LoggedEntry}
use Rattle.replica_laws.specs.Steps.{SaysLog}

-- ---- what is logged, by id

same_true : (x y : List ℕ) → bytes_eq x y ≡ true → x ≡ y
same_true x y e = (bytes_eq-Decides x y).0 e

same_self : (x : List ℕ) → bytes_eq x x ≡ true
same_self x = (bytes_eq-Decides x x).1 refl

not_same : (x y : List ℕ) → bytes_eq x y ≡ false → bytes_eq y x ≡ false
not_same x y n = elim (cases_Bool (bytes_eq y x)) [
  | inl i ↦ (let same = ap (bytes_eq x) (same_true y x i) ∙ same_self x in absurd cc)
  | inr i ↦ i
]

pub put_same : (l : LoggedEntry) (ls : List LoggedEntry) → logged_with (put_logged l ls) l.id ≡ Some l
put_same l [] = ap (λ b. cond b (Some l) None) (same_self l.id)
put_same l (x ∷ xs) = by (bytes_eq x.id l.id) refl (put_same l xs)
  where
    by : (b : Bool) → bytes_eq x.id l.id ≡ b → logged_with (put_logged l xs) l.id ≡ Some l →
        logged_with (cond b (l ∷ xs) (x ∷ put_logged l xs)) l.id ≡ Some l
    by true i r = ap (λ b. cond b (Some l) (logged_with xs l.id)) (same_self l.id)
    by false i r = ap (λ b. cond b (Some x) (logged_with (put_logged l xs) l.id)) i ∙ r

put_other : (l : LoggedEntry) (y : List ℕ) (ls : List LoggedEntry) → bytes_eq y l.id ≡ false →
    logged_with (put_logged l ls) y ≡ logged_with ls y
put_other l y [] n = ap (λ b. cond b (Some l) None) (not_same y l.id n)
put_other l y (x ∷ xs) n = by (bytes_eq x.id l.id) refl (put_other l y xs n)
  where
    by : (b : Bool) → bytes_eq x.id l.id ≡ b → logged_with (put_logged l xs) y ≡ logged_with xs y →
        logged_with (cond b (l ∷ xs) (x ∷ put_logged l xs)) y ≡ cond (bytes_eq x.id y) (Some x) (logged_with xs y)
    by true i r =
        let is : x.id ≡ l.id = same_true x.id l.id i in
        ap (λ b. cond b (Some l) (logged_with xs y)) (not_same y l.id n)
        ∙ sym (ap (λ b. cond b (Some x) (logged_with xs y)) (ap (λ (z : List ℕ). bytes_eq z y) is ∙ not_same y l.id n))
    by false i r = ap (cond (bytes_eq x.id y) (Some x)) r

pub logged_id : (ls : List LoggedEntry) (x : List ℕ) (l : LoggedEntry) → logged_with ls x ≡ Some l → l.id ≡ x
logged_id [] x l h = absurd cc
logged_id (d ∷ ls) x l h = elim (cases_Bool (bytes_eq d.id x)) [
  | inl i ↦
      let is : d ≡ l = same_Some _ _ (sym (ap (λ b. cond b (Some d) (logged_with ls x)) i) ∙ h) in
      ap (λ (e : LoggedEntry). e.id) (sym is) ∙ same_true d.id x i
  | inr n ↦ logged_id ls x l (sym (ap (λ b. cond b (Some d) (logged_with ls x)) n) ∙ h)
]

-- ---- what was signed agrees with the cell

-- nothing was logged, or the cell is decided in a later view, or as it was
abbrev pub Moves : Option LoggedEntry → LogCell → Type 0
Moves None cell = ⊤
Moves (Some k) cell =
    (k.cell.decided < cell.decided) ⊎ ((k.cell.decided ≡ cell.decided) × (k.cell.decision ≡ cell.decision))

-- no later view was told than the cell's, and of that view its decision
abbrev Agrees : LogReplyOf → LogCell → Type 0
Agrees a cell = (a.decided ≤ cell.decided) × (a.decided ≡ cell.decided → a.decision ≡ cell.decision)

abbrev Kept : List LoggedEntry → LogReplyOf → Type 0
Kept ls a = (l : LoggedEntry) × (logged_with ls a.id ≡ Some l) × Agrees a l.cell

abbrev pub IsOne : List SignedWords → Type 0
IsOne ws = (a b : LogReplyOf) → SaysLog ws a → SaysLog ws b → a.id ≡ b.id → a.decided ≡ b.decided → a.decision ≡ b.decision

pub record Views (ls : List LoggedEntry) (ws : List SignedWords) : Type 0 where
  pub kept : (a : LogReplyOf) → SaysLog ws a → Kept ls a
  pub one : IsOne ws

says_append : (ws more : List SignedWords) (a : LogReplyOf) → SaysLog (ws ++ more) a → SaysLog ws a ⊎ SaysLog more a
says_append [] more a h = inr h
says_append (w ∷ ws) more a (inl here) = inl (inl here)
says_append (w ∷ ws) more a (inr rest) = elim (says_append ws more a rest) [
  | inl before ↦ inl (inr before)
  | inr after ↦ inr after
]

agrees_moved : (a : LogReplyOf) (k : LoggedEntry) (cell : LogCell) → Moves (Some k) cell → Agrees a k.cell → Agrees a cell
agrees_moved a k cell (inl later) h =
    let below = h.0 in (omega (arith, later, below), λ same. absurd (omega (arith, later, below, same)))
agrees_moved a k cell (inr same) h =
    let below = h.0 in let is = same.0 in (omega (arith, is, below), λ at. h.1 (at ∙ sym is) ∙ same.1)

kept_put : (ls : List LoggedEntry) (l : LoggedEntry) (a : LogReplyOf) → Moves (logged_with ls l.id) l.cell → Kept ls a
    → Kept (put_logged l ls) a
kept_put ls l a moves k = elim (cases_Bool (bytes_eq a.id l.id)) [
  | inl same ↦
      let is : a.id ≡ l.id = same_true a.id l.id same in
      let there : logged_with ls l.id ≡ Some k.0 = ap (logged_with ls) (sym is) ∙ k.1 in (
        l,
        ap (logged_with (put_logged l ls)) is ∙ put_same l ls,
        agrees_moved a k.0 l.cell (subst (λ (o : Option LoggedEntry). Moves o l.cell) there moves) k.2,
      )
  | inr n ↦ (k.0, put_other l a.id ls n ∙ k.1, k.2)
]

-- no log reply is signed
pub views_same : (ls : List LoggedEntry) (ws more : List SignedWords) → ((a : LogReplyOf) → SaysLog more a → ⊥) → Views ls ws →
    Views ls (ws ++ more)
views_same ls ws more none v =
    let before : (a : LogReplyOf) → SaysLog (ws ++ more) a → SaysLog ws a =
    λ a h. elim (says_append ws more a h) [
      | inl b ↦ b
      | inr c ↦ absurd (none a c)
    ] in
    record { kept = λ a h. v.kept a (before a h); one = λ a b h i. v.one a b (before a h) (before b i) }

pub views_put : (ls : List LoggedEntry) (l : LoggedEntry) (ws more : List SignedWords) → Moves (logged_with ls l.id) l.cell →
    ((a : LogReplyOf) → SaysLog more a → ⊥) → Views ls ws → Views (put_logged l ls) (ws ++ more)
views_put ls l ws more moves none v =
    let w = views_same ls ws more none v in
    record { kept = λ a h. kept_put ls l a moves (w.kept a h); one = w.one }

-- the log reply that says what is logged then
pub views_said : (ls : List LoggedEntry) (l : LoggedEntry) (ws : List SignedWords) (r : LogReplyOf) → Moves (logged_with ls l.id) l.cell →
    r.id ≡ l.id → r.decision ≡ l.cell.decision → r.decided ≡ l.cell.decided → Views ls ws →
    Views (put_logged l ls) (ws ++ LogReplyWords r ∷ [])
views_said ls l ws r moves named decision decided v = record { kept = λ a h. kept a (says_append ws (LogReplyWords r ∷ []) a h); one = one }
  where
    field_of : LogReplyOf → SignedWords → LogReplyOf
    field_of d (LogReplyWords x) = x
    field_of d (Rattle.basil_types.specs.Words.TransactionWords x) = d
    field_of d (Rattle.basil_types.specs.Words.VoteWords x) = d
    field_of d (Rattle.basil_types.specs.Words.ReadReplyWords x) = d
    field_of d (Rattle.basil_types.specs.Words.ElectionWords x) = d
    field_of d (Rattle.basil_types.specs.Words.ProposalWords x) = d

    is_r : (a : LogReplyOf) → SaysLog (LogReplyWords r ∷ []) a → r ≡ a
    is_r a (inl e) = ap (field_of r) e
    is_r a (inr e) = absurd e

    r_kept : Kept (put_logged l ls) r
    r_kept = (l, ap (logged_with (put_logged l ls)) named ∙ put_same l ls, (omega (arith, decided), λ same. decision))

    kept : (a : LogReplyOf) → SaysLog ws a ⊎ SaysLog (LogReplyWords r ∷ []) a → Kept (put_logged l ls) a
    kept a (inl b) = kept_put ls l a moves (v.kept a b)
    kept a (inr c) = subst (Kept (put_logged l ls)) (is_r a c) r_kept

    with_r : (a : LogReplyOf) → SaysLog ws a → a.id ≡ r.id → a.decided ≡ r.decided → a.decision ≡ r.decision
    with_r a b same at =
        let k = kept_put ls l a moves (v.kept a b) in
        let is : k.0 ≡ l = same_Some _ _ (sym k.1 ∙ ap (logged_with (put_logged l ls)) (same ∙ named) ∙ put_same l ls) in
        k.2.1 (at ∙ decided ∙ sym (ap (λ (x : LoggedEntry). x.cell.decided) is)) ∙ ap (λ (x : LoggedEntry). x.cell.decision) is
        ∙ sym decision

    one_by : (a b : LogReplyOf) → SaysLog ws a ⊎ SaysLog (LogReplyWords r ∷ []) a → SaysLog ws b ⊎ SaysLog (LogReplyWords r ∷ []) b →
        a.id ≡ b.id → a.decided ≡ b.decided → a.decision ≡ b.decision
    one_by a b (inl h) (inl i) = v.one a b h i
    one_by a b (inl h) (inr i) = let is = is_r b i in λ same at.
        with_r a h (same ∙ sym (ap (λ (x : LogReplyOf). x.id) is)) (at ∙ sym (ap (λ (x : LogReplyOf). x.decided) is))
        ∙ ap (λ (x : LogReplyOf). x.decision) is
    one_by a b (inr h) (inl i) = let is = is_r a h in λ same at.
        sym
        (with_r b i (sym same ∙ sym (ap (λ (x : LogReplyOf). x.id) is)) (sym at ∙ sym (ap (λ (x : LogReplyOf). x.decided) is))
        ∙ ap (λ (x : LogReplyOf). x.decision) is)
    one_by a b (inr h) (inr i) = λ same at. sym (ap (λ (x : LogReplyOf). x.decision) (is_r a h))
        ∙ ap (λ (x : LogReplyOf). x.decision) (is_r b i)

    one : IsOne (ws ++ LogReplyWords r ∷ [])
    one a b h i = one_by a b (says_append ws (LogReplyWords r ∷ []) a h) (says_append ws (LogReplyWords r ∷ []) b i)

-- words that are no log reply
pub no_log : (w : SignedWords) → ((a : LogReplyOf) → w ≡ LogReplyWords a → ⊥) → (a : LogReplyOf) → SaysLog (w ∷ []) a → ⊥
no_log w none a (inl e) = none a e
no_log w none a (inr e) = e
