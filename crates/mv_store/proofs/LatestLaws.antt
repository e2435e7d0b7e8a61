-- The last of a map's entries, and the latest of a list.
use Rattle.std.proofs.Common.{◌≡◌, inl, inr, Bool, true, false, cond, List, [], ◌∷◌, Option, Some, None, refl, sym, ap, subst, ◌∙◌}
use Rattle.std.specs.Prelude.{◌&&◌, MatchOption, filter, find, reverse, Contains}
use Rattle.std.specs.Option.{option_or}
use Rattle.std.specs.Map.{keys_of}
use Rattle.std.specs.List.Sorted.{IsStrictlySortedBy}
use Rattle.std.proofs.lemmas.List.{reverse-append}
use Rattle.std.proofs.lemmas.List.Folds.{find-append}
use Rattle.std.proofs.lemmas.List.Elements.{All-contains, All-from_recursion}
use Rattle.std.proofs.lemmas.Map.Keys.{sorted_head, sorted_tail}
use Rattle.std.specs.declared.cmp.Ordering.TheVariants.{Less}
use Rattle.std.specs.Ordering.{is_lt}
use Rattle.basil_types.specs.declared.version.Version.{Version}
use Rattle.basil_types.specs.Version.{version_cmp, below}
use Rattle.mv_store.specs.Held.{Held, version, later, latest}
use Rattle.basil_types.proofs.VersionLaws.{below_itself, not_below_trans, not_below_back}
use Rattle.mv_store.proofs.Searches.{Contains-nil, Contains-head, Contains-tail, Contains-cons, map_from}

-- ---- the last entry that passes

-- an entry that passes, and above which none does
pub record IsLast {X : Type 0} (p : Version × X → Bool) (es : List (Version × X)) (e : Version × X) : Type 0 where
  pub among : Contains es e
  pub passes : p e ≡ true
  pub last : (g : Version × X) → Contains es g → p g ≡ true → below e.0 g.0 ≡ false

abbrev pub NonePasses : {X : Type 0} → (Version × X → Bool) → List (Version × X) → Type 0
NonePasses {X} p es = (g : Version × X) → Contains es g → p g ≡ false

module _ {X : Type 0} (p r : Version × X → Bool) where
  abbrev passes : Version × X → Bool
  passes e = r e && p e

  first_below : (e g : Version × X) (es : List (Version × X)) → IsStrictlySortedBy version_cmp (keys_of (e ∷ es)) → Contains es g
      → below e.0 g.0 ≡ true
  first_below e g es sorted among =
      ap is_lt (All-contains (λ v. version_cmp e.0 v
      ≡ Less) (keys_of es) g.0 (All-from_recursion (λ v. version_cmp e.0 v
      ≡ Less) (keys_of es) (sorted_head version_cmp e.0 (keys_of es) sorted)) (map_from (λ (x : Version × X). x.0) es g among))

  -- the last of the others, or else the first
  picked : (e : Version × X) (es : List (Version × X)) (a b : Bool) → r e ≡ a → p e ≡ b
      → find p (reverse (filter r (e ∷ es))) ≡ option_or (find p (reverse (filter r es))) (cond (a && b) (Some e) None)
  picked e es true b q s =
      ap (λ c. find p (reverse (cond c (e ∷ filter r es) (filter r es)))) q
      ∙ ap (find p) (reverse-append (e ∷ []) (filter r es))
      ∙ find-append p (reverse (filter r es)) (e ∷ [])
      ∙ ap (λ c. option_or (find p (reverse (filter r es))) (cond c (Some e) None)) s
  picked e es false b q s =
      ap (λ c. find p (reverse (cond c (e ∷ filter r es) (filter r es)))) q
      ∙ sym (or_none (find p (reverse (filter r es))))
    where
      or_none : (o : Option (Version × X)) → option_or o None ≡ o
      or_none None = refl
      or_none (Some x) = refl

  pub last_found : (es : List (Version × X)) → IsStrictlySortedBy version_cmp (keys_of es)
      → MatchOption (find p (reverse (filter r es))) (NonePasses passes es) (IsLast passes es)
  last_found [] sorted = λ g among. Contains-nil g among
  last_found (e ∷ es) sorted =
      subst (λ o. MatchOption o (NonePasses passes (e ∷ es)) (IsLast passes (e ∷ es))) (sym (picked e es (r e) (p e) refl refl))
      (by (find p (reverse (filter r es))) (r e && p e) refl (last_found es (sorted_tail version_cmp e.0 (keys_of es) sorted)))
    where
      by : (o : Option (Version × X)) (b : Bool) → (r e && p e) ≡ b → MatchOption o (NonePasses passes es) (IsLast passes es)
          → MatchOption (option_or o (cond (r e && p e) (Some e) None)) (NonePasses passes (e ∷ es)) (IsLast passes (e ∷ es))
      by (Some f) b q h =
          record {
            among = Contains-tail e f es h.among;
            passes = h.passes;
            last =
                λ g among ok.
                elim (Contains-cons e g es among) [
                  | inl same ↦ subst (λ (z : Version × X). below f.0 z.0
                      ≡ false) same (not_below_back e.0 f.0 (first_below e f es sorted h.among))
                  | inr there ↦ h.last g there ok
                ];
          }
      by None true q h =
          subst (λ c. MatchOption (cond c (Some e) None) (NonePasses passes (e ∷ es)) (IsLast passes (e ∷ es))) (sym q)
          (record {
            among = Contains-head e es;
            passes = q;
            last =
                λ g among ok.
                elim (Contains-cons e g es among) [
                  | inl same ↦ subst (λ (z : Version × X). below e.0 z.0 ≡ false) same (below_itself e.0)
                  | inr there ↦ absurd (let impossible : true ≡ false = sym ok ∙ h g there in cc)
                ];
          })
      by None false q h =
          subst (λ c. MatchOption (cond c (Some e) None) (NonePasses passes (e ∷ es)) (IsLast passes (e ∷ es))) (sym q)
          (λ g among.
          elim (Contains-cons e g es among) [
            | inl same ↦ subst (λ (z : Version × X). (r z && p z) ≡ false) same q
            | inr there ↦ h g there
          ])

-- ---- the latest of a list

pub record IsLatest (xs : List Held) (h : Held) : Type 0 where
  pub among : Contains xs h
  pub last : (g : Held) → Contains xs g → below (version h) (version g) ≡ false

pub latest_is : (xs : List Held) → MatchOption (latest xs) (xs ≡ []) (IsLatest xs)
latest_is [] = refl
latest_is (x ∷ xs) = by (latest xs) (latest_is xs)
  where
    by : (o : Option Held) → MatchOption o (xs ≡ []) (IsLatest xs) → IsLatest (x ∷ xs) (later x o)
    by None none =
        record {
          among = Contains-head x xs;
          last =
              λ g among.
              elim (Contains-cons x g xs among) [
                | inl same ↦ subst (λ (z : Held). below (version x) (version z) ≡ false) same (below_itself (version x))
                | inr there ↦ Contains-nil g (subst (λ ys. Contains ys g) none there)
              ];
        }
    by (Some o) h = pick (below (version x) (version o)) refl
      where
        pick : (b : Bool) → below (version x) (version o) ≡ b → IsLatest (x ∷ xs) (cond (below (version x) (version o)) o x)
        pick true q =
            subst (λ b. IsLatest (x ∷ xs) (cond b o x)) (sym q)
            (record {
              among = Contains-tail x o xs h.among;
              last =
                  λ g among.
                  elim (Contains-cons x g xs among) [
                    | inl same ↦ subst (λ (z : Held). below (version o) (version z) ≡ false) same (not_below_back (version x) (version o) q)
                    | inr there ↦ h.last g there
                  ];
            })
        pick false q =
            subst (λ b. IsLatest (x ∷ xs) (cond b o x)) (sym q)
            (record {
              among = Contains-head x xs;
              last =
                  λ g among.
                  elim (Contains-cons x g xs among) [
                    | inl same ↦ subst (λ (z : Held). below (version x) (version z) ≡ false) same (below_itself (version x))
                    | inr there ↦ not_below_trans (version x) (version o) (version g) q (h.last g there)
                  ];
            })
