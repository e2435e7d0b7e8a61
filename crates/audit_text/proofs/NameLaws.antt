-- Names in a map.
use Rattle.std.proofs.Common.{◌≡◌, ℕ, zero, suc, ◌+◌, ◌≤◌, length, drop, Bool, true, false}
use Rattle.std.proofs.Common.{cond, List, [], ◌∷◌, Option, Some, None, refl, ap, sym, ◌∙◌, Vec}
use Rattle.std.specs.Prelude.{codes, find, slice_get, option_map}
use Rattle.std.specs.Map.{lookup}
use Rattle.std.specs.Str.{bytes_eq}
use Rattle.indexmap.specs.IndexMap.{insert_entry}
use Rattle.basil_types.proofs.Walks.{drop_here, drop_past, drop_short}
use Rattle.basil_types.specs.Version.{genesis, same_version}
use Rattle.basil_types.specs.declared.version.Version.{Version}
use Rattle.audit_text.specs.Findings.{name_token, version_token}
use Rattle.audit_text.specs.Listing.{version_named}
use Rattle.audit_text.specs.Parts.{names_in}

module _ {A : Type 0} where
  abbrev pub as_name : Vec ℕ A × Version → List ℕ × Version
  as_name e = (e.0.items, e.1)

  pub named : (name : List ℕ) (es : List (Vec ℕ A × Version)) →
      version_named (names_in es) name ≡ lookup (λ (k : Vec ℕ A). bytes_eq name k.items) es
  named name [] = refl
  named name (e ∷ es) = ap (λ o. cond (bytes_eq name e.0.items) (Some e.1) o) (named name es)

  pub named_at : (es : List (Vec ℕ A × Version)) (k : ℕ) → slice_get (names_in es) k ≡ option_map as_name (slice_get es k)
  named_at [] zero = refl
  named_at [] (suc k) = refl
  named_at (e ∷ es) zero = refl
  named_at (e ∷ es) (suc k) = named_at es k

  pub named_first : (v : Version) (es : List (Vec ℕ A × Version))
      → find (λ n. same_version n.1 v) (names_in es) ≡ option_map as_name (find (λ (e : Vec ℕ A × Version). same_version e.1 v) es)
  named_first v [] = refl
  named_first v (e ∷ es) = by (same_version e.1 v) (named_first v es)
    where
      by : (c : Bool) → find (λ n. same_version n.1 v) (names_in es)
          ≡ option_map as_name (find (λ (x : Vec ℕ A × Version). same_version x.1 v) es)
          → cond c (Some (as_name e)) (find (λ n. same_version n.1 v) (names_in es))
          ≡ option_map as_name (cond c (Some e) (find (λ (x : Vec ℕ A × Version). same_version x.1 v) es))
      by true later = refl
      by false later = later

  -- the bytes of a name, or none
  abbrev pub bytes_of : Option (Vec ℕ A) → List ℕ
  bytes_of None = []
  bytes_of (Some name) = name.items

  token_of_name : (o : Option (Vec ℕ A × Version)) →
      name_token (option_map as_name o) ≡ bytes_of (option_map (λ (e : Vec ℕ A × Version). e.0) o)
  token_of_name None = refl
  token_of_name (Some e) = refl

  -- the token of a version that isn't genesis
  pub token_is : (v : Version) (es : List (Vec ℕ A × Version)) (r : Option (Vec ℕ A)) → same_version v genesis ≡ false
      → r ≡ option_map (λ (e : Vec ℕ A × Version). e.0) (find (λ (e : Vec ℕ A × Version). same_version e.1 v) es) →
      bytes_of r ≡ version_token (names_in es) v
  token_is v es r other found =
      ap bytes_of found ∙ sym (token_of_name (find (λ (e : Vec ℕ A × Version). same_version e.1 v) es))
      ∙ ap name_token (sym (named_first v es))
      ∙ sym (ap (λ b. cond b (codes "-") (name_token (find (λ n. same_version n.1 v) (names_in es)))) other)

  pub named_put : (eq : Vec ℕ A → Vec ℕ A → Bool) → ((a b : Vec ℕ A) → eq a b ≡ bytes_eq a.items b.items) → (k : Vec ℕ A) (v : Version)
      (es : List (Vec ℕ A × Version)) → names_in (insert_entry eq es k v) ≡ insert_entry bytes_eq (names_in es) k.items v
  named_put eq same k v [] = refl
  named_put eq same k v (e ∷ es) =
      ap (λ b. names_in (cond b ((e.0, v) ∷ es) (e ∷ insert_entry eq es k v))) (same k e.0)
      ∙ by (bytes_eq k.items e.0.items) (named_put eq same k v es)
    where
      by : (c : Bool) → names_in (insert_entry eq es k v) ≡ insert_entry bytes_eq (names_in es) k.items v
          → names_in (cond c ((e.0, v) ∷ es) (e ∷ insert_entry eq es k v))
          ≡ cond c ((e.0.items, v) ∷ names_in es) ((e.0.items, e.1) ∷ insert_entry bytes_eq (names_in es) k.items v)
      by true later = refl
      by false later = ap (λ z. (e.0.items, e.1) ∷ z) later

-- ---- the first of a version, by a walk

abbrev pub of_version : {A : Type 0} → Version → A × Version → Bool
of_version v e = same_version e.1 v

pub met : {A : Type 0} (v : Version) (es : List (A × Version)) (i : ℕ) (e : A × Version) → slice_get es i ≡ Some e → of_version v e ≡ true
    → find (of_version v) (drop i es) ≡ Some e
met v es i e here h =
    ap (find (of_version v)) (drop_here es i e here) ∙ ap (λ b. cond b (Some e) (find (of_version v) (drop (i + 1) es))) h

pub passed : {A : Type 0} (v : Version) (es : List (A × Version)) (i : ℕ) (e : A × Version) →
    slice_get es i ≡ Some e → of_version v e ≡ false
    → find (of_version v) (drop i es) ≡ find (of_version v) (drop (i + 1) es)
passed v es i e here h =
    ap (find (of_version v)) (drop_here es i e here) ∙ ap (λ b. cond b (Some e) (find (of_version v) (drop (i + 1) es))) h

pub past : {A : Type 0} (v : Version) (es : List (A × Version)) (i : ℕ) → slice_get es i ≡ None → find (of_version v) (drop i es) ≡ None
past v es i none = ap (find (of_version v)) (drop_past es i none)

pub short : {A : Type 0} (v : Version) (es : List (A × Version)) (i : ℕ) → length es ≤ i → find (of_version v) (drop i es) ≡ None
short v es i h = ap (find (of_version v)) (drop_short es i h)
