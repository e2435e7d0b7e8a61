-- Names in a map.
use Rattle.std.proofs.Common.{◌≡◌, ℕ, suc, ◌+◌, Bool, true, false, cond, List, [], ◌∷◌, ◌++◌}
use Rattle.std.proofs.Common.{Option, Some, None, Vec, refl, sym, ap, ◌∙◌, arith, is_some}
use Rattle.std.specs.Prelude.{find, map, position, option_map, slice_set}
use Rattle.std.specs.BTreeSet.{insert_key}
use Rattle.std.specs.Cmp.Lexicographic.{slice_cmp}
use Rattle.std.specs.List.{position_from}
use Rattle.std.specs.Map.{keys_of, lookup, set_value}
use Rattle.std.specs.Option.{option_map_or}
use Rattle.std.specs.Ordering.{nat_cmp}
use Rattle.std.specs.Str.{bytes_eq}
use Rattle.std.proofs.lemmas.Iterator.Adapters.{position_from-zero}
use Rattle.indexmap.specs.IndexMap.{insert_entry}
use Rattle.schedule_replay.specs.Names as naming
use Rattle.schedule_replay.specs.Names.{is_named, number_of, add_key, with_key, with_name}
use Rattle.schedule_replay.specs.Naming.{keys_in, named_in, names_in}
use Rattle.schedule_replay.specs.Replays.{NamedValue, NamesValue}
use Rattle.schedule_replay.specs.declared.names.Begun.{Begun}

abbrev Entries : Type 0 → Type 0
Entries A = List (Vec ℕ A × Begun)

-- ---- places in lists

later : {X : Type 0} (test : X → Bool) (xs : List X) (i : ℕ) → position_from test (suc i) xs ≡ option_map suc (position_from test i xs)
later test [] i = refl
later test (x ∷ xs) i = by (test x) (later test xs (i + 1))
  where
    by : (b : Bool) → position_from test (suc (i + 1)) xs ≡ option_map suc (position_from test (i + 1) xs) →
        cond b (Some (suc i)) (position_from test (suc i + 1) xs) ≡ option_map suc (cond b (Some i) (position_from test (i + 1) xs))
    by true rest = refl
    by false rest =
        let same : suc i + 1 ≡ suc (i + 1) = omega arith in
        ap (λ (k : ℕ). position_from test k xs) same ∙ rest

-- the client of the transaction that a name began
abbrev pub client_named : List ℕ → NamesValue → Option ℕ
client_named name names = option_map (λ (n : NamedValue). n.client) (find (is_named name) names.begun)

module _ {A : Type 0} (name : List ℕ) where
  -- whether a key of the map is this name
  abbrev is_key : Vec ℕ A → Bool
  is_key k = bytes_eq name k.items

  place_in : (es : Entries A) (i : ℕ) → position_from (is_named name) i (map named_in es) ≡ position_from is_key i (keys_of es)
  place_in [] i = refl
  place_in (e ∷ es) i = ap (λ (o : Option ℕ). cond (bytes_eq name e.0.items) (Some i) o) (place_in es (i + 1))

  pub number_in : (es : Entries A) → number_of name (names_in es) ≡ position is_key (keys_of es)
  number_in es =
      position_from-zero (is_named name) (map named_in es) ∙ (place_in es 0 ∙ sym (position_from-zero is_key (keys_of es)))

  pub client_in : (es : Entries A) → client_named name (names_in es) ≡ option_map (λ (b : Begun). b.client) (lookup is_key es)
  client_in [] = refl
  client_in (e ∷ es) = by (bytes_eq name e.0.items) (client_in es)
    where
      by : (b : Bool) → client_named name (names_in es) ≡ option_map (λ (b : Begun). b.client) (lookup is_key es) →
          option_map (λ (n : NamedValue). n.client) (cond b (Some (named_in e)) (find (is_named name) (map named_in es))) ≡
          option_map (λ (b : Begun). b.client) (cond b (Some e.1) (lookup is_key es))
      by true rest = refl
      by false rest = rest

-- ---- a new name

module _ {A : Type 0} (eq : Vec ℕ A → Vec ℕ A → Bool) (same : (a b : Vec ℕ A) → eq a b ≡ bytes_eq a.items b.items) (k : Vec ℕ A)
    (v : Begun) where
  put : (es : Entries A) (i : ℕ) → is_some (position_from (is_named k.items) i (map named_in es)) ≡ false →
      insert_entry eq es k v ≡ es ++ (k, v) ∷ []
  put [] i new = refl
  put (e ∷ es) i new =
      ap (λ b. cond b ((e.0, v) ∷ es) (e ∷ insert_entry eq es k v)) (same k e.0) ∙ by (bytes_eq k.items e.0.items) new (put es (i + 1))
    where
      by : (b : Bool) → is_some (cond b (Some i) (position_from (is_named k.items) (i + 1) (map named_in es))) ≡ false →
          (is_some (position_from (is_named k.items) (i + 1) (map named_in es)) ≡ false → insert_entry eq es k v ≡ es ++ (k, v) ∷ []) →
          cond b ((e.0, v) ∷ es) (e ∷ insert_entry eq es k v) ≡ e ∷ (es ++ (k, v) ∷ [])
      by true new rest = absurd cc
      by false new rest = ap (λ z. e ∷ z) (rest new)

  behind : {Y : Type 0} (f : Vec ℕ A × Begun → Y) (es : Entries A) → map f (es ++ (k, v) ∷ []) ≡ map f es ++ f (k, v) ∷ []
  behind f [] = refl
  behind f (e ∷ es) = ap (λ z. f e ∷ z) (behind f es)

  pub begun_in : (es : Entries A) → is_some (number_of k.items (names_in es)) ≡ false → v.keys.keys ≡ [] →
      names_in (insert_entry eq es k v) ≡ with_name k.items v.client (names_in es)
  begun_in es new none =
      let fresh : is_some (position_from (is_named k.items) 0 (map named_in es)) ≡ false =
      ap is_some (sym (position_from-zero (is_named k.items) (map named_in es))) ∙ new in
      let begun : map named_in (es ++ (k, v) ∷ []) ≡ map named_in es ++ record { name = k.items; client = v.client } ∷ [] =
      behind named_in es in
      let keys : map keys_in (es ++ (k, v) ∷ []) ≡ map keys_in es ++ [] ∷ [] =
      behind keys_in es ∙ ap (λ z. map keys_in es ++ z ∷ []) none in
      ap names_in (put es 0 fresh) ∙ (λ i. record { begun = begun i; keys = keys i })

-- ---- a key more

abbrev with_this : List ℕ → List (List ℕ) → List (List ℕ)
with_this key keys = insert_key (slice_cmp nat_cmp) keys key

module _ {A : Type 0} (name key : List ℕ) where
  -- an entry of this name has another value
  record Put (es : Entries A) (w : Begun) : Type 0 where
    place : ℕ
    there : position_from (is_named name) 0 (map named_in es) ≡ Some place
    begun : map named_in (set_value (is_key name) es w) ≡ map named_in es
    keys : map keys_in (set_value (is_key name) es w)
        ≡ slice_set (map keys_in es) place (with_this key (naming.keys_of (names_in es) place))

  puts : (es : Entries A) (v w : Begun) → lookup (is_key name) es ≡ Some v → w.client ≡ v.client →
      w.keys.keys ≡ with_this key v.keys.keys → Put es w
  puts [] v w found client keys = absurd cc
  puts (e ∷ es) v w found client keys = by (bytes_eq name e.0.items) refl found (λ f. puts es v w f client keys)
    where
      by : (b : Bool) → bytes_eq name e.0.items ≡ b → cond b (Some e.1) (lookup (is_key name) es) ≡ Some v →
          (lookup (is_key name) es ≡ Some v → Put es w) → Put (e ∷ es) w
      by true h found rest =
          let same : e.1 ≡ v = cc in
          let changed : set_value (is_key name) (e ∷ es) w ≡ (e.0, w) ∷ es =
          ap (λ b. cond b ((e.0, w) ∷ es) (e ∷ set_value (is_key name) es w)) h in
          let c : w.client ≡ e.1.client = client ∙ ap (λ (b : Begun). b.client) (sym same) in
          let ks : w.keys.keys ≡ with_this key e.1.keys.keys = keys ∙ ap (λ (b : Begun). with_this key b.keys.keys) (sym same) in
          record {
            place = 0;
            there = ap (λ b. cond b (Some 0) (position_from (is_named name) 1 (map named_in es))) h;
            begun = ap (map named_in) changed ∙ ap (λ (n : ℕ). record { name = e.0.items; client = n } ∷ map named_in es) c;
            keys = ap (map keys_in) changed ∙ ap (λ z. z ∷ map keys_in es) ks;
          }
      by false h found rest =
          let r = rest found in
          let changed : set_value (is_key name) (e ∷ es) w ≡ e ∷ set_value (is_key name) es w =
          ap (λ b. cond b ((e.0, w) ∷ es) (e ∷ set_value (is_key name) es w)) h in
          record {
            place = suc r.place;
            there =
                ap (λ b. cond b (Some 0) (position_from (is_named name) 1 (map named_in es))) h
                ∙ (later (is_named name) (map named_in es) 0 ∙ ap (option_map suc) r.there);
            begun = ap (map named_in) changed ∙ ap (λ z. named_in e ∷ z) r.begun;
            keys = ap (map keys_in) changed ∙ ap (λ z. keys_in e ∷ z) r.keys;
          }

  pub key_in : (es : Entries A) (v w : Begun) → lookup (is_key name) es ≡ Some v → w.client ≡ v.client →
      w.keys.keys ≡ with_this key v.keys.keys → names_in (set_value (is_key name) es w) ≡ with_key name key (names_in es)
  key_in es v w found client keys =
      let p = puts es v w found client keys in
      let there : number_of name (names_in es) ≡ Some p.place = position_from-zero (is_named name) (map named_in es) ∙ p.there in
      (λ i. record { begun = p.begun i; keys = p.keys i })
      ∙ sym (ap (λ (o : Option ℕ). option_map_or (λ tx. add_key key tx (names_in es)) o (names_in es)) there)

  nowhere : (es : Entries A) (i : ℕ) → lookup (is_key name) es ≡ None → position_from (is_named name) i (map named_in es) ≡ None
  nowhere [] i none = refl
  nowhere (e ∷ es) i none = by (bytes_eq name e.0.items) none (nowhere es (i + 1))
    where
      by : (b : Bool) → cond b (Some e.1) (lookup (is_key name) es) ≡ None →
          (lookup (is_key name) es ≡ None → position_from (is_named name) (i + 1) (map named_in es) ≡ None) →
          cond b (Some i) (position_from (is_named name) (i + 1) (map named_in es)) ≡ None
      by true none rest = absurd cc
      by false none rest = rest none

  pub no_key_in : (es : Entries A) → lookup (is_key name) es ≡ None → names_in es ≡ with_key name key (names_in es)
  no_key_in es none =
      let there : number_of name (names_in es) ≡ None = position_from-zero (is_named name) (map named_in es) ∙ nowhere es 0 none in
      sym (ap (λ (o : Option ℕ). option_map_or (λ tx. add_key key tx (names_in es)) o (names_in es)) there)
