-- Walking along ascending reads and ascending writes side by side.
use Rattle.std.proofs.Common.{◌≡◌, ℕ, Bool, true, false, cond, List, [], ◌∷◌, refl, sym, ap, subst, ◌∙◌}
use Rattle.std.specs.Prelude.{◌||◌, ◌&&◌}
use Rattle.std.specs.declared.cmp.Ordering.{Ordering}
use Rattle.std.specs.declared.cmp.Ordering.TheVariants.{Less, Equal, Greater}
use Rattle.std.specs.Cmp.Lexicographic.{slice_cmp, bytes_decides, nat_list_cmp_total}
use Rattle.std.specs.List.{list_any}
use Rattle.std.specs.Ordering.{nat_cmp, is_lt, ordering_reverse}
use Rattle.std.specs.Str.{bytes_eq}
use Rattle.std.proofs.Common.{inl, inr}
use Rattle.std.proofs.lemmas.Bool.{cases_Bool}
use Rattle.std.proofs.lemmas.Cmp.{tied_itself}
use Rattle.std.proofs.lemmas.Map.Lookups.{exact_bytes}
use Rattle.basil_types.specs.declared.transaction.parts.WritePart.{WritePart}
use Rattle.basil_types.specs.Lists.{AreItems}
use Rattle.basil_types.specs.Texts.{key_below}
use Rattle.basil_types.specs.declared.transaction.parts.ReadPart.{ReadPart}
use Rattle.basil_types.specs.Transaction.{TransactionValue, FitsRead, FitsWrite, key_of_read, key_of_write, version_of, writes_key}
use Rattle.basil_types.specs.Version.{is_between}
use Rattle.txn_meta.specs.Conflicts.{crosses}
use Rattle.txn_meta.specs.Merging.{from_key, begins_at}

-- ---- the order of keys

less : (o : Ordering) → is_lt o ≡ true → o ≡ Less
less Less e = refl
less Equal e = absurd cc
less Greater e = absurd cc

key_trans : (a b c : List ℕ) → key_below a b ≡ true → key_below b c ≡ true → key_below a c ≡ true
key_trans a b c p q = ap is_lt (nat_list_cmp_total.trans a b c (less (slice_cmp nat_cmp a b) p) (less (slice_cmp nat_cmp b c) q))

key_itself : (a : List ℕ) → key_below a a ≡ false
key_itself a = ap is_lt (tied_itself nat_list_cmp_total a)

-- a lower key is another
apart : (a b : List ℕ) → key_below a b ≡ true → bytes_eq a b ≡ false
apart a b h = elim (cases_Bool (bytes_eq a b)) [
  | inl e ↦
      let same : a ≡ b = (bytes_decides a b).0 e in
      let P : List ℕ → Type 0 = λ k. key_below k b ≡ true in
      absurd (let impossible : true ≡ false = sym (subst P same h) ∙ key_itself b in cc)
  | inr e ↦ e
]

turned : (a b : List ℕ) → bytes_eq a b ≡ false → bytes_eq b a ≡ false
turned a b h = elim (cases_Bool (bytes_eq b a)) [
  | inl e ↦ absurd (let impossible : true ≡ false = sym ((bytes_decides a b).1 (sym ((bytes_decides b a).0 e))) ∙ h in cc)
  | inr e ↦ e
]

-- of two keys neither of which is below the other nor the same: there are none
past : (a b : List ℕ) → key_below a b ≡ false → bytes_eq a b ≡ false → key_below b a ≡ true
past a b n d = by (slice_cmp nat_cmp a b) refl
  where
    by : (o : Ordering) → slice_cmp nat_cmp a b ≡ o → key_below b a ≡ true
    by Less e = absurd (let impossible : true ≡ false = sym (ap is_lt e) ∙ n in cc)
    by Equal e = absurd (let impossible : true ≡ false = sym ((bytes_decides a b).1 (exact_bytes a b e)) ∙ d in cc)
    by Greater e = ap is_lt (nat_list_cmp_total.antisymm b a ∙ ap ordering_reverse e)

-- ---- the writes from a key on

abbrev pub has : List ℕ → List WritePart → Bool
has key ws = list_any (λ w. bytes_eq w.key key) ws

-- none of the writes above a floor is of a key that isn't above it
none_above : (format : ℕ) (floor key : List ℕ) (ws : List WritePart) → AreItems (FitsWrite format) key_of_write floor ws →
    key_below key floor ≡ true → has key ws ≡ false
none_above format floor key [] fit low = refl
none_above format floor key (w ∷ ws) fit low =
    let under : key_below key w.key ≡ true = key_trans key floor w.key low (fit.0).above in
    ap (λ b. b || has key ws) (turned key w.key (apart key w.key under)) ∙ none_above format w.key key ws fit.1 under

-- what is passed over is of no higher key
pub still_has : (key higher : List ℕ) (ws : List WritePart) → key_below key higher ≡ true → has higher (from_key key ws) ≡ has higher ws
still_has key higher [] h = refl
still_has key higher (w ∷ ws) h = elim (cases_Bool (key_below w.key key)) [
  | inl e ↦
      ap (λ b. has higher (cond b (from_key key ws) (w ∷ ws))) e
      ∙ still_has key higher ws h
      ∙ sym (ap (λ b. b || has higher ws) (apart w.key higher (key_trans w.key key higher e h)))
  | inr e ↦ ap (λ b. has higher (cond b (from_key key ws) (w ∷ ws))) e
]

-- the key is among them where they begin at it
pub begins_where_had : (format : ℕ) (floor key : List ℕ) (ws : List WritePart) → AreItems (FitsWrite format) key_of_write floor ws →
    begins_at key (from_key key ws) ≡ has key ws
begins_where_had format floor key [] fit = refl
begins_where_had format floor key (w ∷ ws) fit = elim (cases_Bool (key_below w.key key)) [
  | inl e ↦
      ap (λ b. begins_at key (cond b (from_key key ws) (w ∷ ws))) e
      ∙ begins_where_had format w.key key ws fit.1
      ∙ sym (ap (λ b. b || has key ws) (apart w.key key e))
  | inr e ↦ ap (λ b. begins_at key (cond b (from_key key ws) (w ∷ ws))) e ∙ (elim (cases_Bool (bytes_eq w.key key)) [
    | inl d ↦ d ∙ sym (ap (λ b. b || has key ws) d)
    | inr d ↦ d ∙ sym (ap (λ b. b || has key ws) d ∙ none_above format w.key key ws fit.1 (past w.key key e d))
  ])
]

-- and they ascend as before
pub still_ascend : (format : ℕ) (floor key : List ℕ) (ws : List WritePart) → AreItems (FitsWrite format) key_of_write floor ws →
    (f : List ℕ) × AreItems (FitsWrite format) key_of_write f (from_key key ws)
still_ascend format floor key [] fit = (floor, tt)
still_ascend format floor key (w ∷ ws) fit = by (key_below w.key key) (still_ascend format w.key key ws fit.1)
  where
    by : (b : Bool) → (f : List ℕ) × AreItems (FitsWrite format) key_of_write f (from_key key ws) → (f : List ℕ) × AreItems
        (FitsWrite format) key_of_write f (cond b (from_key key ws) (w ∷ ws))
    by true later = later
    by false later = (floor, fit)

-- ---- one read

module _ (t u : TransactionValue) (before floor : List ℕ) (item : ReadPart) (more : List ReadPart) (ws : List WritePart)
    (ascend : AreItems FitsRead key_of_read before (item ∷ more)) (fit : AreItems (FitsWrite u.format) key_of_write floor ws)
    (told : (key : List ℕ) → key_below before key ≡ true → has key ws ≡ writes_key u key) where
  -- the next write that isn't below the read's key tells whether the read is crossed
  pub one_read : (begins_at item.key (from_key item.key ws) && is_between item.version (version_of u) (version_of t)) ≡ crosses u t item
  one_read =
      ap (λ b. b && is_between item.version (version_of u) (version_of t))
      (begins_where_had u.format floor item.key ws fit ∙ told item.key (ascend.0).above)

  -- and those that are left tell of each higher key
  pub told_on : (key : List ℕ) → key_below item.key key ≡ true → has key (from_key item.key ws) ≡ writes_key u key
  told_on key h = still_has item.key key ws h ∙ told key (key_trans before item.key key (ascend.0).above h)
