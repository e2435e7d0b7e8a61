-- Who signed which words, with one more.
use Rattle.std.proofs.Common.{◌≡◌, ℕ, Bool, true, false, cond, List, [], ◌∷◌, ◌++◌, Option}
use Rattle.std.proofs.Common.{None, Some, Vec, Global, refl, sym, ap, subst, ◌∙◌, append-nil}
use Rattle.std.specs.Prelude.{◌&&◌, ◌||◌, Result, Ok, Err, OnErr, IsSome}
use Rattle.std.specs.List.{list_any}
use Rattle.std.specs.BTreeMap.{UpdatesBy, Updates, WritesThrough}
use Rattle.std.specs.Cmp.{eq_by_cmp_equiv}
use Rattle.std.specs.Cmp.Lexicographic.{slice_cmp, nat_list_cmp_total}
use Rattle.std.specs.Map.{lookup, KeepsOthers}
use Rattle.std.specs.Ordering.{is_eq, nat_cmp, eq_by_cmp}
use Rattle.std.specs.declared.cmp.Ordering.{Ordering}
use Rattle.std.specs.Option.{option_map_or}
use Rattle.std.specs.Str.{bytes_eq}
use Rattle.std.proofs.lemmas.List.Folds.{list_any-append}
use Rattle.std.proofs.lemmas.Slice.Eq.{bytes_eq-Decides}
use Rattle.std.proofs.lemmas.Map.Text.{is_eq-slice_cmp}
use Rattle.basil_types.proofs.KeyLaws.{bytes_tell, bytes_same}
use Rattle.basil_types.specs.declared.party.Party.{Party}
use Rattle.basil_types.specs.Words.{SignedWords, words_of}
use Rattle.txn_table.specs.Entries.{same_party}
use Rattle.premise_watch.specs.declared.noted.Noted.{Noted}
use Rattle.premise_watch.specs.Breaches.{NotedWords, is_noted}
use Rattle.premise_watch.specs.Parties.{is_among}
use Rattle.premise_watch.specs.Signers.{listed_at, signers_of, AreSigners, SameSigners, Adds}

-- the list of these words is w, and all others are as before
abbrev pub Puts : Noted → Noted → List ℕ → Vec Party Global → Type 0
Puts old new words w = (k : List ℕ) → listed_at new k ≡ cond (bytes_eq words k) (Some w) (listed_at old k)

-- ---- a change of the map at one key

abbrev pub keys_cmp : Vec ℕ Global → Vec ℕ Global → Ordering
keys_cmp a b = slice_cmp nat_cmp a.items b.items

abbrev is_key : List ℕ → Vec ℕ Global → Bool
is_key words k = is_eq (slice_cmp nat_cmp words k.items)

found_elsewhere : (words k : List ℕ) (old new : List (Vec ℕ Global × Vec Party Global)) → KeepsOthers (eq_by_cmp keys_cmp) (is_key words) old new →
    bytes_eq words k ≡ false → lookup (is_key k) new ≡ lookup (is_key k) old
unfolding KeepsOthers
found_elsewhere words k old new keeps n =
    keeps (is_key k) (λ x y. (eq_by_cmp_equiv nat_list_cmp_total).congr k x.items y.items) (λ x e. apart x (is_key k x) refl e)
  where
    apart : (x : Vec ℕ Global) (b : Bool) → is_key k x ≡ b → is_key words x ≡ true → b ≡ false
    apart x false q e = refl
    apart x true q e =
        let first : words ≡ x.items = bytes_tell words x.items (sym (is_eq-slice_cmp words x.items) ∙ e) in
        let second : k ≡ x.items = bytes_tell k x.items (sym (is_eq-slice_cmp k x.items) ∙ q) in
        absurd (let h : true ≡ false = sym (bytes_same words) ∙ ap (bytes_eq words) (first ∙ sym second) ∙ n in cc)

puts : (old new : Noted) (words : List ℕ) (w : Vec Party Global) →
    UpdatesBy keys_cmp (λ k. slice_cmp nat_cmp words k.items) old.signers new.signers (Some w) → Puts old new words w
puts old new words w updates k = by (bytes_eq words k) refl
  where
    by : (b : Bool) → bytes_eq words k ≡ b → listed_at new k ≡ cond b (Some w) (listed_at old k)
    by true e = ap (listed_at new) (sym (bytes_tell words k e)) ∙ updates.1
    by false e = found_elsewhere words k old.signers.entries new.signers.entries updates.3 e

pub written : (old new : Noted) (words : List ℕ) (u w : Vec Party Global) → listed_at old words ≡ Some u →
    WritesThrough keys_cmp (λ k. slice_cmp nat_cmp words k.items) old.signers w new.signers → Puts old new words w
written old new words u w found writes = puts old new words w (writes.3 (subst IsSome (sym found) refl))

pub inserted : (old new : Noted) (words : List ℕ) (key : Vec ℕ Global) (w : Vec Party Global) → key.items ≡ words →
    Updates keys_cmp old.signers new.signers key (Some w) → Puts old new words w
inserted old new words key w is updates =
    puts old new words w (subst (λ b. UpdatesBy keys_cmp (λ k. slice_cmp nat_cmp b k.items) old.signers new.signers (Some w)) is updates)

listed : Option (Vec Party Global) → List Party
listed o = option_map_or (λ parties. parties.items) o []

same_list : (noted : Noted) (words k : List ℕ) → bytes_eq words k ≡ true → listed_at noted k ≡ listed_at noted words
same_list noted words k e = ap (listed_at noted) (sym ((bytes_eq-Decides words k).0 e))

pub adds : (old new : Noted) (words : List ℕ) (p : Party) (u w : Vec Party Global) →
    listed_at old words ≡ Some u → w.items ≡ u.items ++ p ∷ [] →
    Puts old new words w → Adds old new words p
unfolding listed
adds old new words p u w there more puts k = ap listed (puts k) ∙ by (bytes_eq words k) refl
  where
    by : (b : Bool) → bytes_eq words k ≡ b → listed (cond b (Some w) (listed_at old k)) ≡ listed (listed_at old k) ++ cond b (p ∷ []) []
    by true e = more ∙ ap (λ g. listed g ++ p ∷ []) (sym (same_list old words k e ∙ there))
    by false e = sym (append-nil (listed (listed_at old k)))

pub same_items : (old new : Noted) (words : List ℕ) (u w : Vec Party Global) → listed_at old words ≡ Some u → w.items ≡ u.items →
    Puts old new words w → SameSigners old new
unfolding listed
same_items old new words u w there same puts k = ap listed (puts k) ∙ by (bytes_eq words k) refl
  where
    by : (b : Bool) → bytes_eq words k ≡ b → listed (cond b (Some w) (listed_at old k)) ≡ listed (listed_at old k)
    by true e = same ∙ ap listed (sym (same_list old words k e ∙ there))
    by false e = refl

pub new_list : (old new : Noted) (words : List ℕ) (w : Vec Party Global) → listed_at old words ≡ None → w.items ≡ [] →
    Puts old new words w → SameSigners old new
unfolding listed
new_list old new words w none empty puts k = ap listed (puts k) ∙ by (bytes_eq words k) refl
  where
    by : (b : Bool) → bytes_eq words k ≡ b → listed (cond b (Some w) (listed_at old k)) ≡ listed (listed_at old k)
    by true e = empty ∙ ap listed (sym (same_list old words k e ∙ none))
    by false e = refl

-- ---- what they stand for

pub nobody_signed : (noted : Noted) → ((words : List ℕ) → signers_of noted words ≡ []) → AreSigners noted []
nobody_signed noted h p words = ap (λ parties. is_among parties p) (h words)

pub same_signed : (old new : Noted) (signed : List NotedWords) → SameSigners old new → AreSigners old signed → AreSigners new signed
same_signed old new signed same h p words = ap (λ parties. is_among parties p) (same words) ∙ h p words

one_signer : (p q : Party) (b : Bool) → is_among (cond b (q ∷ []) []) p ≡ ((same_party p q && b) || false)
one_signer p q true = by (same_party p q)
  where
    by : (b : Bool) → (b || false) ≡ ((b && true) || false)
    by true = refl
    by false = refl
one_signer p q false = by (same_party p q)
  where
    by : (b : Bool) → false ≡ ((b && false) || false)
    by true = refl
    by false = refl

pub one_signed : (old new : Noted) (signed : List NotedWords) (words : List ℕ) (q : Party) (x : SignedWords) → words_of x ≡ words →
    Adds old new words q → AreSigners old signed → AreSigners new (signed ++ record { party = q; words = x } ∷ [])
one_signed old new signed words q x e adds h p w =
    ap (λ parties. is_among parties p) (adds w) ∙ list_any-append (same_party p) (signers_of old w) (cond (bytes_eq words w) (q ∷ []) [])
    ∙ ap (λ b. b || is_among (cond (bytes_eq words w) (q ∷ []) []) p) (h p w)
    ∙ ap (λ b. list_any (is_noted p w) signed || b)
    (one_signer p q (bytes_eq words w) ∙ ap (λ v. (same_party p q && bytes_eq v w) || false) (sym e))
    ∙ sym (list_any-append (is_noted p w) signed (record { party = q; words = x } ∷ []))

pub on_any : {T E : Type 0} (r : Result T E) (P : Type 0) → P → OnErr r P
on_any (Ok x) P p = tt
on_any (Err e) P p = p
