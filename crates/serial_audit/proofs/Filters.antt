-- The transactions below a version, in the order of their versions.
use Rattle.std.proofs.Common.{◌≡◌, Bool, true, false, cond, List, [], ◌∷◌, refl, ap, sym, ◌∙◌}
use Rattle.std.specs.Prelude.{filter, map}
use Rattle.std.specs.BTreeMap.{insert_entry}
use Rattle.std.specs.List.{AllByRecursion}
use Rattle.std.specs.List.Sorted.{IsStrictlySortedBy}
use Rattle.std.specs.Map.{keys_of}
use Rattle.std.specs.Ordering.{match_ordering}
use Rattle.std.specs.declared.cmp.Ordering.{Ordering}
use Rattle.std.specs.declared.cmp.Ordering.TheVariants.{Less, Equal, Greater}
use Rattle.basil_types.specs.declared.version.Version.{Version}
use Rattle.basil_types.specs.Replayed.{Versions, put_versions, by_version}
use Rattle.basil_types.specs.Transaction.{TransactionValue, version_of}
use Rattle.basil_types.specs.Version.{version_cmp}
use Rattle.basil_types.proofs.EntryLaws.{sorted_put}
use Rattle.basil_types.proofs.MemberLaws.{in_filter}
use Rattle.basil_types.proofs.ReplayLaws.{IsRising}
use Rattle.basil_types.proofs.VersionLaws.{version_total, version_exact}

pub all_pass : {A : Type 0} (xs : List A) → filter (λ _. true) xs ≡ xs
all_pass [] = refl
all_pass (x ∷ xs) = ap (λ ys. x ∷ ys) (all_pass xs)

pub rising_filter : (p : TransactionValue → Bool) (ts : List TransactionValue) → IsRising ts → IsRising (filter p ts)
rising_filter p [] s = tt
rising_filter p (t ∷ ts) s = by (p t) (rising_filter p ts s.1)
  where
    by : (c : Bool) → IsRising (filter p ts) → IsRising (cond c (t ∷ filter p ts) (filter p ts))
    by true r = (λ u h. s.0 u (in_filter p ts u h).0, r)
    by false r = r

abbrev Entry : Type 0
Entry = Version × TransactionValue

module _ (P : Version → Bool) where
  abbrev passes : Entry → Bool
  passes e = P e.0

  -- what is below all keys is put first
  put_first : (v : Version) (t : TransactionValue) (es : Versions) → AllByRecursion (λ w. version_cmp v w ≡ Less) (keys_of es)
      → insert_entry version_cmp (filter passes es) v t ≡ (v, t) ∷ filter passes es
  put_first v t [] a = refl
  put_first v t (e ∷ es) a = by (P e.0) (put_first v t es a.1)
    where
      by : (c : Bool) → insert_entry version_cmp (filter passes es) v t ≡ (v, t) ∷ filter passes es
          → insert_entry version_cmp (cond c (e ∷ filter passes es) (filter passes es)) v t
          ≡ (v, t) ∷ cond c (e ∷ filter passes es) (filter passes es)
      by true later = ap (λ o. match_ordering o ((v, t) ∷ e ∷ filter passes es) ((e.0, t) ∷ filter passes es)
          (e ∷ insert_entry version_cmp (filter passes es) v t)) a.0
      by false later = later

  above_all : (v : Version) (e : Entry) (es : Versions) → version_cmp v e.0 ≡ Less
      → AllByRecursion (λ w. version_cmp e.0 w ≡ Less) (keys_of es) → AllByRecursion (λ w. version_cmp v w ≡ Less) (keys_of es)
  above_all v e [] l a = tt
  above_all v e (f ∷ es) l a = (version_total.trans v e.0 f.0 l a.0, above_all v e es l a.1)

  -- an entry that passes is put among those that pass
  put_passing : (v : Version) (t : TransactionValue) → P v ≡ true → (es : Versions) → IsStrictlySortedBy version_cmp (keys_of es)
      → filter passes (insert_entry version_cmp es v t) ≡ insert_entry version_cmp (filter passes es) v t
  unfolding IsStrictlySortedBy
  put_passing v t p [] s = ap (λ c. cond c ((v, t) ∷ []) []) p
  put_passing v t p (e ∷ es) s = by (version_cmp v e.0) refl (P e.0) refl (put_passing v t p es s.1)
    where
      by : (o : Ordering) → version_cmp v e.0 ≡ o → (c : Bool) → P e.0 ≡ c
          → filter passes (insert_entry version_cmp es v t) ≡ insert_entry version_cmp (filter passes es) v t
          → filter passes (match_ordering o ((v, t) ∷ e ∷ es) ((e.0, t) ∷ es) (e ∷ insert_entry version_cmp es v t))
          ≡ insert_entry version_cmp (cond (P e.0) (e ∷ filter passes es) (filter passes es)) v t
      by Less l c q later =
          ap (λ b. cond b ((v, t) ∷ filter passes (e ∷ es)) (filter passes (e ∷ es))) p
          ∙ sym (put_first v t (e ∷ es) (l, above_all v e es l s.0))
      by Equal l c q later =
          let same : v ≡ e.0 = version_exact v e.0 l in
          let passing : P e.0 ≡ true = ap P (sym same) ∙ p in
          ap (λ b. cond b ((e.0, t) ∷ filter passes es) (filter passes es)) passing
          ∙ sym (ap (λ b. insert_entry version_cmp (cond b (e ∷ filter passes es) (filter passes es)) v t) passing
          ∙ ap (λ o. match_ordering o ((v, t) ∷ e ∷ filter passes es) ((e.0, t) ∷ filter passes es)
          (e ∷ insert_entry version_cmp (filter passes es) v t)) l)
      by Greater l true q later =
          ap (λ b. cond b (e ∷ filter passes (insert_entry version_cmp es v t)) (filter passes (insert_entry version_cmp es v t))) q
          ∙ ap (λ z. e ∷ z) later
          ∙ sym (ap (λ b. insert_entry version_cmp (cond b (e ∷ filter passes es) (filter passes es)) v t) q
          ∙ ap (λ o. match_ordering o ((v, t) ∷ e ∷ filter passes es) ((e.0, t) ∷ filter passes es)
          (e ∷ insert_entry version_cmp (filter passes es) v t)) l)
      by Greater l false q later =
          ap (λ b. cond b (e ∷ filter passes (insert_entry version_cmp es v t)) (filter passes (insert_entry version_cmp es v t))) q
          ∙ later
          ∙ sym (ap (λ b. insert_entry version_cmp (cond b (e ∷ filter passes es) (filter passes es)) v t) q)

  -- one that doesn't pass changes none that pass
  put_hidden : (v : Version) (t : TransactionValue) → P v ≡ false → (es : Versions)
      → filter passes (insert_entry version_cmp es v t) ≡ filter passes es
  put_hidden v t p [] = ap (λ c. cond c ((v, t) ∷ []) []) p
  put_hidden v t p (e ∷ es) = by (version_cmp v e.0) refl (put_hidden v t p es)
    where
      by : (o : Ordering) → version_cmp v e.0 ≡ o → filter passes (insert_entry version_cmp es v t) ≡ filter passes es
          → filter passes (match_ordering o ((v, t) ∷ e ∷ es) ((e.0, t) ∷ es) (e ∷ insert_entry version_cmp es v t))
          ≡ filter passes (e ∷ es)
      by Less l later = ap (λ b. cond b ((v, t) ∷ filter passes (e ∷ es)) (filter passes (e ∷ es))) p
      by Equal l later =
          let same : v ≡ e.0 = version_exact v e.0 l in
          let hidden : P e.0 ≡ false = ap P (sym same) ∙ p in
          ap (λ b. cond b ((e.0, t) ∷ filter passes es) (filter passes es)) hidden
          ∙ sym (ap (λ b. cond b (e ∷ filter passes es) (filter passes es)) hidden)
      by Greater l later = ap (λ z. cond (P e.0) (e ∷ z) z) later

  abbrev passing : TransactionValue → Bool
  passing t = P (version_of t)

  put_those : (ts : List TransactionValue) (known : Versions) → IsStrictlySortedBy version_cmp (keys_of known)
      → put_versions (filter passes known) (filter passing ts) ≡ filter passes (put_versions known ts)
  put_those [] known s = refl
  put_those (t ∷ ts) known s =
      by (P (version_of t)) refl (put_those ts (insert_entry version_cmp known (version_of t) t)
      (sorted_put version_total version_exact (version_of t) t known s))
    where
      by : (c : Bool) → P (version_of t) ≡ c
          → put_versions (filter passes (insert_entry version_cmp known (version_of t) t)) (filter passing ts)
          ≡ filter passes (put_versions (insert_entry version_cmp known (version_of t) t) ts)
          → put_versions (filter passes known) (cond (P (version_of t)) (t ∷ filter passing ts) (filter passing ts))
          ≡ filter passes (put_versions (insert_entry version_cmp known (version_of t) t) ts)
      by true q later =
          ap (λ b. put_versions (filter passes known) (cond b (t ∷ filter passing ts) (filter passing ts))) q
          ∙ ap (λ z. put_versions z (filter passing ts)) (sym (put_passing (version_of t) t q known s))
          ∙ later
      by false q later =
          ap (λ b. put_versions (filter passes known) (cond b (t ∷ filter passing ts) (filter passing ts))) q
          ∙ ap (λ z. put_versions z (filter passing ts)) (sym (put_hidden (version_of t) t q known))
          ∙ later

-- ---- each entry stands at its transaction's version

abbrev second : Entry → TransactionValue
second e = e.1

abbrev AreKeyed : Versions → Type 0
AreKeyed [] = Unit {0}
AreKeyed (e ∷ es) = (e.0 ≡ version_of e.1) × AreKeyed es

keyed_put : (v : Version) (t : TransactionValue) → v ≡ version_of t → (es : Versions) → AreKeyed es
    → AreKeyed (insert_entry version_cmp es v t)
keyed_put v t k [] a = (k, tt)
keyed_put v t k (e ∷ es) a = by (version_cmp v e.0) refl (keyed_put v t k es a.1)
  where
    by : (o : Ordering) → version_cmp v e.0 ≡ o → AreKeyed (insert_entry version_cmp es v t)
        → AreKeyed (match_ordering o ((v, t) ∷ e ∷ es) ((e.0, t) ∷ es) (e ∷ insert_entry version_cmp es v t))
    by Less l later = (k, a)
    by Equal l later = (sym (version_exact v e.0 l) ∙ k, a.1)
    by Greater l later = (a.0, later)

keyed_versions : (ts : List TransactionValue) (known : Versions) → AreKeyed known → AreKeyed (put_versions known ts)
keyed_versions [] known a = a
keyed_versions (t ∷ ts) known a =
    keyed_versions ts (insert_entry version_cmp known (version_of t) t) (keyed_put (version_of t) t refl known a)

seconds : (P : Version → Bool) (es : Versions) → AreKeyed es
    → map second (filter (passes P) es) ≡ filter (passing P) (map second es)
seconds P [] a = refl
seconds P (e ∷ es) a = by (P e.0) refl (seconds P es a.1)
  where
    by : (c : Bool) → P e.0 ≡ c → map second (filter (passes P) es) ≡ filter (passing P) (map second es)
        → map second (cond (P e.0) (e ∷ filter (passes P) es) (filter (passes P) es))
        ≡ cond (P (version_of e.1)) (e.1 ∷ filter (passing P) (map second es)) (filter (passing P) (map second es))
    by c q later =
        ap (λ b. map second (cond b (e ∷ filter (passes P) es) (filter (passes P) es))) q
        ∙ both c later
        ∙ sym (ap (λ b. cond b (e.1 ∷ filter (passing P) (map second es)) (filter (passing P) (map second es)))
        (ap P (sym a.0) ∙ q))
      where
        both : (c : Bool) → map second (filter (passes P) es) ≡ filter (passing P) (map second es)
            → map second (cond c (e ∷ filter (passes P) es) (filter (passes P) es))
            ≡ cond c (e.1 ∷ filter (passing P) (map second es)) (filter (passing P) (map second es))
        both true l = ap (λ z. e.1 ∷ z) l
        both false l = l

-- those that pass, in the order of their versions, are those of all in that order that pass
pub filter_of_order : (P : Version → Bool) (ts : List TransactionValue)
    → by_version (filter (passing P) ts) ≡ filter (passing P) (by_version ts)
unfolding IsStrictlySortedBy
filter_of_order P ts =
    ap (map second) (put_those P ts [] tt)
    ∙ seconds P (put_versions [] ts) (keyed_versions ts [] tt)
