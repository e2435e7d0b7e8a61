-- A message that is seen without a breach keeps the invariant.
use Rattle.serial_laws.specs.Laws.{SettingsAreSane}
use Rattle.cluster_run.proofs.Members.{any_of, in_cases, in_head, in_rest}
use Rattle.std.proofs.Common.{◌≡◌, ℕ, Bool, true, false, cond, not, ◌&&◌, ◌||◌, List, [], ◌∷◌, ◌++◌, Option, Some, None, refl, sym, ap}
use Rattle.std.proofs.Common.{subst, ◌∙◌, inl, inr}
use Rattle.std.specs.Prelude.{Contains, filter, find, is_none}
use Rattle.std.specs.List.{list_any}
use Rattle.std.specs.Str.{bytes_eq}
use Rattle.std.proofs.lemmas.Bool.{cases_Bool, and_parts, and_from}
use Rattle.std.proofs.lemmas.List.Elements.{Contains-append_left, Contains-append_right, Contains-append_cases}
use Rattle.basil_types.specs.Built.{or_else}
use Rattle.basil_types.specs.Id.{id_of}
use Rattle.basil_types.specs.declared.party.Party.TheVariants.{Replica}
use Rattle.basil_types.specs.declared.party.Decision.{Decision}
use Rattle.basil_types.specs.declared.party.Decision.TheVariants.{Commit, Abort}
use Rattle.basil_types.specs.Transaction.{TransactionValue, IsTransaction, id, canonical}
use Rattle.basil_types.specs.Words.{WordsTellFields}
use Rattle.certificates.specs.Accepted.{Accepted, accepts}
use Rattle.certificates.specs.Deciding.{Aborts}
use Rattle.certificates.specs.Laws.{CertificatesExactly, CertificatesCarry}
use Rattle.certificates.specs.Refusals.{PairValue, nested, wrong_ids, mixed, mixed_pairs, strays, shortages, no_conflict, bad_signature}
use Rattle.certificates.specs.Refusals.{decision_of, refusal}
use Rattle.basil_types.specs.Decision.{same_decision}
use Rattle.certificates.specs.declared.refusal.CertRefusal.TheVariants.{Mixed}
use Rattle.frame_views.specs.Fitting.{FitsMessage, bounds_of}
use Rattle.frame_views.specs.Signed.{SignedBy, signed_in, certificate_signed}
use Rattle.frame_views.specs.Values.{MessageValue, CommittedValue, CertificateValue}
use Rattle.premise_watch.specs.declared.broken.Broken.TheVariants.{Forged}
use Rattle.premise_watch.specs.Breaches.{WatchValue, said, forged, collides, collision, seen_text, first_breach, after_marks}
use Rattle.premise_watch.specs.Marks.{MarkValue, Signature, Text, marks}
use Rattle.txn_meta.specs.Form.{form_fault}
use Rattle.agreement_laws.specs.Words as laws
use Rattle.agreement_laws.specs.Certificates as can
use Rattle.agreement_laws.specs.Invariants.{Invariant}
use Rattle.agreement_laws.specs.Laws.{HoldsAfterEvent}
use Rattle.agreement_laws.specs.Runs as runs
use Rattle.cluster_run.specs.Headline.{proves}
use Rattle.cluster_run.specs.Parts.{is_proven, saw}
use Rattle.cluster_run.specs.Settings.{Lookup, basis_of}
use Rattle.cluster_run.specs.States.{Setup, IsSetup, is_faulty, State}
use Rattle.frame_views.specs.Carried.{transactions_in, pairs_in}
use Rattle.law_joins.specs.Shown.{CertificatesAreCertificates}
use Rattle.cluster_run.proofs.Certs.{none_forged, carries}
use Rattle.cluster_run.proofs.Decides.{or_parts_none}
use Rattle.cluster_run.proofs.Finding.{same_true, same_self, true_false, mapped_none}
use Rattle.cluster_run.proofs.Handling.{Saw}
use Rattle.cluster_run.proofs.Marking.{none_in, signatures_marked, texts_marked, texts_spelled, pairs_are}
use Rattle.cluster_run.proofs.Running.{book_at, aborted_in, abs, scene, set, IsProof, FitsTexts, Fine, Inv, backed}
use Rattle.cluster_run.proofs.Sanity.{sane}
use Rattle.cluster_run.proofs.Slots.{ext}

-- ---- what marks leave

pub faulty_after : (w : WatchValue) (ms : List MarkValue) → (after_marks w ms).faulty ≡ w.faulty
faulty_after w [] = refl
faulty_after w (Signature g ∷ ms) = faulty_after w ms
faulty_after w (Text t ∷ ms) = faulty_after (seen_text w t) ms

pub signed_after : (w : WatchValue) (ms : List MarkValue) → (after_marks w ms).signed ≡ w.signed
signed_after w [] = refl
signed_after w (Signature g ∷ ms) = signed_after w ms
signed_after w (Text t ∷ ms) = signed_after (seen_text w t) ms

pub said_after : (w : WatchValue) (ms : List MarkValue) (g : SignedBy) → accepts (said (after_marks w ms)) g ≡ accepts (said w) g
said_after w [] g = refl
said_after w (Signature h ∷ ms) g = said_after w ms g
said_after w (Text t ∷ ms) g = said_after (seen_text w t) ms g

pub texts_stay : (w : WatchValue) (ms : List MarkValue) (t : TransactionValue) → Contains w.texts t → Contains (after_marks w ms).texts t
texts_stay w [] t i = i
texts_stay w (Signature g ∷ ms) t i = texts_stay w ms t i
texts_stay w (Text u ∷ ms) t i = texts_stay (seen_text w u) ms t (Contains-append_left w.texts (u ∷ []) t i)

pub texts_come : (w : WatchValue) (ms : List MarkValue) (t : TransactionValue) → Contains ms (Text t) → Contains (after_marks w ms).texts t
texts_come w [] t i = absurd (none_in (Text t) i)
texts_come w (Signature g ∷ ms) t i = elim (in_cases (Text t) (Signature g) ms i) [ inl e ↦ absurd cc | inr j ↦ texts_come w ms t j ]
texts_come w (Text u ∷ ms) t i = elim (in_cases (Text t) (Text u) ms i) [
  | inl e ↦
      let is : u ≡ t = cc in
      texts_stay (seen_text w u) ms t (Contains-append_right w.texts (u ∷ []) t
      (subst (λ (x : TransactionValue). Contains (u ∷ []) x) is (in_head u [])))
  | inr j ↦ texts_come (seen_text w u) ms t j
]

-- ---- no breach

forged_none : (A : Accepted) (w : WatchValue) (g : SignedBy) → forged A w g ≡ None → accepts A g ≡ true → accepts (said w) g ≡ true
forged_none A w g h k = by (accepts (said w) g) refl
  where
    by : (b : Bool) → accepts (said w) g ≡ b → accepts (said w) g ≡ true
    by true e = e
    by false e =
        let q : Some (Forged g.party g.words g.signature) ≡ None =
        sym (ap (λ b. cond (b && not (accepts (said w) g)) (Some (Forged g.party g.words g.signature)) None) k
        ∙ ap (λ b. cond (not b) (Some (Forged g.party g.words g.signature)) None) e) ∙ h in
        absurd cc

signatures_said : (A : Accepted) (w : WatchValue) (ms : List MarkValue) → first_breach A w ms ≡ None → (g : SignedBy) →
    Contains ms (Signature g) → accepts A g ≡ true → accepts (said w) g ≡ true
signatures_said A w [] h g i k = absurd (none_in (Signature g) i)
signatures_said A w (Signature x ∷ ms) h g i k =
    let parts = or_parts_none (forged A w x) (first_breach A w ms) h in
    elim (in_cases (Signature g) (Signature x) ms i) [
      | inl e ↦ let is : x ≡ g = cc in forged_none A w g (subst (λ (y : SignedBy). forged A w y ≡ None) is parts.0) k
      | inr j ↦ signatures_said A w ms parts.1 g j k
    ]
signatures_said A w (Text t ∷ ms) h g i k =
    let parts = or_parts_none (collision w t) (first_breach A (seen_text w t) ms) h in
    elim (in_cases (Signature g) (Text t) ms i) [ inl e ↦ absurd cc | inr j ↦ signatures_said A (seen_text w t) ms parts.1 g j k ]

pub find_none : {X : Type 0} (p : X → Bool) (xs : List X) → find p xs ≡ None → (x : X) → Contains xs x → p x ≡ false
find_none p [] h x i = absurd (none_in x i)
find_none p (y ∷ ys) h x i = elim (cases_Bool (p y)) [
  | inl t ↦ (let q : Some y ≡ None = sym (ap (λ b. cond b (Some y) (find p ys)) t) ∙ h in absurd cc)
  | inr n ↦ elim (in_cases x y ys i) [
    | inl e ↦ ap p (sym e) ∙ n
    | inr j ↦ find_none p ys (sym (ap (λ b. cond b (Some y) (find p ys)) n) ∙ h) x j
  ]
]

pub find_some : {X : Type 0} (p : X → Bool) (xs : List X) (x : X) → find p xs ≡ Some x → Contains xs x × (p x ≡ true)
find_some p [] x h = absurd cc
find_some p (y ∷ ys) x h = elim (cases_Bool (p y)) [
  | inl t ↦
      let q : Some y ≡ Some x = sym (ap (λ b. cond b (Some y) (find p ys)) t) ∙ h in
      let is : y ≡ x = cc in
      (subst (λ z. Contains (y ∷ ys) z) is (in_head y ys), ap p (sym is) ∙ t)
  | inr n ↦ let r = find_some p ys x (sym (ap (λ b. cond b (Some y) (find p ys)) n) ∙ h) in (in_rest y x ys r.0, r.1)
]

abbrev Unique : List TransactionValue → Type 0
Unique ts = (t u : TransactionValue) → Contains ts t → Contains ts u → id t ≡ id u → t ≡ u

abbrev Spelled : List TransactionValue → Type 0
Spelled ts = (t : TransactionValue) → Contains ts t → IsTransaction t

abbrev pub OneSpelling : Type 0
OneSpelling = (t u : TransactionValue) → IsTransaction t → IsTransaction u → canonical t ≡ canonical u → t ≡ u

module _ (one_spelling : OneSpelling) where
  -- a text that doesn't collide is the known one of its id
  no_clash : (w : WatchValue) (t u : TransactionValue) → Spelled w.texts → IsTransaction t → collision w t ≡ None → Contains w.texts u →
      id u ≡ id t → u ≡ t
  no_clash w t u all k h i e =
      let out : collides t u ≡ false = find_none (collides t) w.texts (mapped_none _ (find (collides t) w.texts) h) u i in
      elim (cases_Bool (bytes_eq (canonical u) (canonical t))) [
        | inl s ↦ one_spelling u t (all u i) k (same_true (canonical u) (canonical t) s)
        | inr n ↦
            true_false (collides t u) (and_from (bytes_eq (id_of (canonical u)) (id_of (canonical t)))
            (not (bytes_eq (canonical u) (canonical t))) (ap (λ (x : List ℕ). bytes_eq x (id t)) e ∙ same_self (id t)) (ap not n)) out
      ]

  unique_push : (w : WatchValue) (t : TransactionValue) → Unique w.texts → Spelled w.texts → IsTransaction t → collision w t ≡ None →
      Unique (seen_text w t).texts
  unique_push w t one all k h a b i j e = elim (Contains-append_cases w.texts (t ∷ []) a i) [
    | inl p ↦ elim (Contains-append_cases w.texts (t ∷ []) b j) [
      | inl q ↦ one a b p q e
      | inr q ↦ elim (in_cases b t [] q) [
        | inl s ↦ no_clash w t a all k h p (e ∙ ap (λ (x : TransactionValue). id x) (sym s)) ∙ s
        | inr n ↦ absurd (none_in b n)
      ]
    ]
    | inr p ↦ elim (in_cases a t [] p) [
      | inl r ↦ elim (Contains-append_cases w.texts (t ∷ []) b j) [
        | inl q ↦ sym r ∙ sym (no_clash w t b all k h q (sym e ∙ ap (λ (x : TransactionValue). id x) (sym r)))
        | inr q ↦ elim (in_cases b t [] q) [ inl s ↦ sym r ∙ s | inr n ↦ absurd (none_in b n) ]
      ]
      | inr n ↦ absurd (none_in a n)
    ]
  ]

  spelled_push : (w : WatchValue) (t : TransactionValue) → Spelled w.texts → IsTransaction t → Spelled (seen_text w t).texts
  spelled_push w t all k u i = elim (Contains-append_cases w.texts (t ∷ []) u i) [
    | inl p ↦ all u p
    | inr q ↦ elim (in_cases u t [] q) [ inl e ↦ subst IsTransaction e k | inr n ↦ absurd (none_in u n) ]
  ]

  both_after : (A : Accepted) (w : WatchValue) (ms : List MarkValue) → Unique w.texts → Spelled w.texts →
      ((t : TransactionValue) → Contains ms (Text t) → IsTransaction t) → first_breach A w ms ≡ None → Unique (after_marks w ms).texts
      × Spelled (after_marks w ms).texts
  both_after A w [] one all f h = (one, all)
  both_after A w (Signature g ∷ ms) one all f h =
      both_after A w ms one all (λ t i. f t (in_rest (Signature g) (Text t) ms i)) (or_parts_none (forged A w g) (first_breach A w ms) h).1
  both_after A w (Text t ∷ ms) one all f h =
      let parts = or_parts_none (collision w t) (first_breach A (seen_text w t) ms) h in
      let k = f t (in_head (Text t) ms) in
      both_after A (seen_text w t) ms (unique_push w t one all k parts.0) (spelled_push w t all k)
      (λ u i. f u (in_rest (Text t) (Text u) ms i)) parts.1

-- ---- certificates that come

pub in_filter : {X : Type 0} (p : X → Bool) (xs : List X) (x : X) → Contains (filter p xs) x → Contains xs x × (p x ≡ true)
in_filter p [] x i = absurd (none_in x i)
in_filter p (y ∷ ys) x i = by (p y) refl i (λ k. in_filter p ys x k)
  where
    by : (b : Bool) → p y ≡ b → Contains (cond b (y ∷ filter p ys) (filter p ys)) x →
        (Contains (filter p ys) x → Contains ys x × (p x ≡ true)) → Contains (y ∷ ys) x × (p x ≡ true)
    by true e i f =
        elim (in_cases x y (filter p ys) i) [
          | inl s ↦ (subst (λ z. Contains (y ∷ ys) z) s (in_head y ys), ap p (sym s) ∙ e)
          | inr j ↦ let r = f j in (in_rest y x ys r.0, r.1)
        ]
    by false e i f = let r = f i in (in_rest y x ys r.0, r.1)

pub filter_in : {X : Type 0} (p : X → Bool) (xs : List X) (x : X) → Contains xs x → p x ≡ true → Contains (filter p xs) x
filter_in p [] x i h = absurd (none_in x i)
filter_in p (y ∷ ys) x i h = by (p y) refl (λ j. filter_in p ys x j h)
  where
    by : (b : Bool) → p y ≡ b → (Contains ys x → Contains (filter p ys) x) → Contains (cond b (y ∷ filter p ys) (filter p ys)) x
    by true e f =
        elim (in_cases x y ys i) [
          | inl s ↦ subst (λ z. Contains (y ∷ filter p ys) z) s (in_head y (filter p ys))
          | inr j ↦ in_rest y x (filter p ys) (f j)
        ]
    by false e f = elim (in_cases x y ys i) [ inl s ↦ true_false (p y) (ap p s ∙ h) e | inr j ↦ f j ]

pub none_from : {A : Type 0} (o : Option A) → is_none o ≡ true → o ≡ None
none_from None h = refl
none_from (Some a) h = absurd cc

is_abort_by : (d : Decision) → same_decision d Abort ≡ true → d ≡ Abort
is_abort_by Commit h = absurd cc
is_abort_by Abort h = refl

-- what isn't refused as an abort decides so
not_mixed : (d : Decision) → cond (same_decision d Abort) None (Some Mixed) ≡ None → d ≡ Abort
not_mixed Commit h = absurd cc
not_mixed Abort h = refl

decided_abort : (A : Accepted) (c : Rattle.basil_types.specs.Setting.Setting) (t : TransactionValue) (x : CertificateValue) →
    refusal A c t Abort x ≡ None → decision_of x.body ≡ Abort
decided_abort A c t x h =
    let p : PairValue = record { transaction = t; certificate = x } in
    let rest =
    or_else (strays c p (nested p)) (or_else (shortages c p (nested p))
    (or_else (no_conflict p) (bad_signature A (certificate_signed x)))) in
    let a = or_parts_none (wrong_ids p (nested p)) (or_else (mixed_pairs Abort p (nested p)) rest) h in
    let b = or_parts_none (mixed_pairs Abort p (nested p)) rest a.1 in
    let m = or_parts_none (mixed Abort p) (Rattle.std.specs.Prelude.option_and_then (mixed Commit) (nested p)) b.0 in
    not_mixed (decision_of x.body) m.0

-- ---- abort certificates that are shown, one after the other

abbrev aborts_of : List CommittedValue → laws.Id → Bool
aborts_of ps x = list_any (λ (p : CommittedValue). bytes_eq x (id p.transaction) && proves Abort p) ps

abbrev show_one : runs.State → CommittedValue → Bool → runs.State
show_one st p true = runs.happens st (runs.Shows (id p.transaction))
show_one st p false = st

abbrev show_all : runs.State → List CommittedValue → runs.State
show_all st [] = st
show_all st (p ∷ ps) = show_all (show_one st p (proves Abort p)) ps

nodes_shown : (st : runs.State) (ps : List CommittedValue) → (show_all st ps).nodes ≡ st.nodes
nodes_shown st [] = refl
nodes_shown st (p ∷ ps) = nodes_shown (show_one st p (proves Abort p)) ps ∙ by (proves Abort p)
  where
    by : (b : Bool) → (show_one st p b).nodes ≡ st.nodes
    by true = refl
    by false = refl

aborted_shown : (st : runs.State) (ps : List CommittedValue) (x : laws.Id) → (show_all st ps).aborted x ≡ (st.aborted x || aborts_of ps x)
aborted_shown st [] x = by (st.aborted x)
  where
    by : (b : Bool) → b ≡ (b || false)
    by true = refl
    by false = refl
aborted_shown st (p ∷ ps) x =
    aborted_shown (show_one st p (proves Abort p)) ps x ∙ ap (λ b. b || aborts_of ps x) (one_shown (proves Abort p))
    ∙ regroup (bytes_eq x (id p.transaction)) (proves Abort p) (st.aborted x) (aborts_of ps x)
  where
    one_shown : (b : Bool) → (show_one st p b).aborted x ≡ cond b (cond (bytes_eq x (id p.transaction)) true (st.aborted x)) (st.aborted x)
    one_shown true = refl
    one_shown false = refl

    regroup : (e b a r : Bool) → (cond b (cond e true a) a || r) ≡ (a || ((e && b) || r))
    regroup true true true r = refl
    regroup true true false r = refl
    regroup true false true r = refl
    regroup true false false r = refl
    regroup false true true r = refl
    regroup false true false r = refl
    regroup false false true r = refl
    regroup false false false r = refl

any_joined : {X : Type 0} (p : X → Bool) (xs ys : List X) → list_any p (xs ++ ys) ≡ (list_any p xs || list_any p ys)
any_joined p [] ys = refl
any_joined p (x ∷ xs) ys = by (p x) (any_joined p xs ys)
  where
    by : (b : Bool) → list_any p (xs ++ ys) ≡ (list_any p xs || list_any p ys) → (b || list_any p (xs ++ ys))
        ≡ ((b || list_any p xs) || list_any p ys)
    by true r = refl
    by false r = r

-- ---- a message

module _ (words_tell : WordsTellFields) (settings_sane : SettingsAreSane) (one_spelling : OneSpelling) (exactly : CertificatesExactly)
    (carry : CertificatesCarry) (certificates : CertificatesAreCertificates) (after_event : HoldsAfterEvent)
    (s : Setup) (ok : IsSetup s) (st : State) (inv : Inv s st) (m : MessageValue) (fits : FitsMessage (bounds_of s.cluster) m)
    (none : first_breach s.kit.accepts st.watch (marks m) ≡ None) where
  abbrev pub St : State
  St = saw s m st

  abbrev New : List CommittedValue
  New = filter (is_proven s) (pairs_in m)

  same_signed : St.watch.signed ≡ st.watch.signed
  same_signed = signed_after st.watch (marks m)

  said_now : (g : SignedBy) → accepts (said st.watch) g ≡ true → accepts (said St.watch) g ≡ true
  said_now g h = said_after st.watch (marks m) g ∙ h

  signatures : (g : SignedBy) → Contains (signed_in m) g → accepts s.kit.accepts g ≡ true → accepts (said St.watch) g ≡ true
  signatures g i h = said_now g (signatures_said s.kit.accepts st.watch (marks m) none g (signatures_marked m g i) h)

  came : (t : TransactionValue) → Contains (transactions_in m) t → Contains St.watch.texts t
  came t i = texts_come st.watch (marks m) t (texts_marked m t i)

  -- an old proof and a new one
  old_proof : (p : CommittedValue) → IsProof s st.watch p → IsProof s St.watch p
  old_proof p k = record {
    fits = k.fits;
    form = k.form;
    seen = texts_stay st.watch (marks m) p.transaction k.seen;
    nested = λ u i. texts_stay st.watch (marks m) u (k.nested u i);
    proven = carry (said st.watch) (said St.watch) s.cluster p.transaction (decision_of p.certificate.body) p.certificate
        (λ g _ h. said_now g h) k.proven;
  }

  new_proof : (p : CommittedValue) → Contains New p → IsProof s St.watch p
  new_proof p i =
      let found = in_filter (is_proven s) (pairs_in m) p i in
      let both =
      and_parts (is_none (form_fault p.transaction))
      (is_none (refusal s.kit.accepts s.cluster p.transaction (decision_of p.certificate.body) p.certificate)) found.1 in
      let pair = pairs_are (bounds_of s.cluster) m p fits found.0 in
      record {
        fits = pair.fits;
        form = none_from (form_fault p.transaction) both.0;
        seen = came p.transaction pair.text;
        nested = λ u j. came u (pair.nested u j);
        proven = carry s.kit.accepts (said St.watch) s.cluster p.transaction (decision_of p.certificate.body) p.certificate
            (λ g j h. signatures g (pair.signed g j) h)
            (none_from (refusal s.kit.accepts s.cluster p.transaction (decision_of p.certificate.body) p.certificate) both.1);
      }

  -- ---- the invariant of the argument

  module _ (tx : Lookup) (looked : FitsTexts tx St) where
    looked_before : FitsTexts tx st
    looked_before t i = looked t (texts_stay st.watch (marks m) t i)

    abort_can : (p : CommittedValue) → IsProof s St.watch p → proves Abort p ≡ true →
        can.CanAbort (set s tx) (runs.signed_of (abs St)) (id p.transaction)
    abort_can p k a =
        let d : decision_of p.certificate.body ≡ Abort = is_abort_by (decision_of p.certificate.body) a in
        let no : refusal (said St.watch) s.cluster p.transaction Abort p.certificate ≡ None =
        sym (ap (λ (d : Decision). refusal (said St.watch) s.cluster p.transaction d p.certificate) d) ∙ k.proven in
        let aborts = (exactly (said St.watch) s.cluster p.transaction Abort p.certificate ok.setting k.fits k.form).0 no in
        let back =
        backed words_tell s St (faulty_after st.watch (marks m) ∙ inv.faulty)
        (λ n i. inv.words n (subst (λ l. Contains l n) same_signed i)) tx in
        (certificates (said St.watch) (basis_of s.cluster (λ a c. is_faulty s (Replica a c)) tx) (runs.signed_of (abs St))
        (none_forged (scene s tx St) back) p.transaction (looked p.transaction k.seen) p.certificate k.fits
        (carries s.cluster (λ a c. is_faulty s (Replica a c)) tx p.certificate.body (λ u i. looked u (k.nested u i)))).aborts aborts

    -- what is signed is as before
    signed_same : runs.signed_of (abs St) ≡ runs.signed_of (abs st)
    signed_same =
        ap (λ (ns : List Rattle.premise_watch.specs.Breaches.NotedWords). λ (a c : ℕ).
        (Rattle.cluster_run.specs.Acting.node (Rattle.cluster_run.proofs.Running.signed_by ns (Replica a c)) (book_at st a c)).own)
        same_signed

    shown_keeps : (ps : List CommittedValue) (a : runs.State) → runs.signed_of a ≡ runs.signed_of (abs St) →
        ((p : CommittedValue) → Contains ps p → IsProof s St.watch p) → Invariant (set s tx) a → Invariant (set s tx) (show_all a ps)
    shown_keeps [] a e f k = k
    shown_keeps (p ∷ ps) a e f k = by (proves Abort p) refl
        (λ b h g. shown_keeps ps (show_one a p b) h (λ q j. f q (in_rest p q ps j)) g)
      where
        by : (b : Bool) → proves Abort p ≡ b → ((b : Bool) → runs.signed_of (show_one a p b) ≡ runs.signed_of (abs St) →
            Invariant (set s tx) (show_one a p b) → Invariant (set s tx) (show_all (show_one a p b) ps)) →
            Invariant (set s tx) (show_all (show_one a p b) ps)
        by true i rec =
            rec true e (after_event (set s tx) (sane settings_sane s.cluster (λ a c. is_faulty s (Replica a c)) tx ok.few) a
            (runs.Shows (id p.transaction)) k
            (subst (λ (g : can.Signed). can.CanAbort (set s tx) g (id p.transaction)) (sym e) (abort_can p (f p (in_head p ps)) i)))
        by false i rec = rec false e k

    aborted_same : (x : laws.Id) → (show_all (abs st) New).aborted x ≡ aborted_in St x
    aborted_same x =
        aborted_shown (abs st) New x ∙ sym (any_joined (λ (p : CommittedValue). bytes_eq x (id p.transaction) && proves Abort p)
        st.certified New)

    nodes_same : (show_all (abs st) New).nodes ≡ (abs St).nodes
    nodes_same =
        nodes_shown (abs st) New ∙ ap (λ (ns : List Rattle.premise_watch.specs.Breaches.NotedWords). λ (a c : ℕ).
        Rattle.cluster_run.specs.Acting.node (Rattle.cluster_run.proofs.Running.signed_by ns (Replica a c)) (book_at st a c))
        (sym same_signed)

    abs_same : show_all (abs st) New ≡ abs St
    abs_same = λ i. record { nodes = nodes_same i; aborted = ext (show_all (abs st) New).aborted (aborted_in St) aborted_same i }

    fine : Fine s St tx
    fine =
        let was = inv.fine tx looked_before in
        record {
          invariant = subst (Invariant (set s tx)) abs_same (shown_keeps New (abs st) (sym signed_same) new_proof was.invariant);
          order = λ a c n. let o = was.order a c n in record {
            looked = o.looked;
            distinct = o.distinct;
            apart = o.apart;
            kept = λ k i. let q = o.kept k i in record {
              below = q.below;
              said = subst
                  (λ (g : can.Signed). can.Says (set s tx) g a k.word.replica
                  (laws.Election a k.word.replica k.id (Rattle.law_joins.specs.Shown.decision_of k.word.decision) k.view))
                  (sym signed_same) q.said;
            };
          };
        }

  pub seen_keeps : Inv s St
  seen_keeps =
      let texts' =
      both_after one_spelling s.kit.accepts st.watch (marks m) inv.unique inv.spelled
      (λ t i. texts_spelled (bounds_of s.cluster) m t fits i) none in
      record {
        faulty = faulty_after st.watch (marks m) ∙ inv.faulty;
        words = λ n i. inv.words n (subst (λ l. Contains l n) same_signed i);
        spelled = texts'.1;
        unique = texts'.0;
        proofs = λ p i. elim (Contains-append_cases st.certified New p i) [ inl j ↦ old_proof p (inv.proofs p j) | inr k ↦ new_proof p k ];
        sized = inv.sized;
        fine = fine;
      }

  -- an accepted abort of a pair of the message was shown
  shown_now : (p : CommittedValue) → Contains (pairs_in m) p → Aborts s.kit.accepts s.cluster p.transaction p.certificate →
      aborted_in St (id p.transaction) ≡ true
  shown_now p i k =
      let no : refusal s.kit.accepts s.cluster p.transaction Abort p.certificate ≡ None =
      (exactly s.kit.accepts s.cluster p.transaction Abort p.certificate ok.setting
      (pairs_are (bounds_of s.cluster) m p fits i).fits k.form).1 k in
      let d : decision_of p.certificate.body ≡ Abort = decided_abort s.kit.accepts s.cluster p.transaction p.certificate no in
      let proven : is_proven s p ≡ true =
      and_from _ _ (ap is_none k.form) (ap is_none (ap
      (λ (d : Decision). refusal s.kit.accepts s.cluster p.transaction d p.certificate) d ∙ no)) in
      any_of (λ (q : CommittedValue). bytes_eq (id p.transaction) (id q.transaction) && proves Abort q) St.certified p
      (Contains-append_right st.certified New p (filter_in (is_proven s) (pairs_in m) p i proven))
      (and_from _ _ (same_self (id p.transaction)) (ap (λ (d : Decision). same_decision d Abort) d))

  pub saw_it : Saw s St m
  saw_it = record {
    fits = fits;
    said = signatures;
    texts = came;
    shown = shown_now;
    certified = λ p i h. Contains-append_right st.certified
        New p (filter_in (is_proven s) (pairs_in m) p i h);
  }
