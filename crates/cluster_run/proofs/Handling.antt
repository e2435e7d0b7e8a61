-- What a replica does at a seen message keeps the invariant.
use Rattle.serial_laws.specs.Laws.{SettingsAreSane}
use Rattle.cluster_run.proofs.Members.{in_cases, in_head, in_rest}
use Rattle.std.proofs.Common.{◌≡◌, ℕ, ◌==◌, Bool, true, false, cond, ◌&&◌, List, [], ◌∷◌, ◌++◌, Some, None, refl, sym, ap, subst, ◌∙◌, inl}
use Rattle.std.proofs.Common.{inr, arith, append-nil}
use Rattle.std.specs.Prelude.{Contains, filter_map, find, Ok, map}
use Rattle.std.specs.List.{list_any}
use Rattle.std.proofs.lemmas.Bool.{cases_Bool, cases_eq, and_parts, and_from, or_left, or_right, or_cases, eqb-true, eq-eqb, ne_eqb}
use Rattle.std.proofs.lemmas.List.Elements.{Contains-append_left, Contains-append_cases, filter_map-append}
use Rattle.basil_types.specs.declared.party.Party.{Party}
use Rattle.basil_types.specs.declared.party.Party.TheVariants.{Replica}
use Rattle.basil_types.specs.Transaction.{TransactionValue, id}
use Rattle.basil_types.specs.Words.{SignedWords, AreWords, WordsTellFields}
use Rattle.certificates.specs.Accepted.{accepts}
use Rattle.certificates.specs.Deciding.{Aborts}
use Rattle.certificates.specs.Laws.{CertificatesCarry}
use Rattle.certificates.specs.Refusals.{decision_of}
use Rattle.frame_views.specs.Fitting.{FitsMessage, bounds_of}
use Rattle.frame_views.specs.Signed.{SignedBy, signed_in}
use Rattle.frame_views.specs.Values.{MessageValue, CommittedValue}
use Rattle.premise_watch.specs.Breaches.{NotedWords, WatchValue, is_noted, said}
use Rattle.premise_watch.specs.Breaches as watch
use Rattle.txn_table.specs.Entries.{same_party}
use Rattle.replica_core.specs.Answers.{answer_message}
use Rattle.replica_core.specs.Replicas.{BookValue, Done}
use Rattle.agreement_laws.specs.Words as laws
use Rattle.agreement_laws.specs.Certificates as can
use Rattle.agreement_laws.specs.Invariants.{Invariant}
use Rattle.agreement_laws.specs.Laws.{HoldsAfterAnswer}
use Rattle.agreement_laws.specs.Runs as runs
use Rattle.cluster_run.specs.Acting.{node, Leads}
use Rattle.cluster_run.specs.Answering.{IsInOrder, IsSeen, IsSized, AnswersAreActs, AnswersKeepOrder, AnswersSignWords}
use Rattle.cluster_run.specs.Parts.{is_proven, replica_self, noted}
use Rattle.cluster_run.specs.Settings.{Lookup, word_as, words_as}
use Rattle.cluster_run.specs.States.{Setup, IsSetup, is_faulty, Standing, standing, is_at, put_standing, State}
use Rattle.frame_views.specs.Carried.{transactions_in, pairs_in}
use Rattle.cluster_run.proofs.Finding.{true_false}
use Rattle.cluster_run.proofs.Running.{words_by, signed_by, book_of, book_at, aborted_in, abs, scene, set, IsProof, FitsTexts, Fine, Inv}
use Rattle.cluster_run.proofs.Running.{party_same, party_self, backed}
use Rattle.cluster_run.proofs.Sanity.{sane}
use Rattle.cluster_run.proofs.Slots.{ext}
use Rattle.cluster_run.proofs.Writes.{mapped}

-- ---- replicas by place

pub at_parts : (a c : ℕ) (x : Standing) → is_at a c x ≡ true → (x.shard ≡ a) × (x.index ≡ c)
at_parts a c x h = let both = and_parts (x.shard == a) (x.index == c) h in (eqb-true x.shard a both.0, eqb-true x.index c both.1)

pub at_from : (a c : ℕ) (x : Standing) → x.shard ≡ a → x.index ≡ c → is_at a c x ≡ true
at_from a c x e f = and_from _ _ (eq-eqb x.shard a e) (eq-eqb x.index c f)

pub found_at : (a c : ℕ) (xs : List Standing) (x : Standing) → find (is_at a c) xs ≡ Some x → is_at a c x ≡ true
found_at a c [] x h = absurd cc
found_at a c (y ∷ ys) x h = elim (cases_Bool (is_at a c y)) [
  | inl i ↦
      let q : Some y ≡ Some x = sym (ap (λ b. cond b (Some y) (find (is_at a c) ys)) i) ∙ h in
      let is : y ≡ x = cc in
      ap (is_at a c) (sym is) ∙ i
  | inr n ↦ found_at a c ys x (sym (ap (λ b. cond b (Some y) (find (is_at a c) ys)) n) ∙ h)
]

pub put_same : (a c : ℕ) (x was : Standing) (ys : List Standing) → is_at a c x ≡ true → find (is_at a c) ys ≡ Some was →
    find (is_at a c) (put_standing x ys) ≡ Some x
put_same a c x was [] h k = absurd cc
put_same a c x was (y ∷ ys) h k = by (is_at x.shard x.index y) refl (put_same a c x was ys h) k
  where
    by : (b : Bool) → is_at x.shard x.index y ≡ b → (find (is_at a c) ys ≡ Some was → find (is_at a c) (put_standing x ys) ≡ Some x) →
        cond (is_at a c y) (Some y) (find (is_at a c) ys) ≡ Some was → find (is_at a c) (cond b (x ∷ ys) (y ∷ put_standing x ys)) ≡ Some x
    by true e r k = ap (λ b. cond b (Some x) (find (is_at a c) ys)) h
    by false e r k =
        let place = at_parts a c x h in
        let other : is_at a c y ≡ false = sym (ap (λ (n : ℕ). is_at n x.index y) place.0 ∙ ap (λ (n : ℕ). is_at a n y) place.1) ∙ e in
        ap (λ b. cond b (Some y) (find (is_at a c) (put_standing x ys))) other
        ∙ r (sym (ap (λ b. cond b (Some y) (find (is_at a c) ys)) other) ∙ k)

pub put_other : (a c : ℕ) (x : Standing) (ys : List Standing) → is_at a c x ≡ false → find (is_at a c) (put_standing x ys)
    ≡ find (is_at a c) ys
put_other a c x [] h = refl
put_other a c x (y ∷ ys) h = by (is_at x.shard x.index y) refl (put_other a c x ys h)
  where
    by : (b : Bool) → is_at x.shard x.index y ≡ b → find (is_at a c) (put_standing x ys) ≡ find (is_at a c) ys →
        find (is_at a c) (cond b (x ∷ ys) (y ∷ put_standing x ys)) ≡ cond (is_at a c y) (Some y) (find (is_at a c) ys)
    by true e r =
        let place = at_parts x.shard x.index y e in
        let out : is_at a c y ≡ false =
        ap (λ (n : ℕ). (n == a) && (y.index == c)) place.0 ∙ ap (λ (n : ℕ). (x.shard == a) && (n == c)) place.1 ∙ h in
        ap (λ b. cond b (Some x) (find (is_at a c) ys)) h ∙ sym (ap (λ b. cond b (Some y) (find (is_at a c) ys)) out)
    by false e r = ap (cond (is_at a c y) (Some y)) r

-- ---- words that are noted

by_own : (p : Party) (ws : List SignedWords) → filter_map (words_by p) (map (λ x. record { party = p; words = x }) ws) ≡ ws
by_own p [] = refl
by_own p (w ∷ ws) =
    mapped (words_by p) (record { party = p; words = w }) (map (λ x. record { party = p; words = x }) ws) (Some w)
    (ap (λ b. cond b (Some w) None) (party_self p))
    ∙ ap (λ l. w ∷ l) (by_own p ws)

by_other : (p q : Party) (ws : List SignedWords) → same_party q p ≡ false →
    filter_map (words_by q) (map (λ x. record { party = p; words = x }) ws) ≡ []
by_other p q [] h = refl
by_other p q (w ∷ ws) h =
    mapped (words_by q) (record { party = p; words = w }) (map (λ x. record { party = p; words = x }) ws) None
    (ap (λ b. cond b (Some w) None) h)
    ∙ by_other p q ws h

pub signed_own : (w : WatchValue) (p : Party) (ws : List SignedWords) → signed_by (noted p ws w).signed p ≡ signed_by w.signed p ++ ws
signed_own w p ws =
    filter_map-append (words_by p) w.signed (map (λ x. record { party = p; words = x }) ws)
    ∙ ap (λ l. signed_by w.signed p ++ l) (by_own p ws)

pub signed_other : (w : WatchValue) (p q : Party) (ws : List SignedWords) → same_party q p ≡ false → signed_by (noted p ws w).signed q
    ≡ signed_by w.signed q
signed_other w p q ws h =
    filter_map-append (words_by q) w.signed (map (λ x. record { party = p; words = x }) ws)
    ∙ ap (λ l. signed_by w.signed q ++ l) (by_other p q ws h)
    ∙ append-nil (signed_by w.signed q)

pub any_append : {X : Type 0} (p : X → Bool) (xs ys : List X) → list_any p xs ≡ true → list_any p (xs ++ ys) ≡ true
any_append p [] ys h = absurd cc
any_append p (x ∷ xs) ys h = elim (or_cases (p x) (list_any p xs) h) [
  | inl i ↦ or_left (p x) (list_any p (xs ++ ys)) i
  | inr j ↦ or_right (p x) (list_any p (xs ++ ys)) (any_append p xs ys j)
]

pub said_grows : (w : WatchValue) (p : Party) (ws : List SignedWords) (g : SignedBy) → accepts (said w) g ≡ true →
    accepts (said (noted p ws w)) g ≡ true
said_grows w p ws g h = elim (or_cases (watch.is_faulty w g.party) (list_any (is_noted g.party g.words) w.signed) h) [
  | inl i ↦ or_left (watch.is_faulty w g.party) _ i
  | inr j ↦ or_right (watch.is_faulty w g.party) _ (any_append (is_noted g.party g.words) w.signed
      (map (λ x. record { party = p; words = x }) ws) j)
]

pub proof_grows : CertificatesCarry → (s : Setup) (w : WatchValue) (p : Party) (ws : List SignedWords) (c : CommittedValue) →
    IsProof s w c → IsProof s (noted p ws w) c
proof_grows carry s w p ws c k = record {
  fits = k.fits;
  form = k.form;
  seen = k.seen;
  nested = k.nested;
  proven = carry (said w) (said (noted p ws w)) s.cluster c.transaction (decision_of c.certificate.body) c.certificate
      (λ g _ h. said_grows w p ws g h) k.proven;
}

pub all_noted : (p : Party) (ws : List SignedWords) (n : NotedWords) → ((w : SignedWords) → Contains ws w → AreWords w) →
    Contains (map (λ x. record { party = p; words = x }) ws) n → AreWords n.words
all_noted p [] n f i = absurd (omega (arith, i.1))
all_noted p (w ∷ ws) n f i = elim (in_cases n (record { party = p; words = w }) (map (λ x. record { party = p; words = x }) ws) i) [
  | inl e ↦ subst (λ (n : NotedWords). AreWords n.words) e (f w (in_head w ws))
  | inr j ↦ all_noted p ws n (λ v k. f v (in_rest w v ws k)) j
]

-- ---- a seen message

pub record Saw (s : Setup) (st : State) (m : MessageValue) : Type 0 where
  pub fits : FitsMessage (bounds_of s.cluster) m
  pub said : (g : SignedBy) → Contains (signed_in m) g → accepts s.kit.accepts g ≡ true → accepts (watch.said st.watch) g ≡ true
  pub texts : (t : TransactionValue) → Contains (transactions_in m) t → Contains st.watch.texts t
  pub shown : (p : CommittedValue) → Contains (pairs_in m) p → Aborts s.kit.accepts s.cluster p.transaction p.certificate →
      aborted_in st (id p.transaction) ≡ true
  pub certified : (p : CommittedValue) → Contains (pairs_in m) p → is_proven s p ≡ true → Contains st.certified p

module _ (words_tell : WordsTellFields) (settings_sane : SettingsAreSane) (carry : CertificatesCarry)
    (are_acts : AnswersAreActs) (keep_order : AnswersKeepOrder) (sign_words : AnswersSignWords) (after_answer : HoldsAfterAnswer)
    (s : Setup) (ok : IsSetup s) (st : State) (inv : Inv s st) (m : MessageValue) (saw : Saw s st m) (from : Party) (x : Standing)
    (here : standing st x.shard x.index ≡ Some x) (correct : is_faulty s (Replica x.shard x.index) ≡ false)
    (d : Done) (did : answer_message (replica_self s x.shard x.index) x.moment from x.book m ≡ Ok d) where
  abbrev P : Party
  P = Replica x.shard x.index

  abbrev X : Standing
  X = record x { book = d.book }

  -- the state once the replica has answered
  abbrev pub St : State
  St = record st { replicas = put_standing X st.replicas; watch = noted P d.signed st.watch }

  pub here_at : is_at x.shard x.index X ≡ true
  here_at = at_from x.shard x.index X refl refl

  pub book_here : book_at St x.shard x.index ≡ d.book
  book_here = ap book_of (put_same x.shard x.index X x st.replicas here_at here)

  pub book_there : (a c : ℕ) → is_at a c X ≡ false → book_at St a c ≡ book_at st a c
  book_there a c n = ap book_of (put_other a c X st.replicas n)

  out : (a c : ℕ) → is_at a c X ≡ false → same_party (Replica a c) P ≡ false
  out a c n = elim (cases_Bool (same_party (Replica a c) P)) [
    | inl i ↦
        let e = party_same (Replica a c) P i in
        let both = and_parts (a == x.shard) (c == x.index) i in
        true_false (is_at a c X) (at_from a c X (sym (eqb-true a x.shard both.0)) (sym (eqb-true c x.index both.1))) n
    | inr j ↦ j
  ]

  -- one node has changed
  node_at : (acts : List (laws.Id × Rattle.agreement_laws.specs.Replicas.Act)) →
      runs.answered x.shard x.index ((abs st).nodes x.shard x.index) acts ≡ node (signed_by st.watch.signed P ++ d.signed) d.book →
      (a c : ℕ) → (runs.answers (abs st) x.shard x.index acts).nodes a c ≡ (abs St).nodes a c
  node_at acts ends a c = elim (cases_eq a x.shard) [
    | inl e ↦ elim (cases_eq c x.index) [
      | inl f ↦
          let there : (runs.answers (abs st) x.shard x.index acts).nodes a c ≡ node (signed_by st.watch.signed P ++ d.signed) d.book =
          ap (λ b. (cond b (runs.put ((abs st).nodes x.shard) x.index (runs.answered x.shard x.index ((abs st).nodes x.shard x.index) acts))
          ((abs st).nodes a)) c) (eq-eqb a x.shard e)
          ∙ ap (λ b. cond b (runs.answered x.shard x.index ((abs st).nodes x.shard x.index) acts) ((abs st).nodes x.shard c))
          (eq-eqb c x.index f) ∙ ends in
          let now : (abs St).nodes a c ≡ node (signed_by st.watch.signed P ++ d.signed) d.book =
          ap (λ (n : ℕ). (abs St).nodes n c) e ∙ ap (λ (n : ℕ). (abs St).nodes x.shard n) f
          ∙ ap (λ (ws : List SignedWords). node ws (book_at St x.shard x.index)) (signed_own st.watch P d.signed)
          ∙ ap (node (signed_by st.watch.signed P ++ d.signed)) book_here in
          there ∙ sym now
      | inr n ↦
          let not_at : is_at a c X ≡ false =
          Rattle.std.proofs.lemmas.Bool.and_right (x.shard == a) (x.index == c) (ne_eqb x.index c (λ i. n (sym i))) in
          ap (λ b. (cond b (runs.put ((abs st).nodes x.shard) x.index (runs.answered x.shard x.index ((abs st).nodes x.shard x.index) acts))
          ((abs st).nodes a)) c) (eq-eqb a x.shard e)
          ∙ ap (λ b. cond b (runs.answered x.shard x.index ((abs st).nodes x.shard x.index) acts) ((abs st).nodes x.shard c))
          (ne_eqb c x.index n)
          ∙ ap (λ (n : ℕ). (abs st).nodes n c) (sym e)
          ∙ sym (ap (λ (ws : List SignedWords). node ws (book_at St a c)) (signed_other st.watch P (Replica a c) d.signed (out a c not_at))
          ∙ ap (node (signed_by st.watch.signed (Replica a c))) (book_there a c not_at))
    ]
    | inr n ↦
        let not_at : is_at a c X ≡ false =
        Rattle.std.proofs.lemmas.Bool.and_left (x.shard == a) (x.index == c) (ne_eqb x.shard a (λ i. n (sym i))) in
        ap (λ b. (cond b (runs.put ((abs st).nodes x.shard) x.index (runs.answered x.shard x.index ((abs st).nodes x.shard x.index) acts))
        ((abs st).nodes a)) c) (ne_eqb a x.shard n)
        ∙ sym (ap (λ (ws : List SignedWords). node ws (book_at St a c)) (signed_other st.watch P (Replica a c) d.signed (out a c not_at))
        ∙ ap (node (signed_by st.watch.signed (Replica a c))) (book_there a c not_at))
  ]

  same_abs : (acts : List (laws.Id × Rattle.agreement_laws.specs.Replicas.Act)) →
      runs.answered x.shard x.index ((abs st).nodes x.shard x.index) acts ≡ node (signed_by st.watch.signed P ++ d.signed) d.book →
      runs.answers (abs st) x.shard x.index acts ≡ abs St
  same_abs acts ends =
      ap (λ (ns : ℕ → ℕ → runs.Node). record { nodes = ns; aborted = aborted_in st }) (ext _ _ (λ a. ext _ _ (λ c. node_at acts ends a c)))

  -- ---- what was signed stays signed

  signed_grows : (a c : ℕ) (w : laws.Word) → Contains (runs.signed_of (abs st) a c) w → Contains (runs.signed_of (abs St) a c) w
  signed_grows a c w i =
      subst (λ l. Contains l w) (sym (ap words_as (filter_map-append (words_by (Replica a c)) st.watch.signed
      (map (λ x. record { party = P; words = x }) d.signed))
      ∙ filter_map-append word_as (signed_by st.watch.signed (Replica a c))
      (filter_map (words_by (Replica a c)) (map (λ x. record { party = P; words = x }) d.signed))))
      (Contains-append_left (words_as (signed_by st.watch.signed (Replica a c))) _ w i)

  says_grows : (tx : Lookup) (a c : ℕ) (w : laws.Word) → can.Says (set s tx) (runs.signed_of (abs st)) a c w →
      can.Says (set s tx) (runs.signed_of (abs St)) a c w
  says_grows tx a c w (inl b) = inl b
  says_grows tx a c w (inr i) = inr (signed_grows a c w i)

  order_grows : (tx : Lookup) (shard : ℕ) (book : BookValue) → IsInOrder (scene s tx st) shard book → IsInOrder (scene s tx St) shard book
  order_grows tx shard book o = record {
    looked = o.looked;
    distinct = o.distinct;
    apart = o.apart;
    kept = λ k i. let q = o.kept k i in record { below = q.below; said = says_grows tx shard k.word.replica _ q.said };
  }

  seen : (tx : Lookup) → FitsTexts tx st → IsSeen (scene s tx st) s.kit.accepts m
  seen tx fits = record { fits = saw.fits; said = saw.said; looked = λ t i. fits t (saw.texts t i); shown = saw.shown }

  pub mine : (P : BookValue → Type 0) → P (book_at st x.shard x.index) → P x.book
  mine P h = subst P (ap book_of here) h

  -- what it did is a list of lawful acts
  pub went : (tx : Lookup) → FitsTexts tx st → Leads (set s tx) (runs.signed_of (abs st)) (aborted_in st) x.shard x.index
      (node (signed_by st.watch.signed P) x.book) (node (signed_by st.watch.signed P ++ d.signed) d.book)
  went tx fits =
      are_acts (scene s tx st) (replica_self s x.shard x.index) x.moment from x.book (signed_by st.watch.signed P) m d ok.setting refl
      (backed words_tell s st inv.faulty inv.words tx) (seen tx fits)
      (mine (IsInOrder (scene s tx st) x.shard) ((inv.fine tx fits).order x.shard x.index correct)) did

  fine : (tx : Lookup) → FitsTexts tx st → Fine s St tx
  fine tx fits =
      let was = inv.fine tx fits in
      let back = backed words_tell s st inv.faulty inv.words tx in
      let order = mine (IsInOrder (scene s tx st) x.shard) (was.order x.shard x.index correct) in
      let go = are_acts (scene s tx st) (replica_self s x.shard x.index) x.moment from x.book
      (signed_by st.watch.signed P) m d ok.setting refl back (seen tx fits) order did in
      let at : node (signed_by st.watch.signed P) x.book ≡ (abs st).nodes x.shard x.index =
      ap (node (signed_by st.watch.signed P)) (sym (ap book_of here)) in
      let may =
      subst (λ (n : runs.Node). runs.MayAnswer (set s tx) (runs.signed_of (abs st)) (aborted_in st) x.shard x.index n go.acts) at go.may
      in
      let ends : runs.answered x.shard x.index ((abs st).nodes x.shard x.index) go.acts
      ≡ node (signed_by st.watch.signed P ++ d.signed) d.book =
      ap (λ (n : runs.Node). runs.answered x.shard x.index n go.acts) (sym at) ∙ go.ends in
      let kept =
      keep_order (scene s tx st) (replica_self s x.shard x.index) x.moment from x.book m d ok.setting refl back
      (seen tx fits) order did in
      record {
        invariant =
            subst (Invariant (set s tx)) (same_abs go.acts ends)
            (after_answer (set s tx) (sane settings_sane s.cluster (λ a c. is_faulty s (Replica a c)) tx ok.few)
            (abs st) x.shard x.index go.acts was.invariant correct may);
        order = λ a c n. elim (cases_Bool (is_at a c X)) [
          | inl i ↦
              let place = at_parts a c X i in
              subst (λ (b : ℕ). IsInOrder (scene s tx St) b (book_at St b c)) place.0
              (subst (λ (b : ℕ). IsInOrder (scene s tx St) x.shard (book_at St x.shard b)) place.1
              (subst (IsInOrder (scene s tx St) x.shard) (sym book_here) (order_grows tx x.shard d.book kept)))
          | inr j ↦ subst (IsInOrder (scene s tx St) a) (sym (book_there a c j)) (order_grows tx a (book_at st a c) (was.order a c n))
        ];
      }

  pub handled : Inv s St
  handled =
      let sizes =
      sign_words (replica_self s x.shard x.index) x.moment from x.book m d saw.fits (mine IsSized (inv.sized x.shard x.index)) did in
      record {
        faulty = inv.faulty;
        words = λ n i. elim (Contains-append_cases st.watch.signed (map (λ x. record { party = P; words = x }) d.signed) n i)
            [ inl j ↦ inv.words n j | inr k ↦ all_noted P d.signed n sizes.0 k ];
        spelled = inv.spelled;
        unique = inv.unique;
        proofs = λ p i. proof_grows carry s st.watch P d.signed p (inv.proofs p i);
        sized = λ a c. elim (cases_Bool (is_at a c X)) [
          | inl i ↦
              let place = at_parts a c X i in
              subst (λ (b : ℕ). IsSized (book_at St b c)) place.0
              (subst (λ (b : ℕ). IsSized (book_at St x.shard b)) place.1 (subst IsSized (sym book_here) sizes.1))
          | inr j ↦ subst IsSized (sym (book_there a c j)) (inv.sized a c)
        ];
        fine = fine;
      }
