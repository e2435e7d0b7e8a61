-- What a run has seen grows, and what enters its pool is seen.
use Rattle.std.proofs.Common.{◌≡◌, ℕ, Bool, true, false, List, [], ◌∷◌, ◌++◌, Option, Some, None, refl, sym, ap, subst, ◌∙◌, ◌⊎◌, inl, inr}
use Rattle.std.specs.Prelude.{Contains, Result, Ok, Err, map, filter, not, ◌&&◌, ◌||◌, ⊤}
use Rattle.std.specs.List.{list_any}
use Rattle.std.proofs.lemmas.List.Elements.{Contains-append_left, Contains-append_right, Contains-push_cases}
use Rattle.std.proofs.lemmas.List.Folds.{list_any-append}
use Rattle.basil_types.specs.Built.{or_else}
use Rattle.basil_types.specs.declared.party.Party.{Party}
use Rattle.basil_types.specs.Transaction.{TransactionValue}
use Rattle.basil_types.specs.Words.{SignedWords}
use Rattle.basil_types.proofs.MemberLaws.{filter_in, in_cases, in_head, in_none}
use Rattle.certificates.specs.Accepted.{Accepted}
use Rattle.frame_views.specs.declared.fault.BadFrame.{BadFrame}
use Rattle.frame_views.specs.Carried.{pairs_in}
use Rattle.frame_views.specs.Signed.{SignedBy}
use Rattle.frame_views.specs.Values.{MessageValue, PairValue}
use Rattle.node_steps.specs.Refusing.{when}
use Rattle.premise_watch.specs.declared.broken.Broken.{Broken}
use Rattle.premise_watch.specs.declared.broken.Broken.TheVariants.{Forged}
use Rattle.premise_watch.specs.Breaches.{WatchValue, after_marks, first_breach, forged, is_faulty, is_noted, said, seen_text}
use Rattle.premise_watch.specs.Marks.{MarkValue, Signature, Text, marks}
use Rattle.cluster_run.specs.declared.fault.WorldFault.{WorldFault}
use Rattle.cluster_run.specs.Parts.{Mail, is_proven, noted, posted, read_frame, saw, see, see_message, unless_broken}
use Rattle.cluster_run.specs.States.{Setup, State, Posted}
use Rattle.sight_laws.specs.Seen.{IsSeen}

-- ---- what is said, and what is forged

any_more : {X : Type 0} (f : Bool) (test : X → Bool) (xs ys : List X) → (f || list_any test xs) ≡ true →
    (f || list_any test (xs ++ ys)) ≡ true
any_more true test xs ys h = refl
any_more false test xs ys h = list_any-append test xs ys ∙ ap (λ (b : Bool). b || list_any test ys) h

unforged : (a b c : Bool) (r : Broken) → (b ≡ true → c ≡ true) → when (a && not b) r ≡ None → when (a && not c) r ≡ None
unforged false b c r f h = refl
unforged true true c r f h = ap (λ (x : Bool). when (not x) r) (f refl)
unforged true false c r f h = absurd cc

-- what the one watch lets say the other does
abbrev pub SaysMore : WatchValue → WatchValue → Type 0
SaysMore w v = (p : Party) (words signature : List ℕ) → said w p words signature ≡ true → said v p words signature ≡ true

pub stays_unforged : (A : Accepted) (w v : WatchValue) (g : SignedBy) → SaysMore w v → forged A w g ≡ None → forged A v g ≡ None
stays_unforged A w v g more h =
    unforged (A g.party g.words g.signature) (said w g.party g.words g.signature) (said v g.party g.words g.signature)
    (Forged g.party g.words g.signature)
    (more g.party g.words g.signature) h

first_none : (x y : Option Broken) → or_else x y ≡ None → x ≡ None
first_none None y h = refl
first_none (Some r) y h = absurd cc

second_none : (x y : Option Broken) → or_else x y ≡ None → y ≡ None
second_none None y h = h
second_none (Some r) y h = absurd cc

-- ---- the marks of a message

after_says : (ms : List MarkValue) (w : WatchValue) → SaysMore w (after_marks w ms)
after_says [] w p words signature h = h
after_says (Signature g ∷ ms) w p words signature h = after_says ms w p words signature h
after_says (Text t ∷ ms) w p words signature h = after_says ms (seen_text w t) p words signature h

after_keeps : (ms : List MarkValue) (w : WatchValue) (t : TransactionValue) → Contains w.texts t → Contains (after_marks w ms).texts t
after_keeps [] w t h = h
after_keeps (Signature g ∷ ms) w t h = after_keeps ms w t h
after_keeps (Text u ∷ ms) w t h = after_keeps ms (seen_text w u) t (Contains-append_left w.texts (u ∷ []) t h)

after_has : (ms : List MarkValue) (w : WatchValue) (t : TransactionValue) → Contains ms (Text t) → Contains (after_marks w ms).texts t
after_has [] w t h = absurd (in_none (Text t) h)
after_has (Signature g ∷ ms) w t h = elim (in_cases (Signature g) ms (Text t) h) [
  | inl same ↦ absurd cc
  | inr more ↦ after_has ms w t more
]
after_has (Text u ∷ ms) w t h = elim (in_cases (Text u) ms (Text t) h) [
  | inl same ↦
      let is : u ≡ t = cc in
      after_keeps ms (seen_text w u) t
      (subst (Contains (w.texts ++ u ∷ [])) is (Contains-append_right w.texts (u ∷ []) u (in_head u [])))
  | inr more ↦ after_has ms (seen_text w u) t more
]

none_forged : (A : Accepted) (ms : List MarkValue) (w : WatchValue) (g : SignedBy) → first_breach A w ms ≡ None →
    Contains ms (Signature g) → forged A w g ≡ None
none_forged A [] w g h i = absurd (in_none (Signature g) i)
none_forged A (Signature f ∷ ms) w g h i = elim (in_cases (Signature f) ms (Signature g) i) [
  | inl same ↦
      let is : f ≡ g = cc in
      subst (λ (x : SignedBy). forged A w x ≡ None) is (first_none (forged A w f) (first_breach A w ms) h)
  | inr more ↦ none_forged A ms w g (second_none (forged A w f) (first_breach A w ms) h) more
]
none_forged A (Text t ∷ ms) w g h i = elim (in_cases (Text t) ms (Signature g) i) [
  | inl same ↦ absurd cc
  | inr more ↦ none_forged A ms (seen_text w t) g (second_none _ (first_breach A (seen_text w t) ms) h) more
]

-- ---- states

module _ (s : Setup) where
  -- a message that stood in the pool before
  abbrev WasThere : State → Posted → Type 0
  WasThere st p = (q : Posted) × Contains st.pool q × (q.frame ≡ p.frame)

  -- what was seen stays so, and what entered the pool is seen
  pub record Grows (st next : State) : Type 0 where
    pub says : SaysMore st.watch next.watch
    pub texts : (t : TransactionValue) → Contains st.watch.texts t → Contains next.watch.texts t
    pub certified : (p : PairValue) → Contains st.certified p → Contains next.certified p
    pub pool : (p : Posted) → Contains next.pool p → (m : MessageValue) → read_frame s p.frame ≡ Ok m →
        ((q : Posted) × Contains st.pool q × (q.frame ≡ p.frame)) ⊎ IsSeen s next.watch next.certified m

  pub stays_seen : (st next : State) (m : MessageValue) → Grows st next → IsSeen s st.watch st.certified m →
      IsSeen s next.watch next.certified m
  stays_seen st next m g i = record {
    texts = λ t h. g.texts t (i.texts t h);
    signed = λ x h. stays_unforged s.kit.accepts st.watch next.watch x g.says (i.signed x h);
    pairs = λ p h k. g.certified p (i.pairs p h k);
  }

  pub grows_then : (st mid next : State) → Grows st mid → Grows mid next → Grows st next
  grows_then st mid next f g = record {
    says = λ p words signature h. g.says p words signature (f.says p words signature h);
    texts = λ t h. g.texts t (f.texts t h);
    certified = λ p h. g.certified p (f.certified p h);
    pool = λ p h m r. elim (g.pool p h m r) [
      | inl there ↦ elim (f.pool there.0 there.1 m (ap (read_frame s) there.2 ∙ r)) [
        | inl before ↦ inl (before.0, before.1, before.2 ∙ there.2)
        | inr seen ↦ inr (stays_seen mid next m g seen)
      ]
      | inr seen ↦ inr seen
    ];
  }

  -- a step that neither signs nor sees, and sends nothing
  pub still : (st next : State) → next.watch ≡ st.watch → next.certified ≡ st.certified → next.pool ≡ st.pool → Grows st next
  still st next w c l = record {
    says = λ p words signature h. subst (λ (v : WatchValue). said v p words signature ≡ true) (sym w) h;
    texts = λ t h. subst (λ (v : WatchValue). Contains v.texts t) (sym w) h;
    certified = λ p h. subst (λ (ps : List PairValue). Contains ps p) (sym c) h;
    pool = λ p h m r. inl (p, subst (λ (ps : List Posted). Contains ps p) l h, refl);
  }

  pub grows_same : (st : State) → Grows st st
  grows_same st = still st st refl refl refl

  pub grows_noted : (st : State) (from : Party) (words : List SignedWords) → Grows st (record st { watch = noted from words st.watch })
  grows_noted st from words = record {
    says = λ p x signature h. any_more (is_faulty st.watch p) (is_noted p x) st.watch.signed
        (map (λ (w : SignedWords). record { party = from; words = w }) words) h;
    texts = λ t h. h;
    certified = λ p h. h;
    pool = λ p h m r. inl (p, h, refl);
  }

  -- ---- seeing

  saw_seen : (st : State) (m : MessageValue) → first_breach s.kit.accepts st.watch (marks m) ≡ None →
      IsSeen s (saw s m st).watch (saw s m st).certified m
  saw_seen st m none = record {
    texts = λ t h. after_has (marks m) st.watch t h;
    signed = λ g h. stays_unforged s.kit.accepts st.watch (after_marks st.watch (marks m)) g (after_says (marks m) st.watch)
        (none_forged s.kit.accepts (marks m) st.watch g none h);
    pairs = λ p h k. Contains-append_right st.certified (filter (is_proven s) (pairs_in m)) p (filter_in (is_proven s) (pairs_in m) p h k);
  }

  grows_saw : (st : State) (m : MessageValue) → Grows st (saw s m st)
  grows_saw st m = record {
    says = after_says (marks m) st.watch;
    texts = after_keeps (marks m) st.watch;
    certified = λ p h. Contains-append_left st.certified (filter (is_proven s) (pairs_in m)) p h;
    pool = λ p h n r. inl (p, h, refl);
  }

  -- what comes of a step, where it isn't refused
  abbrev pub Fine : State → Result State WorldFault → Type 0
  Fine st (Ok next) = Grows st next
  Fine st (Err e) = ⊤

  pub fine_from : (st mid : State) (r : Result State WorldFault) → Grows st mid → Fine mid r → Fine st r
  fine_from st mid (Ok next) g h = grows_then st mid next g h
  fine_from st mid (Err e) g h = tt

  pub see_fine : (frame : List ℕ) (st : State) → Fine st (see s frame st)
  see_fine frame st = by (read_frame s frame)
    where
      broken : (m : MessageValue) (o : Option Broken) → Fine st (unless_broken o (saw s m st))
      broken m None = grows_saw st m
      broken m (Some b) = tt

      by : (r : Result MessageValue BadFrame) → Fine st (see_message s r st)
      by (Ok m) = broken m (first_breach s.kit.accepts st.watch (marks m))
      by (Err e) = grows_same st

  -- where a step goes on
  pub grows_ok : (st next : State) (r : Result State WorldFault) → r ≡ Ok next → Fine st r → Grows st next
  grows_ok st next r is h = subst (Fine st) is h

  -- ---- the pool

  abbrev pub with_mail : Mail → State → State
  with_mail mail st = record st { pool = st.pool ++ posted mail ∷ [] }

  -- of what entered nothing can be read
  unread : (mail : Mail) (st : State) (e : BadFrame) → read_frame s mail.frame ≡ Err e → Grows st (with_mail mail st)
  unread mail st e bad = record {
    says = λ p words signature h. h;
    texts = λ t h. h;
    certified = λ p h. h;
    pool = λ p h m r. elim (Contains-push_cases st.pool (posted mail) p h) [
      | inl there ↦ inl (p, there, refl)
      | inr new ↦ (let read : read_frame s mail.frame ≡ Ok m = ap (λ (q : Posted). read_frame s q.frame) new ∙ r in absurd cc)
    ];
  }

  read : (mail : Mail) (st : State) (m : MessageValue) → read_frame s mail.frame ≡ Ok m →
      first_breach s.kit.accepts st.watch (marks m) ≡ None → Grows st (saw s m (with_mail mail st))
  read mail st m is none =
      let g = grows_saw (with_mail mail st) m in
      record {
        says = g.says;
        texts = g.texts;
        certified = g.certified;
        pool = λ p h n r. elim (Contains-push_cases st.pool (posted mail) p h) [
          | inl there ↦ inl (p, there, refl)
          | inr new ↦
              let read : read_frame s mail.frame ≡ Ok n = ap (λ (q : Posted). read_frame s q.frame) new ∙ r in
              let same : m ≡ n = cc in
              let next = saw s m (with_mail mail st) in
              inr (subst (IsSeen s next.watch next.certified) same (saw_seen (with_mail mail st) m none))
        ];
      }

  pub enters : (mail : Mail) (st : State) → Fine st (see s mail.frame (with_mail mail st))
  enters mail st = by (read_frame s mail.frame) refl
    where
      broken : (m : MessageValue) → read_frame s mail.frame ≡ Ok m → (o : Option Broken) →
          first_breach s.kit.accepts st.watch (marks m) ≡ o → Fine st (unless_broken o (saw s m (with_mail mail st)))
      broken m is None none = read mail st m is none
      broken m is (Some b) some = tt

      by : (r : Result MessageValue BadFrame) → read_frame s mail.frame ≡ r → Fine st (see_message s r (with_mail mail st))
      by (Ok m) is = broken m is (first_breach s.kit.accepts st.watch (marks m)) refl
      by (Err e) is = unread mail st e is

  pub see_grows : (frame : List ℕ) (st next : State) → see s frame st ≡ Ok next → Grows st next
  see_grows frame st next is = grows_ok st next (see s frame st) is (see_fine frame st)

  pub enter_grows : (mail : Mail) (st next : State) → see s mail.frame (with_mail mail st) ≡ Ok next → Grows st next
  enter_grows mail st next is = grows_ok st next (see s mail.frame (with_mail mail st)) is (enters mail st)
