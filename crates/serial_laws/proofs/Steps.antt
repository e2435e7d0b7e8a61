-- Each lawful step keeps the invariant.
use Rattle.std.proofs.Common.{◌≡◌, ℕ, Bool, true, false, ◌⊎◌, inl, inr, List, [], ◌∷◌, Option, Some, None, refl, sym, ◌∙◌, subst}
use Rattle.std.specs.List.{Contains}
use Rattle.std.proofs.lemmas.List.Elements.{Contains-append_left, Contains-append_cases}
use Rattle.basil_types.specs.declared.replayed.Latest.{Latest}
use Rattle.basil_types.specs.declared.transaction.parts.ReadPart.{ReadPart}
use Rattle.txn_meta.specs.Form.{form_fault}
use Rattle.agreement_laws.specs.Words.{Id, Decision, Commit, Abort, Word, Vote}
use Rattle.agreement_laws.specs.Certificates.{Grows, CanCommit}
use Rattle.agreement_laws.specs.Replicas.{Slot, Book, Act, Votes, Waits, Ends, Logs, Repeats, Enters, Proposes, Adopts, after, words}
use Rattle.agreement_laws.specs.Runs as agreement
use Rattle.agreement_laws.specs.Runs.{Node, Event, Acts, Lies, Shows, signed_of, put_id, put_node, acted, lied, answered}
use Rattle.agreement_laws.specs.Invariants as agreement_holds
use Rattle.agreement_laws.specs.Laws as agreed
use Rattle.agreement_laws.proofs.Puts.{put_id_cases, put_node_cases}
use Rattle.agreement_laws.proofs.Puts as words_of
use Rattle.agreement_laws.proofs.Signings.{no_vote_in_reply, no_vote_in_election}
use Rattle.serial_laws.specs.Bases.{Basis, IsSane, IsOfCorrectClient, setting_of}
use Rattle.serial_laws.specs.Invariants.{IsHeedful, Invariant}
use Rattle.serial_laws.specs.Laws.{SettingsAreSane, HoldsAtStart, HoldsAfterStep, HoldsAfterAnswer, InEveryRun}
use Rattle.serial_laws.specs.Reads.{IsTaken}
use Rattle.serial_laws.specs.Runs.{State, Step, Does, Certifies, Forms, happens, Heeds, IsLawful, run, AreLawful, start}
use Rattle.serial_laws.specs.Runs.{answers, AreHeeding}

-- ---- what is shown and signed only grows

abbrev NoFewer : (Id → Bool) → (Id → Bool) → Type 0
NoFewer p q = (x : Id) → p x ≡ true → q x ≡ true

taken_grows : (b : Basis) (shown more : Id → Bool) → NoFewer shown more → (r : ReadPart) (o : Option Latest) →
    IsTaken b shown r o → IsTaken b more r o
taken_grows b shown more g r None h = h
taken_grows b shown more g r (Some l) h = (h.0, h.1, h.2, h.3, elim h.4 [ inl k ↦ inl (g _ k) | inr k ↦ inr k ])

-- one id more
grown : (p : Id → Bool) (x : Id) → NoFewer p (put_id p x true)
grown p x = put_id_cases (λ y t. p y ≡ true → t ≡ true) p x true (λ _. refl) (λ y _ h. h)

heedful_grows : (b : Basis) (st next : State) → NoFewer st.committed next.committed → NoFewer st.formed next.formed →
    (s r : ℕ) (p : Node) → IsHeedful b st s r p → IsHeedful b next s r p
heedful_grows b st next g f s r p h = record {
  signed = λ x i. f x (h.signed x i);
  form = h.form;
  ended = λ x e. g x (h.ended x e);
}

-- ---- an act of a correct replica

module _ (b : Basis) (st : State) (s r : ℕ) (x : Id) where
  abbrev WasShown : Option Decision → Type 0
  WasShown outcome = outcome ≡ Some Commit → st.committed x ≡ true

  ended_by : (a : Act) (book : Book) → Heeds b st x a → WasShown (book x).outcome → WasShown (after a (book x)).outcome
  ended_by (Votes Commit) book m f h = f h
  ended_by (Votes Abort) book m f h = f h
  ended_by Waits book m f h = f h
  ended_by (Ends Commit) book m f h = m
  ended_by (Ends Abort) book m f h = cc
  ended_by (Logs d) book m f h = f h
  ended_by Repeats book m f h = f h
  ended_by (Enters w) book m f h = f h
  ended_by (Proposes d v) book m f h = f h
  ended_by (Adopts d v) book m f h = f h

  abbrev Heeded : Id → Type 0
  Heeded y = (st.formed y ≡ true) × (form_fault (b.text y) ≡ None)

  -- it votes commit on what a client signed
  heeded : (a : Act) (t : Slot) (y : Id) → Heeds b st x a → Contains (words s r x a t) (Vote s r y Commit) → Heeded y
  heeded (Votes Commit) t y m h =
      let k : Vote s r x Commit ≡ Vote s r y Commit = words_of.in_one _ _ h in
      let i : x ≡ y = cc in
      subst Heeded i m
  heeded (Votes Abort) t y m h = let k : Vote s r x Abort ≡ Vote s r y Commit = words_of.in_one _ _ h in cc
  heeded Waits t y m h = absurd (words_of.in_none _ h)
  heeded (Ends e) t y m h = absurd (words_of.in_none _ h)
  heeded (Logs e) t y m h = let k = words_of.in_one _ _ h in cc
  heeded Repeats t y m h = absurd (no_vote_in_reply s r x y Commit _ h)
  heeded (Enters w) t y m h = absurd (no_vote_in_election s r x y w Commit _ h)
  heeded (Proposes e v) t y m h = let k = words_of.in_one _ _ h in cc
  heeded (Adopts e v) t y m h = let k = words_of.in_one _ _ h in cc

  heedful_acted : (p : Node) (a : Act) → Heeds b st x a → IsHeedful b st s r p → IsHeedful b st s r (acted s r p x a)
  heedful_acted p a n h = record {
    signed = λ y i. elim (Contains-append_cases p.own ws _ i) [ inl k ↦ h.signed y k | inr k ↦ (heeded a (p.book x) y n k).0 ];
    form = λ y i. elim (Contains-append_cases p.own ws _ i) [ inl k ↦ h.form y k | inr k ↦ (heeded a (p.book x) y n k).1 ];
    ended = put_id_cases (λ y t. t.outcome ≡ Some Commit → st.committed y ≡ true) p.book x (after a (p.book x))
        (λ e. ended_by a p.book n (h.ended x) e) (λ y _ e. h.ended y e);
  }
    where
      ws : List Word
      ws = words s r x a (p.book x)

-- several acts
module _ (b : Basis) (st : State) (s r : ℕ) where
  heedful_answered : (acts : List (Id × Act)) (p : Node) → AreHeeding b st acts → IsHeedful b st s r p →
      IsHeedful b st s r (answered s r p acts)
  heedful_answered [] p n h = h
  heedful_answered (a ∷ rest) p n h =
      heedful_answered rest (acted s r p a.0 a.1) n.1 (heedful_acted b st s r a.0 p a.1 n.0 h)

  own_kept : (acts : List (Id × Act)) (p : Node) (w : Word) → Contains p.own w → Contains (answered s r p acts).own w
  own_kept [] p w h = h
  own_kept (a ∷ rest) p w h =
      own_kept rest (acted s r p a.0 a.1) w (Contains-append_left p.own (words s r a.0 a.1 (p.book a.0)) w h)

-- ---- one replica goes on

module _ (stay : agreed.WithMoreWords) (b : Basis) (st : State) (inv : Invariant b st) (s r : ℕ) (p : Node) where
  abbrev next : State
  next = record st { inner = record (st.inner) { nodes = put_node st.inner.nodes s r p } }

  abbrev KeepsOwn : Type 0
  KeepsOwn = (w : Word) → Contains (st.inner.nodes s r).own w → Contains p.own w

  grows : KeepsOwn → Grows (signed_of st.inner) (signed_of next.inner)
  grows g =
      put_node_cases (λ t q z. (w : Word) → Contains (st.inner.nodes t q).own w → Contains z.own w) st.inner.nodes s r p
      g (λ t q w k. k)

  heedful_on : (t q : ℕ) (z : Node) → IsHeedful b st t q z → IsHeedful b next t q z
  heedful_on t q z = heedful_grows b st next (λ _ h. h) (λ _ h. h) t q z

  node_goes_on : agreement_holds.Invariant (setting_of b) next.inner → KeepsOwn →
      (b.faulty s r ≡ false → IsHeedful b st s r p) → Invariant b next
  node_goes_on agrees up heedful = record {
    agrees = agrees;
    heedful = put_node_cases (λ t q z. b.faulty t q ≡ false → IsHeedful b next t q z) st.inner.nodes s r p
        (λ c. heedful_on s r p (heedful c)) (λ t q c. heedful_on t q (st.inner.nodes t q) (inv.heedful t q c));
    certified = λ x h. (stay (setting_of b) (signed_of st.inner) (signed_of next.inner) (grows up)).commit x (inv.certified x h);
    taken = inv.taken;
  }

-- ---- the steps

module _ (stay : agreed.WithMoreWords) (b : Basis) (st : State) (inv : Invariant b st) where
  after_answers : (s r : ℕ) (acts : List (Id × Act)) →
      agreement_holds.Invariant (setting_of b) (agreement.answers st.inner s r acts) → b.faulty s r ≡ false → AreHeeding b st acts →
      Invariant b (answers st s r acts)
  after_answers s r acts agrees c m =
      node_goes_on stay b st inv s r (answered s r (st.inner.nodes s r) acts) agrees
      (own_kept b st s r acts (st.inner.nodes s r))
      (λ _. heedful_answered b st s r acts (st.inner.nodes s r) m (inv.heedful s r c))

  -- where all that was shown and formed before is so next
  heedful_next : (next : State) → next.inner.nodes ≡ st.inner.nodes → NoFewer st.committed next.committed →
      NoFewer st.formed next.formed → (s r : ℕ) → b.faulty s r ≡ false → IsHeedful b next s r (next.inner.nodes s r)
  heedful_next next same g f s r c =
      subst (λ (nodes : ℕ → ℕ → Node). IsHeedful b next s r (nodes s r)) (sym same)
      (heedful_grows b st next g f s r (st.inner.nodes s r) (inv.heedful s r c))

  after_event : (e : Event) → agreement_holds.Invariant (setting_of b) (agreement.happens st.inner e) → IsLawful b st (Does e) →
      Invariant b (happens st (Does e))
  after_event (Acts s r x a) agrees m = after_answers s r ((x, a) ∷ []) agrees m.0.0 (m.1, tt)
  after_event (Lies s r w) agrees m =
      node_goes_on stay b st inv s r (lied (st.inner.nodes s r) w) agrees
      (λ v k. Contains-append_left _ (w ∷ []) v k)
      (λ c. absurd (let impossible : true ≡ false = sym m.0 ∙ c in cc))
  after_event (Shows x) agrees m = record {
    agrees = agrees;
    heedful = heedful_next (happens st (Does (Shows x))) refl (λ _ h. h) (λ _ h. h);
    certified = inv.certified;
    taken = inv.taken;
  }

  after_certifies : (x : Id) → CanCommit (setting_of b) (signed_of st.inner) x → Invariant b (happens st (Certifies x))
  after_certifies x k = record {
    agrees = inv.agrees;
    heedful = heedful_next (happens st (Certifies x)) refl (grown st.committed x) (λ _ h. h);
    certified = put_id_cases (λ y t. t ≡ true → CanCommit (setting_of b) (signed_of st.inner) y) st.committed x true
        (λ _. k) (λ y _ h. inv.certified y h);
    taken = λ y f c r i.
        taken_grows b st.committed (put_id st.committed x true) (grown st.committed x) r (st.given y r.key) (inv.taken y f c r i);
  }

  abbrev HasTaken : Id → ((key : List ℕ) → Option Latest) → Type 0
  HasTaken x given =
      IsOfCorrectClient b (b.text x) → (r : ReadPart) → Contains (b.text x).reads r → IsTaken b st.committed r (given r.key)

  after_forms : (x : Id) (given : (key : List ℕ) → Option Latest) → HasTaken x given → Invariant b (happens st (Forms x given))
  after_forms x given m = record {
    agrees = inv.agrees;
    heedful = heedful_next (happens st (Forms x given)) refl (λ _ h. h) (grown st.formed x);
    certified = inv.certified;
    taken = λ y f. has_taken y (formed_before y f);
  }
    where
      formed_before : (y : Id) → put_id st.formed x true y ≡ true → (st.formed y ≡ true) ⊎ (y ≡ x)
      formed_before =
          put_id_cases (λ z t. t ≡ true → (st.formed z ≡ true) ⊎ (z ≡ x)) st.formed x true (λ _. inr refl) (λ z _ h. inl h)

      has_taken : (y : Id) → (st.formed y ≡ true) ⊎ (y ≡ x) → HasTaken y (put_id st.given x given y)
      has_taken =
          put_id_cases (λ z g. (st.formed z ≡ true) ⊎ (z ≡ x) → HasTaken z g) st.given x given
          (λ _. m) (λ z n h. elim h [ inl k ↦ inv.taken z k | inr k ↦ absurd (n k) ])

pub at_start : agreed.HoldsAtStart → HoldsAtStart
at_start agrees b = record {
  agrees = agrees (setting_of b);
  heedful = λ s r c. record {
    signed = λ x h. absurd (words_of.in_none _ h);
    form = λ x h. absurd (words_of.in_none _ h);
    ended = λ x e. cc;
  };
  certified = λ x h. cc;
  taken = λ x h. cc;
}

pub after_step : SettingsAreSane → agreed.HoldsAfterEvent → agreed.WithMoreWords → HoldsAfterStep
after_step sane event stay b few st (Does e) inv m =
    after_event stay b st inv e (event (setting_of b) (sane b few) st.inner e inv.agrees m.0) m
after_step sane event stay b few st (Certifies x) inv m = after_certifies stay b st inv x m
after_step sane event stay b few st (Forms x given) inv m = after_forms stay b st inv x given m

pub after_answer : SettingsAreSane → agreed.HoldsAfterAnswer → agreed.WithMoreWords → HoldsAfterAnswer
after_answer sane answer stay b few st s r acts inv c m =
    after_answers stay b st inv s r acts (answer (setting_of b) (sane b few) st.inner s r acts inv.agrees c m.0) c m.1

after_run : HoldsAfterStep → (b : Basis) → IsSane b → (es : List Step) (st : State) → Invariant b st → AreLawful b es st →
    Invariant b (run es st)
after_run step b few [] st inv m = inv
after_run step b few (e ∷ es) st inv m = after_run step b few es (happens st e) (step b few st e inv m.0) m.1

pub in_every_run : HoldsAtStart → HoldsAfterStep → InEveryRun Invariant
in_every_run begins step b few es m = after_run step b few es start (begins b) m
