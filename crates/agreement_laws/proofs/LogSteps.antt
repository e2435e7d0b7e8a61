-- An act keeps what holds of a correct replica's log replies and election words.
use Rattle.std.proofs.Common.{◌≡◌, ℕ, ◌<◌, ◌≤◌, Bool, refl, arith, ◌⊎◌, inl, inr, sym, ◌∙◌, subst, List, [], ◌∷◌, ◌++◌, Option, Some, None}
use Rattle.std.specs.List.{Contains}
use Rattle.std.proofs.lemmas.List.Elements.{Contains-append_left, Contains-append_right, Contains-append_cases}
use Rattle.agreement_laws.specs.Words.{Id, Decision, Word, Vote, LogReply, Election, Proposal}
use Rattle.agreement_laws.specs.Settings.{Setting}
use Rattle.agreement_laws.specs.Certificates.{Signed, Tallied, Elected, Grows}
use Rattle.agreement_laws.specs.Replicas.{LogCell, Book, Act, Votes, Waits, Ends, Logs, Repeats, Enters, Proposes}
use Rattle.agreement_laws.specs.Replicas.{Adopts, entered, after, reply_of, election_of, words, CanEnter, CanAdopt, May}
use Rattle.agreement_laws.specs.Runs.{put_id}
use Rattle.agreement_laws.specs.Invariants.{IsUnder, IsReached, IsBacked, LogHolds}
use Rattle.agreement_laws.proofs.Puts.{in_none, in_one, put_id_cases}
use Rattle.agreement_laws.proofs.Growth.{Tallied-grows, Elected-grows}
use Rattle.agreement_laws.proofs.Signings.{reply_signed, election_signed}

module _ (c : Setting) (signed : Signed) (s r : ℕ) (own : List Word) (x : Id) where
  -- the two kinds of word that tell of the log
  abbrev Reply : Decision → ℕ → ℕ → Word
  Reply d v a = LogReply s r x d v a

  abbrev Names : Decision → ℕ → Word
  Names d w = Election s r x d w

  abbrev Holds : List Word → Option LogCell → Type 0
  Holds ws cell = LogHolds c signed s r ws x cell

  IsBacked-more : (ws : List Word) (cell : Option LogCell) → IsBacked s r own x cell → IsBacked s r (own ++ ws) x cell
  IsBacked-more ws None b = tt
  IsBacked-more ws (Some k) b = (b.0, b.1, Contains-append_left own ws _ b.2)

  -- words that say nothing of its log
  pub LogHolds-other : (cell : Option LogCell) (ws : List Word) → ((d : Decision) (v a : ℕ) → Contains ws (Reply d v a) → ⊥) →
      ((d : Decision) (w : ℕ) → Contains ws (Names d w) → ⊥) → Holds own cell → Holds (own ++ ws) cell
  LogHolds-other cell ws no_reply no_election l =
      let old_reply = λ (d : Decision) (v a : ℕ) (h : Contains (own ++ ws) (Reply d v a)). let k : Contains own (Reply d v a) =
      elim (Contains-append_cases own ws _ h) [ inl k ↦ k | inr k ↦ absurd (no_reply d v a k) ] in k in
      let old_name = λ (d : Decision) (w : ℕ) (h : Contains (own ++ ws) (Names d w)). let k : Contains own (Names d w) =
      elim (Contains-append_cases own ws _ h) [ inl k ↦ k | inr k ↦ absurd (no_election d w k) ] in k in
      record {
        under = λ d v a h. l.under d v a (old_reply d v a h);
        backed = IsBacked-more ws cell l.backed;
        reached = λ d w h. l.reached d w (old_name d w h);
        one_decision = λ d e v a b h k. l.one_decision d e v a b (old_reply d v a h) (old_reply e v b k);
        first = λ d a h. l.first d a (old_reply d 0 a h);
        later = λ d v a h. l.later d v a (old_reply d v a h);
        named = λ d w h. let z = l.named d w (old_name d w h) in (z.0, z.1, z.2, Contains-append_left own ws (Reply d z.0 z.1) z.3);
        latest = λ e w d v a h k i. let z = l.latest e w d v a (old_name e w h) (old_reply d v a k) i in
            (z.0, z.1, z.2, z.3, Contains-append_left own ws (Reply e z.0 z.1) z.4);
      }

  under_now : (k : LogCell) (d : Decision) (v : ℕ) → IsUnder (Some k) d v → (v ≤ k.decided) × (v ≡ k.decided → d ≡ k.decision)
  under_now k d v (inl h) = (omega arith, λ e. absurd (omega arith))
  under_now k d v (inr h) = (omega (arith, h.0), λ e. h.1)

  -- one more log reply, of a cell at or above the old one
  LogHolds-reply : (cell : Option LogCell) (k : LogCell) (a : ℕ) → k.decided ≤ k.current →
      ((d : Decision) (v : ℕ) → IsUnder cell d v → IsUnder (Some k) d v) → ((w : ℕ) → IsReached cell w → w ≤ k.current)
      → ((e : Decision) (w : ℕ) → Contains own (Names e w) →
      k.decided < w → (u b : ℕ) × (k.decided ≤ u) × (u < w) × Contains own (Reply e u b))
      → (k.decided ≡ 0 → Tallied c signed x k.decision) → (0 < k.decided → Elected c signed x k.decision k.decided)
      → Holds own cell → Holds (own ++ Reply k.decision k.decided a ∷ []) (Some k)
  LogHolds-reply cell k a low raised reached_by named_by tally election l =
      let new : Word = Reply k.decision k.decided a in
      let ws : List Word = new ∷ [] in
      let IsOld : Decision → ℕ → ℕ → Type 0 = λ d v b. Contains own (Reply d v b) ⊎ ((k.decision ≡ d) × (k.decided ≡ v)) in
      let old_reply = λ (d : Decision) (v b : ℕ) (h : Contains (own ++ ws) (Reply d v b)). let z : IsOld d v b = elim (Contains-append_cases
      own ws _ h) [ inl i ↦ inl i | inr i ↦ let e : new ≡ Reply d v b = in_one _ _ i in inr ((cc), (cc)) ] in z in
      let old_name = λ (d : Decision) (w : ℕ) (h : Contains (own ++ ws) (Names d w)). let z : Contains own (Names d w) =
      elim (Contains-append_cases own ws _ h) [ inl i ↦ i | inr i ↦ let e : new ≡ Names d w = in_one _ _ i in cc ] in z in
      record {
        under = λ d v b h. elim (old_reply d v b h) [ inl i ↦ raised d v (l.under d v b i) | inr i ↦ inr (sym i.1, sym i.0) ];
        backed = (low, a, Contains-append_right own ws new (0, omega arith, refl));
        reached = λ d w h. reached_by w (l.reached d w (old_name d w h));
        one_decision = λ d e v b b' h i. elim (old_reply d v b h) [
          | inl p ↦ elim (old_reply e v b' i) [
            | inl q ↦ l.one_decision d e v b b' p q
            | inr q ↦ (under_now k d v (raised d v (l.under d v b p))).1 (sym q.1) ∙ q.0
          ]
          | inr p ↦ elim (old_reply e v b' i) [
            | inl q ↦ sym p.0 ∙ sym ((under_now k e v (raised e v (l.under e v b' q))).1 (sym p.1))
            | inr q ↦ sym p.0 ∙ q.0
          ]
        ];
        first = λ d b h. elim (old_reply d 0 b h) [ inl i ↦ l.first d b i | inr i ↦ subst (Tallied c signed x) i.0 (tally i.1) ];
        later = λ d v b h p. elim (old_reply d v b h) [
          | inl i ↦ l.later d v b i p
          | inr i ↦ let z = election (omega (arith, i.1)) in
              subst (λ g. Elected c signed x g v) i.0 (subst (λ (n : ℕ). Elected c signed x k.decision n) i.1 z)
        ];
        named = λ d w h. let z = l.named d w (old_name d w h) in (z.0, z.1, z.2, Contains-append_left own ws (Reply d z.0 z.1) z.3);
        latest = λ e w d v b h i p. elim (old_reply d v b i) [
          | inl q ↦ let z =
              l.latest e w d v b (old_name e w h) q p in (z.0, z.1, z.2, z.3, Contains-append_left own ws (Reply e z.0 z.1) z.4)
          | inr q ↦ let z = named_by e w (old_name e w h) (omega (arith, q.1)) in
              (z.0, z.1, omega (arith, z.2, q.1), z.3, Contains-append_left own ws (Reply e z.0 z.1) z.4)
        ];
      }

  -- one more election word, for a view above the current one
  LogHolds-election : (k : LogCell) (w : ℕ) → k.current < w → Holds own (Some k) →
      Holds (own ++ Names k.decision w ∷ []) (Some (record k { current = w }))
  LogHolds-election k w up l =
      let new : Word = Names k.decision w in
      let ws : List Word = new ∷ [] in
      let IsOld : Decision → ℕ → Type 0 = λ d u. Contains own (Names d u) ⊎ ((k.decision ≡ d) × (w ≡ u)) in
      let old_reply = λ (d : Decision) (v b : ℕ) (h : Contains (own ++ ws) (Reply d v b)). let z : Contains own (Reply d v b) =
      elim (Contains-append_cases own ws _ h) [ inl i ↦ i | inr i ↦ let e : new ≡ Reply d v b = in_one _ _ i in cc ] in z in
      let old_name = λ (d : Decision) (u : ℕ) (h : Contains (own ++ ws) (Names d u)). let z : IsOld d u = elim (Contains-append_cases own
      ws _ h) [ inl i ↦ inl i | inr i ↦ let e : new ≡ Names d u = in_one _ _ i in inr ((cc), (cc)) ] in z in
      let b = l.backed in
      record {
        under = λ d v a h. l.under d v a (old_reply d v a h);
        backed = (omega (arith, b.0), b.1, Contains-append_left own ws _ b.2);
        reached =
            λ d u h. elim (old_name d u h) [ inl i ↦ let z : u ≤ k.current = l.reached d u i in omega arith | inr i ↦ omega (arith, i.1) ];
        one_decision = λ d e v a b' h i. l.one_decision d e v a b' (old_reply d v a h) (old_reply e v b' i);
        first = λ d a h. l.first d a (old_reply d 0 a h);
        later = λ d v a h. l.later d v a (old_reply d v a h);
        named = λ d u h. elim (old_name d u h) [
          | inl i ↦ let z = l.named d u i in (z.0, z.1, z.2, Contains-append_left own ws (Reply d z.0 z.1) z.3)
          | inr i ↦ (
            k.decided,
            b.1,
            omega (arith, b.0, i.1),
            Contains-append_left own ws _ (subst (λ g. Contains own (Reply g k.decided b.1)) i.0 b.2),
          )
        ];
        latest = λ e u d v a h i p. elim (old_name e u h) [
          | inl q ↦ let z =
              l.latest e u d v a q (old_reply d v a i) p in (z.0, z.1, z.2, z.3, Contains-append_left own ws (Reply e z.0 z.1) z.4)
          | inr q ↦ (
            k.decided,
            b.1,
            (under_now k d v (l.under d v a (old_reply d v a i))).0,
            omega (arith, b.0, q.1),
            Contains-append_left own ws _ (subst (λ g. Contains own (Reply g k.decided b.1)) q.0 b.2),
          )
        ];
      }

  repeats : (cell : Option LogCell) → Holds own cell → Holds (own ++ reply_of s r x cell) cell
  repeats None l = LogHolds-other None [] (λ d v a h. in_none _ h) (λ d w h. in_none _ h) l
  repeats (Some k) l =
      let b = l.backed in
      LogHolds-reply (Some k) k k.current b.0 (λ d v h. h) (λ w h. h)
      (λ e w h p. l.latest e w k.decision k.decided b.1 h b.2 p)
      (λ e. l.first k.decision b.1 (subst (λ (n : ℕ). Contains own (Reply k.decision n b.1)) e b.2))
      (λ p. l.later k.decision k.decided b.1 b.2 p) l

  enters : (cell : Option LogCell) (w : ℕ) → CanEnter cell w → Holds own cell → Holds (own ++ election_of s r x w cell) (entered w cell)
  enters None w h l = absurd h
  enters (Some k) w h l = LogHolds-election k w h l

  under_less : (cell : Option LogCell) (v : ℕ) → CanAdopt cell v → (d : Decision) (u : ℕ) → IsUnder cell d u → u < v
  under_less None v h d u k = absurd k
  under_less (Some k) v h d u (inl i) = omega (arith, h.0)
  under_less (Some k) v h d u (inr i) = omega (arith, h.0, i.0)

  reached_less : (cell : Option LogCell) (v : ℕ) → CanAdopt cell v → (w : ℕ) → IsReached cell w → w ≤ v
  reached_less None v h w k = absurd k
  reached_less (Some k) v h w i = omega (arith, h.1)

  adopts : (cell : Option LogCell) (d : Decision) (v : ℕ) → 0 < v → CanAdopt cell v → Elected c signed x d v → Holds own cell →
      Holds (own ++ Reply d v v ∷ []) (Some (record { decision = d; decided = v; current = v }))
  adopts cell d v p h e l =
      LogHolds-reply cell (record { decision = d; decided = v; current = v }) v (omega arith)
      (λ g u i. inl (under_less cell v h g u i)) (reached_less cell v h)
      (λ g w i q. let z : w ≤ v = reached_less cell v h w (l.reached g w i) in absurd (omega arith))
      (λ z. absurd (omega arith)) (λ _. e) l

  logs : (cell : Option LogCell) (d : Decision) → cell ≡ None → Tallied c signed x d → Holds own cell →
      Holds (own ++ Reply d 0 0 ∷ []) (Some (record { decision = d; decided = 0; current = 0 }))
  logs None d e t l =
      LogHolds-reply None (record { decision = d; decided = 0; current = 0 }) 0 (omega arith)
      (λ g u i. absurd i) (λ w i. absurd i)
      (λ g w i q. absurd (l.reached g w i))
      (λ _. t) (λ z. absurd (omega arith)) l
  logs (Some k) d e t l = cc

  -- nothing is elected for view 0
  module _ (up : (y : Id) (d : Decision) (v : ℕ) → Elected c signed y d v → 0 < v) (aborted : Id → Bool) (book : Book) where
    LogHolds-act : (a : Act) → May c signed aborted s book x a → Holds own (book x).cell →
        Holds (own ++ words s r x a (book x)) (after a (book x)).cell
    LogHolds-act (Votes d) m l =
        LogHolds-other _ (Vote s r x d ∷ []) (λ e v b h. let k = in_one _ _ h in cc) (λ e w h. let k = in_one _ _ h in cc) l
    LogHolds-act Waits m l = LogHolds-other _ [] (λ e v b h. in_none _ h) (λ e w h. in_none _ h) l
    LogHolds-act (Ends d) m l = LogHolds-other _ [] (λ e v b h. in_none _ h) (λ e w h. in_none _ h) l
    LogHolds-act (Logs d) m l = logs _ d m.1 m.2 l
    LogHolds-act Repeats m l = repeats _ l
    LogHolds-act (Enters w) m l = enters _ w m.1 l
    LogHolds-act (Proposes d v) m l =
        LogHolds-other _ (Proposal s r x d v ∷ []) (λ e u b h. let k = in_one _ _ h in cc) (λ e w h. let k = in_one _ _ h in cc) l
    LogHolds-act (Adopts d v) m l = adopts _ d v (up x d v m.1) m.0 m.1 l

module _ (c : Setting) (signed : Signed) (s r : ℕ) (own : List Word)
    (x : Id) (up : (y : Id) (d : Decision) (v : ℕ) → Elected c signed y d v → 0 < v) (aborted : Id → Bool) (book : Book) where
  pub LogHolds-step : (a : Act) → May c signed aborted s book x a → ((y : Id) → LogHolds c signed s r own y (book y).cell) → (y : Id) →
      LogHolds c signed s r (own ++ words s r x a (book x)) y (put_id book x (after a (book x)) y).cell
  LogHolds-step a m l = put_id_cases (λ y t. LogHolds c signed s r (own ++ words s r x a (book x)) y t.cell) book x (after a (book x))
      (LogHolds-act c signed s r own x up aborted book a m (l x))
      (λ y n. LogHolds-other c signed s r own y (book y).cell (words s r x a (book x))
      (λ d v b h. n (reply_signed s r x y a (book x) d v b h)) (λ d w h. n (election_signed s r x y a (book x) d w h)) (l y))

-- what others sign is of no matter
pub LogHolds-grows : (c : Setting) (p q : Signed) → Grows p q → (s r : ℕ) (own : List Word) (x : Id) (cell : Option LogCell) →
    LogHolds c p s r own x cell → LogHolds c q s r own x cell
LogHolds-grows c p q g s r own x cell l = record {
  under = l.under;
  backed = l.backed;
  reached = l.reached;
  one_decision = l.one_decision;
  named = l.named;
  latest = l.latest;
  first = λ d a h. Tallied-grows c p q g x d (l.first d a h);
  later = λ d v a h i. Elected-grows c p q g x d v (l.later d v a h i);
}
