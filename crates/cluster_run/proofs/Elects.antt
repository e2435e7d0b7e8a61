-- The answer to an election word.
use Rattle.cluster_run.proofs.Members.{in_cases, in_head, in_rest}
use Rattle.std.proofs.Common.{◌≡◌, ℕ, suc, ◌+◌, ◌<◌, ◌≤◌, ◌==◌, Bool, true, false, cond, List, [], ◌∷◌, ◌++◌, length, map, Option, Some}
use Rattle.std.proofs.Common.{None, refl, sym, ap, subst, ◌∙◌, inl, inr, arith}
use Rattle.std.specs.Prelude.{Ok, Contains, filter, slice_index}
use Rattle.std.specs.List.{count_by}
use Rattle.std.specs.List.Sorted.{IsStrictlyIncreasing}
use Rattle.std.specs.Str.{bytes_eq}
use Rattle.std.proofs.lemmas.Bool.{and_parts, eqb-true}
use Rattle.std.proofs.lemmas.List.Elements.{Contains-append_cases}
use Rattle.std.proofs.lemmas.List.Sums.{sum_by-cons}
use Rattle.basil_types.specs.declared.party.Decision.{Decision}
use Rattle.basil_types.specs.declared.party.Decision.TheVariants.{Commit, Abort}
use Rattle.basil_types.specs.Transaction.{TransactionValue, id}
use Rattle.basil_types.specs.Words.{SignedWords}
use Rattle.fallback_leader.specs.declared.words.KeptWord.{KeptWord}
use Rattle.frame_values.specs.declared.owned.parts.ElectPart.{ElectPart}
use Rattle.fallback_leader.specs.Elections.{AreApart, words_of, is_of, counts, collected, naming, Elects, ProposalValue, proposal_of}
use Rattle.basil_types.specs.Decision as parties
use Rattle.frame_views.specs.Values.{ElectValue}
use Rattle.quorum_laws.specs.Numbers.{replicas, majority}
use Rattle.quorum_laws.specs.Lists.{AreRising}
use Rattle.txn_meta.specs.Places.{log_shard}
use Rattle.replica_core.specs.Replicas.{ReplicaSelf, BookValue, Done, quiet}
use Rattle.replica_core.specs.Signing.{proposal_words, exhausted}
use Rattle.replica_core.specs.Elections.{word_of, kept_after, propose_done, collect_by, collect, answer_elect, not_leader}
use Rattle.replica_core.specs.Known.{known_of}
use Rattle.agreement_laws.specs.Words as laws
use Rattle.agreement_laws.specs.Replicas as acts
use Rattle.agreement_laws.specs.Certificates as can
use Rattle.agreement_laws.specs.Lists.{Named, replicas_of, ElectionOfList}
use Rattle.cluster_run.specs.Settings.{Lookup, Finds, setting}
use Rattle.law_joins.specs.Shown.{decision_of as decision_as}
use Rattle.cluster_run.specs.Acting.{slots, node, Leads, FindsEach}
use Rattle.cluster_run.proofs.Finding.{same_true, ok_is}
use Rattle.cluster_run.proofs.Decides.{text_looked}
use Rattle.cluster_run.proofs.Steps.{words_append, words_none, unless_ok, then_ok, stays, one_act}
use Rattle.cluster_run.proofs.Votes.{same_node, put_same}

abbrev named_word : ElectPart → Named
named_word w = record { replica = w.replica; decision = decision_as w.decision }

-- ---- ascending lists

tail_rises : (x : ℕ) (xs : List ℕ) → IsStrictlyIncreasing (x ∷ xs) → IsStrictlyIncreasing xs
tail_rises x xs h k l =
    let e : suc k + 1 ≡ suc (k + 1) = omega arith in
    subst (λ (n : ℕ). slice_index (x ∷ xs) (suc k) < slice_index (x ∷ xs) n) e (h (suc k) (omega (arith, l)))

next_above : (x y : ℕ) (xs : List ℕ) → IsStrictlyIncreasing (x ∷ y ∷ xs) → x < y
next_above x y xs h = h 0 (omega arith)

rises : (n floor : ℕ) (ws : List ElectPart) → IsStrictlyIncreasing (map (λ (w : ElectPart). w.replica) ws) →
    ((w : ElectPart) → Contains ws w → w.replica < n) → ((w : ElectPart) (vs : List ElectPart) → ws ≡ w ∷ vs → floor ≤ w.replica) →
    AreRising floor n (replicas_of (map named_word ws))
rises n floor [] h f g = tt
rises n floor (w ∷ []) h f g = (g w [] refl, f w (in_head w []), tt)
rises n floor (w ∷ v ∷ ws) h f g = (
  g w (v ∷ ws) refl,
  f w (in_head w (v ∷ ws)),
  rises n (suc w.replica) (v ∷ ws) (tail_rises w.replica (v.replica ∷ map (λ (w : ElectPart). w.replica) ws) h)
      (λ u i. f u (in_rest w u (v ∷ ws) i))
      (λ u us e. let same : v ≡ u = cc in subst (λ (z : ElectPart). suc w.replica ≤ z.replica) same
      (next_above w.replica v.replica (map (λ (w : ElectPart). w.replica) ws) h)),
)

same_named : (d e : Decision) → laws.same_decision (decision_as d) (decision_as e) ≡ parties.same_decision d e
same_named Commit Commit = refl
same_named Commit Abort = refl
same_named Abort Commit = refl
same_named Abort Abort = refl

counted : (d : Decision) (ws : List ElectPart) → count_by (λ (n : Named). laws.same_decision n.decision (decision_as d)) (map named_word ws)
    ≡ naming d ws
counted d [] = refl
counted d (w ∷ ws) =
    sum_by-cons (λ (n : Named). cond (laws.same_decision n.decision (decision_as d)) 1 0) (named_word w) (map named_word ws)
    ∙ ap (λ (b : Bool). cond b 1 0 + count_by (λ (n : Named). laws.same_decision n.decision (decision_as d)) (map named_word ws))
    (same_named w.decision d)
    ∙ ap (λ (k : ℕ). cond (parties.same_decision w.decision d) 1 0 + k) (counted d ws)
    ∙ sym (sum_by-cons (λ (w : ElectPart). cond (parties.same_decision w.decision d) 1 0) w ws)

length_named : (ws : List ElectPart) → length (map named_word ws) ≡ length ws
length_named [] = refl
length_named (w ∷ ws) = ap suc (length_named ws)

-- ---- words that are kept for a view

pub record IsWordOf (kept : List KeptWord) (x : List ℕ) (view : ℕ) (w : ElectPart) : Type 0 where
  pub word : KeptWord
  pub among : Contains kept word
  pub id : word.id ≡ x
  pub view_of : word.view ≡ view
  pub is : word.word ≡ w

word_among : (x : List ℕ) (view : ℕ) (kept : List KeptWord) (w : ElectPart) → Contains (words_of kept x view) w → IsWordOf kept x view w
word_among x view [] w h = absurd (omega (arith, h.1))
word_among x view (k ∷ ks) w h = by (is_of x view k) refl h (λ i. word_among x view ks w i)
  where
    later : IsWordOf ks x view w → IsWordOf (k ∷ ks) x view w
    later r = record { word = r.word; among = in_rest k r.word ks r.among; id = r.id; view_of = r.view_of; is = r.is }

    by : (b : Bool) → is_of x view k ≡ b → Contains (map (λ (k : KeptWord). k.word)
        (cond b (k ∷ filter (is_of x view) ks) (filter (is_of x view) ks))) w → (Contains (words_of ks x view) w → IsWordOf ks x view w) →
        IsWordOf (k ∷ ks) x view w
    by true e h rec =
        let both = and_parts (bytes_eq k.id x) (k.view == view) e in
        elim (in_cases w k.word (words_of ks x view) h) [
          | inl i ↦ record { word = k; among = in_head k ks; id = same_true k.id x both.0; view_of = eqb-true k.view view both.1; is = i }
          | inr j ↦ later (rec j)
        ]
    by false e h rec = later (rec h)

-- what makes a proposal: words that are kept for the view, which elect its decision
pub record IsElectedBy (f : ℕ) (kept : List KeptWord) (p : ProposalValue) (x : List ℕ) (view : ℕ) : Type 0 where
  pub elects : Elects f p.words p.decision
  pub same : (v : ElectPart) → Contains p.words v → Contains (words_of kept x view) v

-- each proposal is of that kind
abbrev pub ProposalsElect : Type 0
ProposalsElect =
    (f : ℕ) (kept : List KeptWord) (x : List ℕ) (view : ℕ) (word : ElectPart) (p : ProposalValue) →
    AreApart kept → proposal_of f kept x view word ≡ Some p → IsElectedBy f (collected f kept x view word) p x view

module _ (faulty : ℕ → ℕ → Bool) (tx : Lookup) (signed : can.Signed) (aborted : laws.Id → Bool) (me : ReplicaSelf) (own : List SignedWords)
    (book : BookValue) where
  abbrev C : Rattle.agreement_laws.specs.Settings.Setting
  C = setting me.home.cluster faulty tx

  abbrev S : ℕ
  S = me.home.shard

  abbrev To : Done → Type 0
  To done = Leads C signed aborted S me.index (node own book) (node (own ++ done.signed) done.book)

  -- a kept word that is within its bounds and was said
  abbrev pub Kept : KeptWord → Type 0
  Kept k = (k.word.replica < replicas me.home.cluster.f)
      × can.Says C signed S k.word.replica (laws.Election S k.word.replica k.id (decision_as k.word.decision) k.view)

  pub kept_too : (m : ElectValue) (t : TransactionValue) → ((k : KeptWord) → Contains book.kept k → Kept k) →
      Kept (record { id = id t; view = m.view; word = word_of m }) → (k : KeptWord) → Contains (kept_after me book t m).kept k → Kept k
  kept_too m t f g k i = by (counts me.home.cluster.f book.kept (id t) m.view (word_of m)) i
    where
      new : KeptWord
      new = record { id = id t; view = m.view; word = word_of m }

      by : (b : Bool) → Contains (cond b (book.kept ++ record { id = id t; view = m.view; word = word_of m } ∷ []) book.kept) k → Kept k
      by true i = elim (Contains-append_cases book.kept (record { id = id t; view = m.view; word = word_of m } ∷ []) k i) [
        | inl j ↦ f k j
        | inr j ↦ elim (in_cases k (record { id = id t; view = m.view; word = word_of m }) [] j)
            [ inl e ↦ subst Kept e g | inr n ↦ absurd (omega (arith, n.1)) ]
      ]
      by false i = f k i

  one_said : (x : List ℕ) (view : ℕ) (v : ElectPart) (kept : List KeptWord) → ((k : KeptWord) → Contains kept k → Kept k) →
      IsWordOf kept x view v → can.Says C signed S v.replica (laws.Election S v.replica x (decision_as v.decision) view)
  one_said x view v kept all b =
      subst (λ (z : ElectPart). can.Says C signed S z.replica (laws.Election S z.replica x (decision_as z.decision) view)) b.is
      (subst (λ (n : ℕ). can.Says C signed S b.word.word.replica
      (laws.Election S b.word.word.replica x (decision_as b.word.word.decision) n)) b.view_of
      (subst (λ (y : List ℕ). can.Says C signed S b.word.word.replica
      (laws.Election S b.word.word.replica y (decision_as b.word.word.decision) b.word.view)) b.id (all b.word b.among).1))

  each_said : (x : List ℕ) (view : ℕ) (kept : List KeptWord) → ((k : KeptWord) → Contains kept k → Kept k) → (ws : List ElectPart) →
      ((v : ElectPart) → Contains ws v → IsWordOf kept x view v) → (n : Named) → Contains (map named_word ws) n →
      can.Says C signed S n.replica (laws.Election S n.replica x n.decision view)
  each_said x view kept all [] back n i = absurd (omega (arith, i.1))
  each_said x view kept all (v ∷ ws) back n i = elim (in_cases n (named_word v) (map named_word ws) i) [
    | inl e ↦ subst (λ (n : Named). can.Says C signed S n.replica (laws.Election S n.replica x n.decision view)) e
        (one_said x view v kept all (back v (in_head v ws)))
    | inr j ↦ each_said x view kept all ws (λ u k. back u (in_rest v u ws k)) n j
  ]

  elected : (m : ElectValue) (t : TransactionValue) (p : ProposalValue) (proposals_elect : ProposalsElect)
      (election_of_list : ElectionOfList) → AreApart book.kept → ((k : KeptWord) → Contains (kept_after me book t m).kept k → Kept k) →
      Finds tx t → log_shard me.home.cluster t ≡ S → proposal_of me.home.cluster.f book.kept (id t) m.view (word_of m) ≡ Some p →
      can.Elected C signed (id t) (decision_as p.decision) m.view
  elected m t p proposals_elect election_of_list apart all looked home h =
      let made = proposals_elect me.home.cluster.f book.kept (id t) m.view (word_of m) p apart h in
      let back : (v : ElectPart) → Contains p.words v → IsWordOf (kept_after me book t m).kept (id t) m.view v =
      λ v i. word_among (id t) m.view (kept_after me book t m).kept v (made.same v i) in
      election_of_list C signed (id t) (decision_as p.decision) m.view (map named_word p.words)
      (rises (replicas me.home.cluster.f) 0 p.words made.elects.ascending
      (λ v i. let b = back v i in subst (λ (z : ElectPart). z.replica < replicas me.home.cluster.f) b.is (all b.word b.among).0)
      (λ u us e. omega arith))
      (length_named p.words ∙ made.elects.exact)
      (subst (λ (k : ℕ). majority me.home.cluster.f ≤ k) (sym (counted p.decision p.words)) made.elects.most)
      (λ n i. subst (λ (s : ℕ). can.Says C signed s n.replica (laws.Election s n.replica (id t) n.decision m.view))
      (sym home ∙ ap (log_shard me.home.cluster) (sym looked))
      (each_said (id t) m.view (kept_after me book t m).kept all p.words back n i))

  propose_goes : (m : ElectValue) (t : TransactionValue) (p : ProposalValue) → can.Elected C signed (id t) (decision_as p.decision) m.view →
      To (propose_done me book t m p)
  propose_goes m t p e =
      one_act C signed aborted S me.index (node own book) (id t) (acts.Proposes (decision_as p.decision) m.view) _ e
      (same_node _ _ _ _ (sym (words_append own (proposal_words me (id t) p.decision m.view ∷ [])))
      (put_same (slots book.entries book.logged) (id t) (slots book.entries book.logged (id t)) refl))

  collect_goes : (m : ElectValue) (t : TransactionValue) (o : Option ProposalValue) (done : Done) →
      ((p : ProposalValue) → o ≡ Some p → can.Elected C signed (id t) (decision_as p.decision) m.view) → collect_by me book t m o
      ≡ Ok done → To done
  collect_goes m t None done f h =
      subst To (ok_is (quiet (kept_after me book t m)) done (collect_by me book t m None) refl h)
      (stays C signed aborted S me.index (node own book) _ (same_node _ _ _ _ (sym (words_none own)) refl))
  collect_goes m t (Some p) done f h =
      subst To (unless_ok (exhausted 1 book.pen) (propose_done me book t m p) done h) (propose_goes m t p (f p refl))

  pub elect_goes : (m : ElectValue) (done : Done) (proposals_elect : ProposalsElect) (election_of_list : ElectionOfList) →
      AreApart book.kept → ((k : KeptWord) → Contains book.kept k → Kept k) →
      Kept (record { id = id m.transaction; view = m.view; word = word_of m }) → Finds tx m.transaction → FindsEach tx book.entries →
      log_shard me.home.cluster m.transaction ≡ S → answer_elect me book m ≡ Ok done → To done
  elect_goes m done proposals_elect election_of_list apart f g looked all home h =
      let t = m.transaction in
      let text : known_of book.entries t ≡ t = text_looked tx book.entries t looked all in
      let i : collect me book t m ≡ Ok done =
      sym (ap (λ (u : TransactionValue). collect me book u m) text)
      ∙ then_ok (not_leader me (known_of book.entries t) m.view me.index) (collect me book (known_of book.entries t) m) done h in
      collect_goes m t (proposal_of me.home.cluster.f book.kept (id t) m.view (word_of m)) done
      (λ p e. elected m t p proposals_elect election_of_list apart (kept_too m t f g) looked home e) i
