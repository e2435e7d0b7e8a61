-- The pens of parties, and what they sign.
use Rattle.std.proofs.Common.{◌≡◌, ℕ, zero, suc, ◌+◌, ◌<◌, ◌≤◌, Bool, true, false, cond, List, [], ◌∷◌, ◌++◌}
use Rattle.std.proofs.Common.{Option, Some, None, length, set, get_or, refl, sym, ap, subst, ◌∙◌, arith}
use Rattle.std.specs.Prelude.{◌-◌, ◌==◌, find, nat_lt, option_map, position, slice_get}
use Rattle.std.specs.List.{list_any, position_or_len}
use Rattle.std.specs.Option.{option_map_or, option_or}
use Rattle.std.specs.Prelude.{◌||◌}
use Rattle.std.proofs.Math.Bool.{or-false, or_assoc}
use Rattle.std.proofs.lemmas.Bool.{eqb-true, eq-eqb, and_parts, and_from, ltb-true, ltb-false, or_parts}
use Rattle.std.proofs.lemmas.List.Folds.{find-append, find-set, find_at, find_past}
use Rattle.std.proofs.lemmas.List.Quantifiers.{position-Some}
use Rattle.std.proofs.lemmas.List.Sums.{sum_by-append}
use Rattle.std.proofs.lemmas.Option.{get_or_from_slice_get, slice_get_within}
use Rattle.basil_types.specs.declared.outbox.Outbox.{Outbox}
use Rattle.basil_types.specs.declared.party.Party.{Party}
use Rattle.basil_types.specs.declared.party.Party.TheVariants.{Replica, Client}
use Rattle.basil_types.specs.Words.{SignedWords, words_of}
use Rattle.keyring.specs.declared.signer.Signer as signers
use Rattle.keyring.specs.Signing.{Signing}
use Rattle.node_steps.specs.Holding.{Holds}
use Rattle.node_steps.specs.declared.pending.Pending.{Pending}
use Rattle.node_steps.specs.Pendings.{CanSign, IsReady, Sends, bytes_in, bytes_sent, sealed_all}
use Rattle.node_steps.specs.Pens.{PenValue, after_one, pen_value}
use Rattle.premise_watch.specs.Breaches.{NotedWords}
use Rattle.txn_table.specs.Entries.{same_party}
use Rattle.cluster_run.specs.Faulty.{after_lie, faulty_signature}
use Rattle.cluster_run.specs.States.{KitValue, Setup, State, is_faulty}
use Rattle.faulty_parties.specs.declared.pens.Pen.{Pen}
use Rattle.faulty_parties.specs.declared.pens.Pens.{Pens}
use Rattle.faulty_parties.specs.declared.lie.Lie.{Lie}
use Rattle.faulty_parties.specs.Lies.{CanBeSaid, Says, Tells}
use Rattle.faulty_parties.specs.Pens.{Begins, HasGiven, IsThere, LieFor, LiesAs, StepsAt, left_in, pen_of, size_in, times}
use Rattle.faulty_parties.specs.Unsaid.{Unsaid}

-- ---- parties

pub party_same : (p q : Party) → same_party p q ≡ true → p ≡ q
party_same (Replica a b) (Replica c d) h =
    let both = and_parts (a == c) (b == d) h in
    ap (λ (x : ℕ). Replica x b) (eqb-true a c both.0) ∙ ap (λ (y : ℕ). Replica c y) (eqb-true b d both.1)
party_same (Replica a b) (Client n) h = absurd cc
party_same (Client n) (Replica a b) h = absurd cc
party_same (Client n) (Client m) h = ap Client (eqb-true n m h)

pub party_self : (p : Party) → same_party p p ≡ true
party_self (Replica a b) = and_from _ _ (eq-eqb a a refl) (eq-eqb b b refl)
party_self (Client n) = eq-eqb n n refl

-- ---- places

-- an item at a place
pub record ItemAt {A : Type 0} (xs : List A) (i : ℕ) : Type 0 where
  pub item : A
  pub is : slice_get xs i ≡ Some item

item_at : {A : Type 0} (xs : List A) (i : ℕ) → i < length xs → ItemAt xs i
item_at [] i h = absurd (omega arith)
item_at (x ∷ xs) zero h = record { item = x; is = refl }
item_at (x ∷ xs) (suc i) h = let r = item_at xs i (omega (arith, h)) in record { item = r.item; is = r.is }

none_past : {A : Type 0} (xs : List A) (i : ℕ) → length xs ≤ i → slice_get xs i ≡ None
none_past [] i h = refl
none_past (x ∷ xs) zero h = absurd (omega arith)
none_past (x ∷ xs) (suc i) h = none_past xs i (omega (arith, h))

found_within : (n l i : ℕ) → cond (nat_lt n l) (Some n) None ≡ Some i → i < l
found_within n l i e = by (nat_lt n l) refl e
  where
    by : (b : Bool) → nat_lt n l ≡ b → cond b (Some n) None ≡ Some i → i < l
    by true is k = let same : n ≡ i = cc in let low = ltb-true n l is in omega (arith, same, low)
    by false is k = absurd cc

not_found : (n l : ℕ) → cond (nat_lt n l) (Some n) None ≡ None → l ≤ n
not_found n l e = by (nat_lt n l) refl e
  where
    by : (b : Bool) → nat_lt n l ≡ b → cond b (Some n) None ≡ None → l ≤ n
    by true is k = absurd cc
    by false is k = ltb-false n l is

-- what a search finds is there
pub found_item : {A : Type 0} (p : A → Bool) (xs : List A) (i : ℕ) → Some i ≡ position p xs → ItemAt xs i
found_item p xs i e = item_at xs i (found_within (position_or_len p xs) (length xs) i (sym e))

pub found_none : {A : Type 0} (p : A → Bool) (xs : List A) → None ≡ position p xs → find p xs ≡ None
found_none p xs e =
    find_at p xs ∙ none_past xs (position_or_len p xs) (not_found (position_or_len p xs) (length xs) (sym e))

some_none : {A : Type 0} (x : A) → Some x ≡ None → ⊥
some_none x e = absurd cc

-- ---- the first pen

place_is : (n l i : ℕ) → cond (nat_lt n l) (Some n) None ≡ Some i → n ≡ i
place_is n l i e = by (nat_lt n l) e
  where
    by : (b : Bool) → cond b (Some n) None ≡ Some i → n ≡ i
    by true k = cc
    by false k = absurd cc

module _ {S : Type 0} where
  abbrev pub is_of : Party → Pen S → Bool
  is_of p x = same_party p x.party

  abbrev pub pen_for : Party → S → Pen S
  pen_for p x = record { party = p; signer = x }

  first_there : (p : Party) (pens : List (Pen S)) (i : ℕ) → position (is_of p) pens ≡ Some i → position_or_len (is_of p) pens ≡ i
  first_there p pens i e = place_is (position_or_len (is_of p) pens) (length pens) i e

  -- the pen at the place of a party is the party's
  pub first_found : (p : Party) (pens : List (Pen S)) (i : ℕ) (x : Pen S) → position (is_of p) pens ≡ Some i →
      slice_get pens i ≡ Some x → pen_of pens p ≡ Some x.signer
  first_found p pens i x e g =
      ap (option_map (λ (y : Pen S). y.signer)) (find_at (is_of p) pens ∙ ap (slice_get pens) (first_there p pens i e) ∙ g)

  pub party_at : (p : Party) (pens : List (Pen S)) (i : ℕ) (x : Pen S) → position (is_of p) pens ≡ Some i →
      slice_get pens i ≡ Some x → p ≡ x.party
  party_at p pens i x e g =
      party_same p x.party (ap (is_of p) (sym (get_or_from_slice_get pens i x x g)) ∙ (position-Some (is_of p) pens i x e).1)

  -- one more pen behind the others is that of its party, where there was none
  pub pen_added : (q p : Party) (pens : List (Pen S)) (x : S) →
      pen_of (pens ++ pen_for p x ∷ []) q ≡ option_or (pen_of pens q) (cond (same_party q p) (Some x) None)
  pen_added q p pens x =
      ap (option_map (λ (y : Pen S). y.signer)) (find-append (is_of q) pens (pen_for p x ∷ []))
      ∙ either (find (is_of q) pens) (same_party q p)
    where
      either : (o : Option (Pen S)) (b : Bool) →
          option_map (λ (y : Pen S). y.signer) (option_or o (cond b (Some (pen_for p x)) None))
          ≡ option_or (option_map (λ (y : Pen S). y.signer) o) (cond b (Some x) None)
      either None true = refl
      either None false = refl
      either (Some y) b = refl

  -- with another pen of the party there, the party has that, and the others theirs
  own_set : (p : Party) (pens : List (Pen S)) (i : ℕ) (x y : Pen S) → position (is_of p) pens ≡ Some i →
      slice_get pens i ≡ Some x → p ≡ y.party → pen_of (set pens i y) p ≡ Some y.signer
  own_set p pens i x y e g s =
      ap (option_map (λ (z : Pen S). z.signer))
      (find-set (is_of p) pens i y (sym (first_there p pens i e)) (slice_get_within pens i x g)
      (ap (same_party p) (sym s) ∙ party_self p))

  other_set : (q p : Party) (pens : List (Pen S)) (i : ℕ) (x y : Pen S) → slice_get pens i ≡ Some x → p ≡ x.party → p ≡ y.party →
      same_party q p ≡ false → pen_of (set pens i y) q ≡ pen_of pens q
  other_set q p pens i x y g s t d =
      ap (option_map (λ (z : Pen S). z.signer))
      (find_past (is_of q) pens i y x (ap (is_of q) (get_or_from_slice_get pens i x x g) ∙ ap (same_party q) (sym s) ∙ d)
      (ap (same_party q) (sym t) ∙ d))

-- ---- what was signed

abbrev pub lie_of : Party → SignedWords → NotedWords
lie_of p words = record { party = p; words = words }

pub times_after : (q p : Party) (words : SignedWords) (lied : List NotedWords) →
    times q (lied ++ lie_of p words ∷ []) ≡ times q lied + cond (same_party q p) 1 0
times_after q p words lied =
    let e = sum_by-append (λ (n : NotedWords). cond (same_party q n.party) 1 0) lied (lie_of p words ∷ []) in
    omega (arith, e)

pen_same : (a b c d : ℕ) → a ≡ c → b ≡ d → pen_value a b ≡ pen_value c d
pen_same a b c d e f = ap (λ x. pen_value x b) e ∙ ap (pen_value c) f

module _ {S : Type 0} (g : signers.Ghosts S) (k : KitValue) (p : Party) where
  pub gave_more : (n : ℕ) (old new : S) → HasGiven g k p n old → 0 < g.left_of old → g.fixed new ≡ g.fixed old →
      pen_value (g.spent new) (g.left_of new) ≡ after_one (pen_value (g.spent old) (g.left_of old)) →
      HasGiven g k p (n + 1) new
  gave_more n old new h left fixed spends =
      let l : g.left_of old ≡ (k.pen p).left - n = ap (λ (x : PenValue). x.left) h.place in
      record {
        own = h.own;
        fixed = fixed ∙ h.fixed;
        few = omega (arith, l, left);
        place = spends ∙ ap after_one h.place ∙ pen_same _ _ _ _ (omega arith) (omega arith);
        sized = h.sized;
      }

  pub signature_now : (n : ℕ) (pen : S) (words : List ℕ) → HasGiven g k p n pen →
      (g.fixed pen).gives (g.spent pen) words ≡ (k.signing p).gives ((k.pen p).spent + n) words
  signature_now n pen words h =
      ap (λ (s : Signing). s.gives (g.spent pen) words) h.fixed
      ∙ ap (λ (m : ℕ). (k.signing p).gives m words) (ap (λ (x : PenValue). x.spent) h.place)

-- a pen that is there
pub there : {S : Type 0} (Is : S → Type 0) (o : Option S) (x : S) → o ≡ Some x → IsThere Is o → Is x
there Is o x e h = subst (IsThere Is) e h

pub is_there : {S : Type 0} (Is : S → Type 0) (o : Option S) (x : S) → o ≡ Some x → Is x → IsThere Is o
is_there Is o x e h = subst (IsThere Is) (sym e) h

module _ {S : Type 0} (g : signers.Ghosts S) (s : Setup) (parties : List Party) (lied : List NotedWords) where
  -- after a signature of a party's pen, each has its own still
  pub lie_on : (old new : Pens S) (p : Party) (words : SignedWords) (i : ℕ) (x : Pen S) →
      position (is_of p) old.pens.items ≡ Some i → slice_get old.pens.items i ≡ Some x → 0 < g.left_of x.signer →
      StepsAt g old.pens.items new.pens.items i x → LieFor g old s parties lied → LieFor g new s parties (lied ++ lie_of p words ∷ [])
  lie_on old new p words i x e at left step h = record { own = mine; others = other }
    where
      own : p ≡ x.party
      own = party_at p old.pens.items i x e at

      next : p ≡ step.next.party
      next = own ∙ sym step.party

      others_kept : (q : Party) → same_party q p ≡ false → pen_of new.pens.items q ≡ pen_of old.pens.items q
      others_kept q is = ap (λ l. pen_of l q) step.is ∙ other_set q p old.pens.items i x step.next at own next is

      first : (q : Party) → same_party q p ≡ true → pen_of old.pens.items q ≡ Some x.signer
      first q is = ap (pen_of old.pens.items) (party_same q p is) ∙ first_found p old.pens.items i x e at

      mine : (q : Party) → list_any (same_party q) parties ≡ true →
          IsThere (HasGiven g s.kit q (times q (lied ++ lie_of p words ∷ []))) (pen_of new.pens.items q)
      mine q among = by (same_party q p) refl
        where
          by : (b : Bool) → same_party q p ≡ b →
              IsThere (HasGiven g s.kit q (times q (lied ++ lie_of p words ∷ []))) (pen_of new.pens.items q)
          by true is =
              let same = party_same q p is in
              let more : times q (lied ++ lie_of p words ∷ []) ≡ times q lied + 1 =
              times_after q p words lied ∙ ap (λ b. times q lied + cond b 1 0) is in
              is_there _ (pen_of new.pens.items q) step.next.signer
              (ap (pen_of new.pens.items) same ∙ ap (λ l. pen_of l p) step.is
              ∙ own_set p old.pens.items i x step.next e at next)
              (subst (λ m. HasGiven g s.kit q m step.next.signer) (sym more)
              (gave_more g s.kit q (times q lied) x.signer step.next.signer
              (there _ (pen_of old.pens.items q) x.signer (first q is) (h.own q among))
              left step.fixed step.spends))
          by false is =
              let more : times q (lied ++ lie_of p words ∷ []) ≡ times q lied =
              times_after q p words lied ∙ ap (λ b. times q lied + cond b 1 0) is ∙ (omega arith) in
              subst (λ m. IsThere (HasGiven g s.kit q m) (pen_of new.pens.items q)) (sym more)
              (subst (IsThere (HasGiven g s.kit q (times q lied))) (sym (others_kept q is)) (h.own q among))

      other : (q : Party) → list_any (same_party q) parties ≡ false → pen_of new.pens.items q ≡ None
      other q out = by (same_party q p) refl
        where
          by : (b : Bool) → same_party q p ≡ b → pen_of new.pens.items q ≡ None
          by true is = absurd (some_none (x.signer) (sym (first q is) ∙ h.others q out))
          by false is = others_kept q is ∙ h.others q out

-- one of these, or the last
among_more : (q p : Party) (parties : List Party) →
    list_any (same_party q) (parties ++ p ∷ []) ≡ (list_any (same_party q) parties || same_party q p)
among_more q p [] = or-false (same_party q p)
among_more q p (x ∷ xs) =
    ap (λ b. same_party q x || b) (among_more q p xs) ∙ sym (or_assoc (same_party q x) (list_any (same_party q) xs) (same_party q p))

in_either : {S : Type 0} (Is : S → Type 0) (o k : Option S) → IsThere Is o → IsThere Is (option_or o k)
in_either Is None k h = absurd h
in_either Is (Some x) k h = h

begun : {S : Type 0} (g : signers.Ghosts S) (k : KitValue) (p : Party) (pen : S) → Begins g k p pen → HasGiven g k p 0 pen
begun g k p pen b =
    record {
      own = b.own;
      fixed = b.fixed;
      few = omega arith;
      place = b.place ∙ pen_same (k.pen p).spent (k.pen p).left _ _ (omega arith) (omega arith);
      sized = b.sized;
    }

-- with the pen of one more party, each has its own
pub lie_more : {S : Type 0} (g : signers.Ghosts S) (s : Setup) (parties : List Party) (p : Party) (x : S) (old new : Pens S) →
    new.pens.items ≡ old.pens.items ++ pen_for p x ∷ [] → LieFor g old s parties [] → Begins g s.kit p x →
    LieFor g new s (parties ++ p ∷ []) []
lie_more {S} g s parties p x old new added h is = record { own = own; others = others }
  where
    now : (q : Party) → pen_of new.pens.items q ≡ option_or (pen_of old.pens.items q) (cond (same_party q p) (Some x) None)
    now q = ap (λ l. pen_of l q) added ∙ pen_added q p old.pens.items x

    anew : (q : Party) → list_any (same_party q) parties ≡ false →
        pen_of new.pens.items q ≡ cond (same_party q p) (Some x) None
    anew q out = now q ∙ ap (λ o. option_or o (cond (same_party q p) (Some x) None)) (h.others q out)

    own : (q : Party) → list_any (same_party q) (parties ++ p ∷ []) ≡ true →
        IsThere (HasGiven g s.kit q 0) (pen_of new.pens.items q)
    own q among = by (list_any (same_party q) parties) refl
      where
        last : list_any (same_party q) parties ≡ false → same_party q p ≡ true
        last out = sym (ap (λ b. b || same_party q p) out) ∙ sym (among_more q p parties) ∙ among

        by : (b : Bool) → list_any (same_party q) parties ≡ b → IsThere (HasGiven g s.kit q 0) (pen_of new.pens.items q)
        by true here =
            subst (IsThere (HasGiven g s.kit q 0)) (sym (now q))
            (in_either (HasGiven g s.kit q 0) (pen_of old.pens.items q) (cond (same_party q p) (Some x) None) (h.own q here))
        by false out =
            is_there (HasGiven g s.kit q 0) (pen_of new.pens.items q) x
            (anew q out ∙ ap (λ b. cond b (Some x) None) (last out))
            (subst (λ r. HasGiven g s.kit r 0 x) (sym (party_same q p (last out))) (begun g s.kit p x is))

    others : (q : Party) → list_any (same_party q) (parties ++ p ∷ []) ≡ false → pen_of new.pens.items q ≡ None
    others q out =
        let both = or_parts (list_any (same_party q) parties) (same_party q p) (sym (among_more q p parties) ∙ out) in
        anew q both.0 ∙ ap (λ b. cond b (Some x) None) both.1

-- ---- a signature

-- the pen at a place is the one that was there, once it has signed
pub stepped : {S : Type 0} (g : signers.Ghosts S) (pens : List (Pen S)) (place : ℕ) (x pen : Pen S) (new : S) →
    x ≡ get_or pens place x → slice_get pens place ≡ Some pen → g.fixed new ≡ g.fixed x.signer →
    pen_value (g.spent new) (g.left_of new) ≡ after_one (pen_value (g.spent x.signer) (g.left_of x.signer)) →
    StepsAt g pens (set pens place (pen_for x.party new)) place pen
stepped g pens place x pen new here at fixed spends =
    let same : x ≡ pen = here ∙ get_or_from_slice_get pens place pen x at in
    record {
      next = pen_for x.party new;
      is = refl;
      party = ap (λ (y : Pen _). y.party) same;
      fixed = fixed ∙ ap (λ (y : Pen _). g.fixed y.signer) same;
      spends = spends ∙ ap (λ (y : Pen _). after_one (pen_value (g.spent y.signer) (g.left_of y.signer))) same;
    }

-- what it sends has the size of its signatures
pub sends_at : {S : Type 0} (g : signers.Ghosts S) (pens : List (Pen S)) (place : ℕ) (x pen : Pen S) (old new : Outbox) (p : Pending) →
    x ≡ get_or pens place x → slice_get pens place ≡ Some pen →
    Sends old new (length p.frames.items) (bytes_in (g.fixed x.signer).size p.frames.items) →
    Sends old new (length p.frames.items) (bytes_in (g.fixed pen.signer).size p.frames.items)
sends_at g pens place x pen old new p here at h =
    subst (λ (y : Pen _). Sends old new (length p.frames.items) (bytes_in (g.fixed y.signer).size p.frames.items))
    (here ∙ get_or_from_slice_get pens place pen x at) h

module _ {S : Type 0} (g : signers.Ghosts S) (old : Pens S) (p : Party) (i : ℕ) (x : Pen S)
    (here : Some i ≡ position (is_of p) old.pens.items) (at : slice_get old.pens.items i ≡ Some x) where
  first : pen_of old.pens.items p ≡ Some x.signer
  first = first_found p old.pens.items i x (sym here) at

  pub left_here : left_in g old p ≡ g.left_of x.signer
  left_here = ap (λ o. option_map_or g.left_of o 0) first

  pub size_here : size_in g old p ≡ (g.fixed x.signer).size
  size_here = ap (λ o. option_map_or (λ pen. (g.fixed pen).size) o 1) first

  pub can_sign : (lie : Lie) → 0 < left_in g old p → CanBeSaid (size_in g old p) lie →
      CanSign (g.fixed x.signer).size (g.left_of x.signer) lie.out lie.pending
  can_sign lie left can =
      record {
        left = subst (λ n. 0 < n) left_here left;
        ready = subst (λ n. IsReady n lie.pending) size_here can.ready;
        messages = can.messages;
        signed = can.words;
      }

  pub signs_here : (s : Setup) (st : State) (words : SignedWords) (waiting signature : List ℕ) → LiesAs g old s st.lied →
      is_faulty s p ≡ true → waiting ≡ words_of words → signature ≡ (g.fixed x.signer).gives (g.spent x.signer) waiting →
      signature ≡ faulty_signature s st p words
  signs_here s st words waiting signature lies among w e =
      e ∙ signature_now g s.kit p (times p st.lied) x.signer waiting
      (there (HasGiven g s.kit p (times p st.lied)) (pen_of old.pens.items p) x.signer first (lies.own p among))
      ∙ ap ((s.kit.signing p).gives ((s.kit.pen p).spent + times p st.lied)) w

  pub lies_on : (new : Pens S) (s : Setup) (st : State) (words : SignedWords) → 0 < left_in g old p →
      StepsAt g old.pens.items new.pens.items i x → LiesAs g old s st.lied → LiesAs g new s (after_lie st p words).lied
  lies_on new s st words left step lies =
      lie_on g s s.faulty st.lied old new p words i x (sym here) at (subst (λ n. 0 < n) left_here left) step lies

pub no_pen_left : {S : Type 0} (g : signers.Ghosts S) (old : Pens S) (p : Party) → None ≡ position (is_of p) old.pens.items →
    0 < left_in g old p → ⊥
no_pen_left g old p none left =
    let e : left_in g old p ≡ 0 =
    ap (λ o. option_map_or g.left_of (option_map (λ (y : Pen _). y.signer) o) 0) (found_none (is_of p) old.pens.items none) in
    omega (arith, e, left)

-- ---- what is sent

pub holds_said : (u : Unsaid) (lie : Lie) (size : ℕ) (signature said : List ℕ) (out : Outbox) → CanBeSaid size lie → Says u lie →
    signature ≡ said → out.messages.items ≡ lie.out.messages.items ++ sealed_all signature lie.pending →
    out.signed.items ≡ lie.out.signed.items ++ lie.pending.words ∷ [] → Holds out (u.sent said) (u.words ∷ [])
holds_said u lie size signature said out can says same m w =
    record {
      messages = m ∙ ap (λ l. l ++ sealed_all signature lie.pending) can.sent ∙ ap (λ b. sealed_all b lie.pending) same
          ∙ says.frames said;
      signed = w ∙ ap (λ l. l ++ lie.pending.words ∷ []) can.signed ∙ ap (λ b. b ∷ []) says.words;
    }

pub tells_sent : (lie : Lie) (size own : ℕ) (out : Outbox) → CanBeSaid size lie → size ≡ own →
    Sends lie.out out (length lie.pending.frames.items) (bytes_in own lie.pending.frames.items) → Tells lie out.messages.items
tells_sent lie size own out can same sends =
    let none : length lie.out.messages.items ≡ 0 = ap length can.sent in
    let nothing : bytes_sent lie.out.messages.items ≡ 0 = ap bytes_sent can.sent in
    let told : lie.bytes ≡ bytes_in own lie.pending.frames.items = can.bytes ∙ ap (λ n. bytes_in n lie.pending.frames.items) same in
    record { count = omega (arith, none, sends.messages); bytes = omega (arith, nothing, told, sends.bytes) }
