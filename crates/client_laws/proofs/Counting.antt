-- What is signed, counted.
use Rattle.std.proofs.Common.{◌≡◌, ℕ, zero, suc, ◌+◌, ◌≤◌, Bool, true, false, cond, List, [], ◌∷◌, ◌++◌, length, length-append, append-nil}
use Rattle.std.proofs.Common.{append_assoc, Option, Some, None, refl, sym, ap, subst, ◌∙◌, inl, inr, arith}
use Rattle.std.specs.Prelude.{slice_get, slice_set, filter, is_some, ◌&&◌, ◌==◌}
use Rattle.std.specs.Option.{option_map_or}
use Rattle.std.specs.Str.{bytes_eq}
use Rattle.std.proofs.lemmas.List.Elements.{filter-append}
use Rattle.std.proofs.lemmas.Option.{same_Some}
use Rattle.basil_types.specs.Built.{or_else}
use Rattle.basil_types.specs.Transaction.{TransactionValue, id}
use Rattle.basil_types.specs.Words.{SignedWords, TransactionWords}
use Rattle.client_recover.specs.Taken.{PursuitValue}
use Rattle.node_steps.specs.Pens.{PenValue}
use Rattle.node_steps.specs.Refusing.{when}
use Rattle.client_steps.specs.declared.fault.CallFault.TheVariants.{Empty, Exhausted, NotOpen}
use Rattle.client_core.specs.Calls.{begun_slot, pending, recovered_slot}
use Rattle.client_core.specs.Clients.{ClientDone, ClientSelf, ClientValue, SlotValue, empty_client}
use Rattle.client_core.specs.Slots.{is_named, with_pursuit}
use Rattle.client_laws.specs.Steps.{Step, client_after, signed_in, step}
use Rattle.client_laws.specs.Signing.{PlacesNeverRepeat, SignedOncePerSlot, Spends, formed_count, formed_with, is_id, signed_with}
use Rattle.client_laws.proofs.Changing.{Change, Keeps, Begins, Edits, Forms, Pursues, Recovers, changes}
use Rattle.client_laws.proofs.Following.{goes, opened, push_cases, second_none, set_cases, when_none}

-- ---- counts

module _ {A : Type 0} (p : A → Bool) where
  abbrev count : List A → ℕ
  count xs = length (filter p xs)

  count_cons : (x : A) (xs : List A) → count (x ∷ xs) ≡ cond (p x) 1 0 + count xs
  count_cons x xs = by (p x)
    where
      by : (b : Bool) → length (cond b (x ∷ filter p xs) (filter p xs)) ≡ cond b 1 0 + length (filter p xs)
      by true = omega arith
      by false = omega arith

  count_push : (xs : List A) (x : A) → count (xs ++ x ∷ []) ≡ count xs + cond (p x) 1 0
  count_push xs x =
      let one = count_cons x [] in
      let sum = ap length (filter-append p xs (x ∷ [])) ∙ length-append (filter p xs) (filter p (x ∷ [])) in
      omega (arith, one, sum)

  count_set : (xs : List A) (k : ℕ) (x y : A) → slice_get xs k ≡ Some x →
      count (slice_set xs k y) + cond (p x) 1 0 ≡ count xs + cond (p y) 1 0
  count_set [] k x y at = absurd cc
  count_set (z ∷ zs) zero x y at =
      let old = count_cons z zs in
      let new = count_cons y zs in
      let same : ◌≡◌ {A = ℕ} (cond (p z) 1 0) (cond (p x) 1 0) = ap (λ (a : A). cond (p a) 1 0) (same_Some z x at) in
      omega (arith, old, new, same)
  count_set (z ∷ zs) (suc k) x y at =
      let old = count_cons z zs in
      let new = count_cons z (slice_set zs k y) in
      let rest = count_set zs k x y at in
      omega (arith, old, new, rest)

  -- one that counts as the other did
  count_same : (xs : List A) (k : ℕ) (x y : A) → slice_get xs k ≡ Some x → p y ≡ p x → count (slice_set xs k y) ≡ count xs
  count_same xs k x y at same =
      let sum = count_set xs k x y at in
      let one : ◌≡◌ {A = ℕ} (cond (p y) 1 0) (cond (p x) 1 0) = ap (λ b. cond b 1 0) same in
      omega (arith, sum, one)

  -- one that counts, in the place of one that didn't
  count_more : (xs : List A) (k : ℕ) (x y : A) (b : Bool) → slice_get xs k ≡ Some x → p x ≡ false → p y ≡ b →
      count (slice_set xs k y) ≡ count xs + cond b 1 0
  count_more xs k x y b at none some =
      let sum = count_set xs k x y at in
      let old : ◌≡◌ {A = ℕ} (cond (p x) 1 0) 0 = ap (λ c. cond c 1 0) none in
      let new : ◌≡◌ {A = ℕ} (cond (p y) 1 0) (cond b 1 0) = ap (λ c. cond c 1 0) some in
      omega (arith, sum, old, new)

  count_none : (xs : List A) (x : A) → p x ≡ false → count (xs ++ x ∷ []) ≡ count xs
  count_none xs x none =
      let sum = count_push xs x in
      let zero_so : ◌≡◌ {A = ℕ} (cond (p x) 1 0) 0 = ap (λ c. cond c 1 0) none in
      omega (arith, sum, zero_so)

-- ---- slots

-- begun and formed, and with this id
abbrev own : SlotValue → Bool
own s = s.begun && is_some s.pursuit

abbrev own_with : List ℕ → SlotValue → Bool
own_with x s = s.begun && is_named x s

and_none : (b : Bool) → (b && false) ≡ false
and_none true = refl
and_none false = refl

module _ (s : SlotValue) (none : s.pursuit ≡ None) where
  own_none : own s ≡ false
  own_none = ap (λ (o : Option PursuitValue). s.begun && is_some o) none ∙ and_none s.begun

  own_with_none : (x : List ℕ) → own_with x s ≡ false
  own_with_none x =
      ap (λ (o : Option PursuitValue). s.begun && option_map_or (λ (p : PursuitValue). bytes_eq x (id p.transaction)) o false) none
      ∙ and_none s.begun

-- a slot whose transaction is of the same id
module _ (s : SlotValue) (p q : PursuitValue) (formed : s.pursuit ≡ Some p) (same : q.transaction ≡ p.transaction) where
  own_same : own (with_pursuit s q) ≡ own s
  own_same = ap (λ (o : Option PursuitValue). s.begun && is_some o) (sym formed)

  own_with_same : (x : List ℕ) → own_with x (with_pursuit s q) ≡ own_with x s
  own_with_same x =
      ap (λ (t : TransactionValue). s.begun && bytes_eq x (id t)) same
      ∙ ap (λ (o : Option PursuitValue). s.begun && option_map_or (λ (p : PursuitValue). bytes_eq x (id p.transaction)) o false)
      (sym formed)

-- each slot without a formed transaction was begun, and the words are the ids of the begun ones that are formed
record Signed (client : ClientValue) (ws : List SignedWords) : Type 0 where
  begun : (k : ℕ) (x : SlotValue) → slice_get client.slots k ≡ Some x → x.pursuit ≡ None → x.begun ≡ true
  each : (x : List ℕ) → signed_with x ws ≡ formed_with x client.slots
  all : length ws ≡ formed_count client.slots

module _ (client new : ClientValue) (ws : List SignedWords) (h : Signed client ws) where
  -- nothing is signed, and as many are formed
  signed_same : ((k : ℕ) (x : SlotValue) → slice_get new.slots k ≡ Some x → x.pursuit ≡ None → x.begun ≡ true) →
      ((x : List ℕ) → formed_with x new.slots ≡ formed_with x client.slots) → formed_count new.slots ≡ formed_count client.slots →
      Signed new ws
  signed_same begun each all = record { begun = begun; each = λ x. h.each x ∙ sym (each x); all = h.all ∙ sym all }

  begun_set : (k : ℕ) (y : SlotValue) → new.slots ≡ slice_set client.slots k y → (y.pursuit ≡ None → y.begun ≡ true) →
      (j : ℕ) (z : SlotValue) → slice_get new.slots j ≡ Some z → z.pursuit ≡ None → z.begun ≡ true
  begun_set k y is one j z at unformed =
      elim (set_cases client.slots k j y z (ap (λ (l : List SlotValue). slice_get l j) (sym is) ∙ at)) [
        | inl same ↦ ap (λ (s : SlotValue). s.begun) (sym same) ∙ one (ap (λ (s : SlotValue). s.pursuit) same ∙ unformed)
        | inr there ↦ h.begun j z there unformed
      ]

  begun_push : (y : SlotValue) → new.slots ≡ client.slots ++ y ∷ [] → (y.pursuit ≡ None → y.begun ≡ true) →
      (j : ℕ) (z : SlotValue) → slice_get new.slots j ≡ Some z → z.pursuit ≡ None → z.begun ≡ true
  begun_push y is one j z at unformed =
      elim (push_cases client.slots j y z (ap (λ (l : List SlotValue). slice_get l j) (sym is) ∙ at)) [
        | inl same ↦ ap (λ (s : SlotValue). s.begun) (sym same) ∙ one (ap (λ (s : SlotValue). s.pursuit) same ∙ unformed)
        | inr there ↦ h.begun j z there unformed
      ]

  -- a slot that counts as it did
  signed_set : (k : ℕ) (x y : SlotValue) → slice_get client.slots k ≡ Some x → new.slots ≡ slice_set client.slots k y →
      (y.pursuit ≡ None → y.begun ≡ true) → own y ≡ own x → ((n : List ℕ) → own_with n y ≡ own_with n x) → Signed new ws
  signed_set k x y at is one all each =
      signed_same (begun_set k y is one)
      (λ n. ap (formed_with n) is ∙ count_same (own_with n) client.slots k x y at (each n))
      (ap formed_count is ∙ count_same own client.slots k x y at all)

  -- one slot more, which doesn't count
  signed_push : (y : SlotValue) → new.slots ≡ client.slots ++ y ∷ [] → (y.pursuit ≡ None → y.begun ≡ true) →
      own y ≡ false → ((n : List ℕ) → own_with n y ≡ false) → Signed new ws
  signed_push y is one none each =
      signed_same (begun_push y is one)
      (λ n. ap (formed_with n) is ∙ count_none (own_with n) client.slots y (each n))
      (ap formed_count is ∙ count_none own client.slots y none)

  -- a slot that is formed, whose id is signed
  signed_formed : (k : ℕ) (x : SlotValue) (p : PursuitValue) → slice_get client.slots k ≡ Some x → x.pursuit ≡ None →
      new.slots ≡ slice_set client.slots k (with_pursuit x p) → Signed new (ws ++ TransactionWords (id p.transaction) ∷ [])
  signed_formed k x p at unformed is =
      let y = with_pursuit x p in
      let begun : x.begun ≡ true = h.begun k x at unformed in
      let w = TransactionWords (id p.transaction) in
      record {
        begun = begun_set k y is (λ none. absurd cc);
        each = λ n.
            let words = count_push (is_id n) ws w in
            let slots = ap (formed_with n) is
            ∙ count_more (own_with n) client.slots k x y (bytes_eq n (id p.transaction)) at (own_with_none x unformed n)
            (ap (λ b. b && bytes_eq n (id p.transaction)) begun) in
            let old = h.each n in
            omega (arith, words, slots, old);
        all =
            let slots : formed_count new.slots ≡ formed_count client.slots + 1 =
            ap formed_count is ∙ count_more own client.slots k x y true at (own_none x unformed) (ap (λ b. b && true) begun) in
            let words = length-append ws (w ∷ []) in
            let old = h.all in
            omega (arith, words, slots, old);
      }

no_more : (client : ClientValue) (ws signed : List SignedWords) → signed ≡ [] → Signed client ws → Signed client (ws ++ signed)
no_more client ws signed none h = subst (Signed client) (sym (ap (λ l. ws ++ l) none ∙ append-nil ws)) h

signs : (me : ClientSelf) (client : ClientValue) (s : Step) (d : ClientDone) (ws : List SignedWords) → Change me client s d →
    Signed client ws → Signed d.client (ws ++ d.signed)
signs me client s d ws (Keeps is calm) h = no_more d.client ws d.signed calm.signed (subst (λ v. Signed v ws) (sym is) h)
signs me client s d ws (Begins time above is) h =
    no_more d.client ws d.signed (ap (λ (x : ClientDone). x.signed) is)
    (signed_push client d.client ws h (begun_slot time) (ap (λ (x : ClientDone). x.client.slots) is) (λ none. refl) refl (λ n. refl))
signs me client s d ws (Edits e) h =
    no_more d.client ws d.signed (e.calm).signed
    (signed_set client d.client ws h e.slot e.x _ e.at (ap (λ (v : ClientValue). v.slots) e.is) (h.begun e.slot e.x e.at) refl (λ n. refl))
signs me client s d ws (Forms f) h =
    subst (λ (x : ClientDone). Signed x.client (ws ++ x.signed)) (sym f.is)
    (signed_formed client _ ws h f.slot f.x _ f.at (opened me client f.x f.fault) refl)
signs me client s d ws (Pursues p) h =
    no_more d.client ws d.signed (ap (λ (x : ClientDone). x.signed) p.is)
    (signed_set client d.client ws h p.slot p.x (with_pursuit p.x p.e.pursuit) p.at (ap (λ (x : ClientDone). x.client.slots) p.is)
    (λ none. absurd cc) (own_same p.x p.p p.e.pursuit p.formed ((goes me client d p).follows).task)
    (own_with_same p.x p.p p.e.pursuit p.formed ((goes me client d p).follows).task))
signs me client s d ws (Recovers t signature is calm) h =
    no_more d.client ws d.signed calm.signed
    (signed_push client d.client ws h (recovered_slot t signature) (ap (λ (v : ClientValue). v.slots) is) (λ none. absurd cc)
    refl (λ n. refl))

all_sign : (me : ClientSelf) (client : ClientValue) (ss : List Step) (ws : List SignedWords) → Signed client ws →
    Signed (client_after me client ss) (ws ++ signed_in me client ss)
all_sign me client [] ws h = subst (Signed client) (sym (append-nil ws)) h
all_sign me client (s ∷ ss) ws h =
    let d = step me client s in
    subst (Signed (client_after me d.client ss)) (append_assoc ws d.signed (signed_in me d.client ss))
    (all_sign me d.client ss (ws ++ d.signed) (signs me client s d ws (changes me client s) h))

pub signed_once : SignedOncePerSlot
signed_once me pen ss =
    let h = all_sign me (empty_client pen) ss [] (record { begun = λ k x at. absurd cc; each = λ x. refl; all = refl }) in
    record { each = h.each; all = h.all }

-- ---- places of the pen

spends_none : (old new : ClientValue) (signed : List SignedWords) → new.pen ≡ old.pen → signed ≡ [] → Spends old new (length signed)
spends_none old new signed same none =
    let count : length signed ≡ 0 = ap length none in
    let spent : new.pen.spent ≡ old.pen.spent = ap (λ (p : PenValue). p.spent) same in
    let left : new.pen.left ≡ old.pen.left = ap (λ (p : PenValue). p.left) same in
    record { spent = omega (arith, count, spent); left = omega (arith, count, left) }

left_one : (n : ℕ) → (n == 0) ≡ false → 1 ≤ n
left_one zero h = absurd cc
left_one (suc n) h = omega arith

pub spends : (me : ClientSelf) (client : ClientValue) (s : Step) (d : ClientDone) → Change me client s d →
    Spends client d.client (length d.signed)
spends me client s d (Keeps is calm) = spends_none client d.client d.signed (ap (λ (v : ClientValue). v.pen) is) calm.signed
spends me client s d (Begins time above is) =
    spends_none client d.client d.signed (ap (λ (x : ClientDone). x.client.pen) is) (ap (λ (x : ClientDone). x.signed) is)
spends me client s d (Edits e) = spends_none client d.client d.signed (ap (λ (v : ClientValue). v.pen) e.is) (e.calm).signed
spends me client s d (Forms f) =
    let x = f.x in
    let nothing = (length x.reads == 0) && (length x.writes == 0) in
    let spent = when (client.pen.left == 0) Exhausted in
    let left = left_one client.pen.left (when_none (client.pen.left == 0) Exhausted
    (second_none (when nothing Empty) spent
    (second_none (pending me.cluster x) (or_else (when nothing Empty) spent)
    (second_none (when (is_some x.pursuit) NotOpen) (or_else (pending me.cluster x) (or_else (when nothing Empty) spent)) f.fault)))) in
    subst (λ (y : ClientDone). Spends client y.client (length y.signed)) (sym f.is)
    (record { spent = refl; left = omega (arith, left) })
spends me client s d (Pursues p) =
    spends_none client d.client d.signed (ap (λ (x : ClientDone). x.client.pen) p.is) (ap (λ (x : ClientDone). x.signed) p.is)
spends me client s d (Recovers t signature is calm) =
    spends_none client d.client d.signed (ap (λ (v : ClientValue). v.pen) is) calm.signed

pub all_spend : PlacesNeverRepeat
all_spend me client [] = record { spent = omega arith; left = omega arith }
all_spend me client (s ∷ ss) =
    let d = step me client s in
    let one = spends me client s d (changes me client s) in
    let rest = all_spend me d.client ss in
    let sum = length-append d.signed (signed_in me d.client ss) in
    let a = one.spent in let b = rest.spent in let c = one.left in let e = rest.left in
    record { spent = omega (arith, a, b, sum); left = omega (arith, c, e, sum) }
