-- Which place of the pen each signed word takes.
use Rattle.std.proofs.Common.{◌≡◌, ℕ, zero, suc, ◌+◌, List, [], ◌∷◌, ◌++◌, length, length-append, append-nil, append_assoc, Option, Some}
use Rattle.std.proofs.Common.{refl, sym, ap, subst, ◌∙◌, ◌⊎◌, inl, inr, arith}
use Rattle.std.specs.Prelude.{slice_get, option_and_then}
use Rattle.std.proofs.lemmas.Option.{same_Some}
use Rattle.client_recover.specs.Owned.{unstarted}
use Rattle.basil_types.specs.Transaction.{id}
use Rattle.basil_types.specs.Words.{SignedWords, TransactionWords, words_of}
use Rattle.client_core.specs.Calls.{formed}
use Rattle.client_core.specs.Clients.{ClientDone, ClientSelf, ClientValue, SlotValue, empty_client}
use Rattle.client_core.specs.Slots.{with_pursuit}
use Rattle.client_laws.specs.Signing.{IsSignedAt, WordsTakePlaces}
use Rattle.client_laws.specs.Steps.{Step, client_after, signed_in, step}
use Rattle.client_laws.proofs.Changing.{Change, Keeps, Begins, Edits, Forms, Formed, Pursues, Recovers, changes}
use Rattle.client_laws.proofs.Counting.{spends}
use Rattle.client_laws.proofs.Following.{next, set_same}

-- where the last of a list stands
push_at : {A : Type 0} (xs : List A) (n : ℕ) (y z : A) → slice_get (xs ++ y ∷ []) n ≡ Some z →
    ((n ≡ length xs) × (y ≡ z)) ⊎ (slice_get xs n ≡ Some z)
push_at [] zero y z h = inl (refl, same_Some y z h)
push_at [] (suc n) y z h = absurd cc
push_at (x ∷ xs) zero y z h = inr h
push_at (x ∷ xs) (suc n) y z h = elim (push_at xs n y z h) [ inl e ↦ inl (ap suc e.0, e.1) | inr i ↦ inr i ]

-- ---- one transaction

-- it is signed as it is formed
pub formed_at : (me : ClientSelf) (client : ClientValue) (d : ClientDone) (f : Formed me client d) →
    IsSignedAt me d.client client.pen.spent (id (formed me f.x))
formed_at me client d f =
    let t = formed me f.x in
    let p = unstarted t (me.signing.gives client.pen.spent (words_of (TransactionWords (id t)))) in
    subst (λ (y : ClientDone). IsSignedAt me y.client client.pen.spent (id t)) (sym f.is)
    (record {
      slot = f.slot;
      pursuit = p;
      formed =
          ap (λ (o : Option SlotValue). option_and_then (λ (s : SlotValue). s.pursuit) o)
          (set_same client.slots f.slot f.x (with_pursuit f.x p) f.at);
      named = refl;
      given = refl;
    })

-- and stays so
stays_signed : (me : ClientSelf) (client : ClientValue) (s : Step) (place : ℕ) (x : List ℕ) → IsSignedAt me client place x →
    IsSignedAt me (step me client s).client place x
stays_signed me client s place x h =
    let l = next me client h.slot h.pursuit s h.formed in
    record {
      slot = h.slot;
      pursuit = l.q;
      formed = l.at;
      named = ap id (l.follows).task ∙ h.named;
      given = (l.follows).signature ∙ h.given;
    }

-- ---- steps

-- these words were signed at this place
abbrev IsTaken : ClientSelf → ClientValue → ℕ → SignedWords → Type 0
IsTaken me client place w = (x : List ℕ) × (w ≡ TransactionWords x) × IsSignedAt me client place x

-- all that was signed, from this place on
record Placed (me : ClientSelf) (client : ClientValue) (first : ℕ) (ws : List SignedWords) : Type 0 where
  spent : client.pen.spent ≡ first + length ws
  each : (n : ℕ) (w : SignedWords) → slice_get ws n ≡ Some w → IsTaken me client (first + n) w

module _ (me : ClientSelf) (client : ClientValue) (s : Step) (first : ℕ) (ws : List SignedWords) (h : Placed me client first ws) where
  abbrev done : ClientDone
  done = step me client s

  old_words : (n : ℕ) (w : SignedWords) → slice_get ws n ≡ Some w → IsTaken me done.client (first + n) w
  old_words n w at =
      let i = h.each n w at in
      (i.0, i.1, stays_signed me client s (first + n) i.0 i.2)

  no_more : done.signed ≡ [] → (n : ℕ) (w : SignedWords) → slice_get (ws ++ done.signed) n ≡ Some w → IsTaken me done.client (first + n) w
  no_more none n w at =
      old_words n w (ap (λ (l : List SignedWords). slice_get l n) (sym (ap (λ (l : List SignedWords). ws ++ l) none ∙ append-nil ws)) ∙ at)

  one_more : Formed me client done → (n : ℕ) (w : SignedWords) → slice_get (ws ++ done.signed) n ≡ Some w →
      IsTaken me done.client (first + n) w
  one_more f n w at =
      let x = id (formed me f.x) in
      elim (push_at ws n (TransactionWords x) w (ap (λ (y : ClientDone). slice_get (ws ++ y.signed) n) (sym f.is) ∙ at)) [
        | inl e ↦ (
          x,
          sym e.1,
          subst (λ (place : ℕ). IsSignedAt me done.client place x) (h.spent ∙ ap (λ (m : ℕ). first + m) (sym e.0))
              (formed_at me client done f),
        )
        | inr i ↦ old_words n w i
      ]

  all_words : Change me client s done → (n : ℕ) (w : SignedWords) → slice_get (ws ++ done.signed) n ≡ Some w →
      IsTaken me done.client (first + n) w
  all_words (Keeps is calm) = no_more calm.signed
  all_words (Begins time above is) = no_more (ap (λ (x : ClientDone). x.signed) is)
  all_words (Edits e) = no_more (e.calm).signed
  all_words (Forms f) = one_more f
  all_words (Pursues p) = no_more (ap (λ (x : ClientDone). x.signed) p.is)
  all_words (Recovers t signature is calm) = no_more calm.signed

  placed : Placed me done.client first (ws ++ done.signed)
  placed =
      let sum = length-append ws done.signed in
      let more = (spends me client s done (changes me client s)).spent in
      let old = h.spent in
      record { spent = omega (arith, sum, more, old); each = all_words (changes me client s) }

all_placed : (me : ClientSelf) (client : ClientValue) (ss : List Step) (first : ℕ) (ws : List SignedWords) → Placed me client first ws →
    Placed me (client_after me client ss) first (ws ++ signed_in me client ss)
all_placed me client [] first ws h = subst (Placed me client first) (sym (append-nil ws)) h
all_placed me client (s ∷ ss) first ws h =
    let d = step me client s in
    subst (Placed me (client_after me d.client ss) first) (append_assoc ws d.signed (signed_in me d.client ss))
    (all_placed me d.client ss first (ws ++ d.signed) (placed me client s first ws h))

pub words_placed : WordsTakePlaces
words_placed me pen ss n w at =
    let start : Placed me (empty_client pen) pen.spent [] = record { spent = omega arith; each = λ n w at. absurd cc } in
    (all_placed me (empty_client pen) ss pen.spent [] start).each n w at
