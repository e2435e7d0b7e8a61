-- What is read in an entry is what it was written for.
use Rattle.std.proofs.Common.{◌≡◌, ℕ, ◌^◌, ◌<◌, List, [], ◌∷◌, ◌++◌, length, get_or, take, Option, Some, None, refl, sym, ap, subst, ◌∙◌}
use Rattle.std.proofs.Common.{inl, inr, arith, append_assoc, length-take}
use Rattle.std.specs.Prelude.{option_map, Bool, true, false, ◌==◌, ◌&&◌}
use Rattle.std.proofs.Common.{cond}
use Rattle.std.specs.Int.{w64, from_be_bytes, to_be_bytes}
use Rattle.std.proofs.lemmas.Bool.{cases_lt, eqb-true}
use Rattle.std.proofs.lemmas.List.{get_or-take, get_or_past}
use Rattle.std.proofs.lemmas.Nat.{be_bytes_8}
use Rattle.basil_types.specs.Parties.{party_bytes}
use Rattle.basil_types.specs.declared.party.Party.{Party}
use Rattle.basil_types.specs.declared.party.Party.TheVariants.{Replica, Client}
use Rattle.replica_laws.specs.Steps.{Handed}
use Rattle.node_journal.specs.Entries.{entry_of, front_of, handed_by, handed_in, party_named}

both-true : (a b : Bool) → (a && b) ≡ true → (a ≡ true) × (b ≡ true)
both-true true b e = (refl, e)
both-true false b e = absurd cc

chosen-by : (b c : Bool) (kind second number : ℕ) (p : Party) → (b ≡ true → kind ≡ 0) → (c ≡ true → (kind ≡ 1) × (second ≡ 0)) →
    cond b (Some (Replica second number)) (cond c (Some (Client number)) None) ≡ Some p → party_bytes p ≡ kind ∷ second ∷ number ∷ []
chosen-by true c kind second number p z o e =
    let is : Replica second number ≡ p = cc in
    ap party_bytes (sym is) ∙ ap (λ (k : ℕ). k ∷ second ∷ number ∷ []) (sym (z refl))
chosen-by false true kind second number p z o e =
    let is : Client number ≡ p = cc in
    ap party_bytes (sym is) ∙ ap (λ (k : ℕ). k ∷ 0 ∷ number ∷ []) (sym (o refl).0)
    ∙ ap (λ (k : ℕ). kind ∷ k ∷ number ∷ []) (sym (o refl).1)
chosen-by false false kind second number p z o e = absurd cc

named-by : (kind second number : ℕ) (p : Party) → party_named kind second number ≡ Some p →
    party_bytes p ≡ kind ∷ second ∷ number ∷ []
named-by kind second number p e =
    chosen-by (kind == 0) (kind == 1 && second == 0) kind second number p (λ t. eqb-true kind 0 t)
    (λ t. let b = both-true (kind == 1) (second == 0) t in (eqb-true kind 1 b.0, eqb-true second 0 b.1)) e

record IsSpelled (moment party frame : List ℕ) (h : Handed) : Type 0 where
  now : h.now ≡ from_be_bytes w64 moment
  from : party_bytes h.from ≡ party
  text : h.frame ≡ frame

spelled-by : (moment frame : List ℕ) (kind second number : ℕ) (o : Option Party) (h : Handed) → party_named kind second number ≡ o →
    option_map (handed_by moment frame) o ≡ Some h → IsSpelled moment (kind ∷ second ∷ number ∷ []) frame h
spelled-by moment frame kind second number (Some p) h o e =
    let is : handed_by moment frame p ≡ h = cc in
    subst (IsSpelled moment (kind ∷ second ∷ number ∷ []) frame) is
    (record { now = refl; from = named-by kind second number p o; text = refl })
spelled-by moment frame kind second number None h o e = absurd cc

-- it is written as the bytes are, and its moment is one of a clock
pub record IsReadAs (bytes : List ℕ) (h : Handed) : Type 0 where
  pub entry : bytes ≡ entry_of h
  pub moment : h.now < 2 ^ 64

within : (bytes : List ℕ) → ((i : ℕ) → get_or bytes i 0 < 256) → (i : ℕ) → get_or (take 8 bytes) i 0 < 256
within bytes fits i =
    elim (cases_lt i 8) [
      | inl lt ↦ rw (get_or-take 8 bytes i 0 lt) (fits i)
      | inr le ↦ rw (get_or_past (take 8 bytes) i 0 (omega (arith, length-take 8 bytes))) (omega arith)
    ]

read-by : (moment : List ℕ) (kind second number : ℕ) (frame : List ℕ) (h : Handed) → length moment ≡ 8 →
    ((i : ℕ) → get_or moment i 0 < 256) → IsSpelled moment (kind ∷ second ∷ number ∷ []) frame h →
    IsReadAs (moment ++ kind ∷ second ∷ number ∷ frame) h
unfolding front_of
read-by moment kind second number frame h long fits s =
    let written : to_be_bytes w64 h.now ≡ moment = be_bytes_8 moment h.now long fits s.now in
    let tail : party_bytes h.from ++ h.frame ≡ kind ∷ second ∷ number ∷ frame =
    ap (λ (l : List ℕ). l ++ h.frame) s.from ∙ ap (λ (l : List ℕ). kind ∷ second ∷ number ∷ l) s.text in
    let small : from_be_bytes w64 moment < 2 ^ 64 =
    omega (arith, fits 0, fits 1, fits 2, fits 3, fits 4, fits 5, fits 6, fits 7) in
    record {
      entry = sym (append_assoc (to_be_bytes w64 h.now) (party_bytes h.from) h.frame
          ∙ ap (λ (l : List ℕ). l ++ (party_bytes h.from ++ h.frame)) written
          ∙ ap (λ (l : List ℕ). moment ++ l) tail);
      moment = subst (λ (n : ℕ). n < 2 ^ 64) (sym s.now) small;
    }

pub handed-takes : (bytes : List ℕ) (h : Handed) → handed_in bytes ≡ Some h → ((i : ℕ) → get_or bytes i 0 < 256) → IsReadAs bytes h
unfolding handed_in
handed-takes [] hd is fits = absurd cc
handed-takes (a ∷ []) hd is fits = absurd cc
handed-takes (a ∷ b ∷ []) hd is fits = absurd cc
handed-takes (a ∷ b ∷ c ∷ []) hd is fits = absurd cc
handed-takes (a ∷ b ∷ c ∷ d ∷ []) hd is fits = absurd cc
handed-takes (a ∷ b ∷ c ∷ d ∷ e ∷ []) hd is fits = absurd cc
handed-takes (a ∷ b ∷ c ∷ d ∷ e ∷ f ∷ []) hd is fits = absurd cc
handed-takes (a ∷ b ∷ c ∷ d ∷ e ∷ f ∷ g ∷ []) hd is fits = absurd cc
handed-takes (a ∷ b ∷ c ∷ d ∷ e ∷ f ∷ g ∷ h ∷ []) hd is fits = absurd cc
handed-takes (a ∷ b ∷ c ∷ d ∷ e ∷ f ∷ g ∷ h ∷ kind ∷ []) hd is fits = absurd cc
handed-takes (a ∷ b ∷ c ∷ d ∷ e ∷ f ∷ g ∷ h ∷ kind ∷ second ∷ []) hd is fits = absurd cc
handed-takes (a ∷ b ∷ c ∷ d ∷ e ∷ f ∷ g ∷ h ∷ kind ∷ second ∷ number ∷ frame) hd is fits =
    read-by (a ∷ b ∷ c ∷ d ∷ e ∷ f ∷ g ∷ h ∷ []) kind second number frame hd refl
    (within (a ∷ b ∷ c ∷ d ∷ e ∷ f ∷ g ∷ h ∷ kind ∷ second ∷ number ∷ frame) fits)
    (spelled-by (a ∷ b ∷ c ∷ d ∷ e ∷ f ∷ g ∷ h ∷ []) frame kind second number (party_named kind second number) hd refl is)
