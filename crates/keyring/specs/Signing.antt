-- The fixed part of a signer.
use Rattle.std.specs.Prelude.{◌≡◌, ℕ, List, Bool, true}
use Rattle.basil_types.specs.declared.party.Party.{Party}

-- whose it is, the bytes of a signature, what it gives at each place for words, and the relation that holds of that
pub record Signing : Type 0 where
  pub party : Party
  pub size : ℕ
  pub gives : ℕ → List ℕ → List ℕ
  pub holds : Party → List ℕ → List ℕ → Bool

-- what the signer signs is accepted, of its party
abbrev pub AcceptsSigner : (accepted : Party → List ℕ → List ℕ → Bool) → Signing → Type 0
AcceptsSigner accepted signer =
    (words signature : List ℕ) → signer.holds signer.party words signature ≡ true →
    accepted signer.party words signature ≡ true
