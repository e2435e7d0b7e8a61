-- Which signatures a keyring accepts.
use Rattle.std.specs.Prelude.{ℕ, List, Bool, not, Option, position}
use Rattle.std.specs.List.{AllPass}
use Rattle.basil_types.specs.declared.party.Party.{Party}
use Rattle.frame_views.specs.Signed.{SignedBy}

-- the relation of a keyring, between a party, words and a signature
abbrev pub Accepted : Type 0
Accepted = Party → List ℕ → List ℕ → Bool

abbrev pub accepts : Accepted → SignedBy → Bool
accepts A s = A s.party s.words s.signature

abbrev pub AllAccepted : Accepted → List SignedBy → Type 0
AllAccepted A signed = AllPass (accepts A) signed

-- the place, from 0, of the first signature that isn't accepted
abbrev pub first_refused : Accepted → List SignedBy → Option ℕ
first_refused A signed = position (λ s. not (accepts A s)) signed
