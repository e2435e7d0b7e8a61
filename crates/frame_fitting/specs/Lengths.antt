-- How long signatures are.
use Rattle.std.specs.Prelude.{ℕ, ◌≤◌, List, length, All}
use Rattle.frame_views.specs.Signed.{SignedBy}

-- none of these signatures is longer
abbrev pub AreShort : ℕ → List SignedBy → Type 0
AreShort longest signed = All (λ s. length s.signature ≤ longest) signed
