-- Every run without a breach is safe.
use Rattle.std.specs.Prelude.{◌≡◌, ℕ, ◌+◌, ◌<◌, List, [], ◌∷◌, Ok}
use Rattle.basil_types.specs.Limits.{IsU64}
use Rattle.basil_types.specs.declared.party.Party.TheVariants.{Client}
use Rattle.basil_types.specs.Texts.{IsBytes}
use Rattle.frame_views.specs.Fitting.{IsSignature}
use Rattle.cluster_run.specs.Events as event
use Rattle.cluster_run.specs.Events.{EventValue, run}
use Rattle.cluster_run.specs.Headline.{IsSafe}
use Rattle.cluster_run.specs.States.{KitValue, Setup, IsSetup, State, start}

-- times are numbers of 64 bits, and keys and values are bytes
abbrev pub IsEvent : EventValue → Type 0
IsEvent (event.Begin client time) = IsU64 time
IsEvent (event.Read tx key) = IsBytes key
IsEvent (event.Write tx w) = IsBytes w.key × IsBytes w.value
IsEvent _ = Unit {0}

abbrev pub AreEvents : List EventValue → Type 0
AreEvents [] = Unit {0}
AreEvents (e ∷ es) = IsEvent e × AreEvents es

-- what a client's pen gives, while it has signatures left, fits a frame
pub record IsSigned (signature : List ℕ) : Type 0 where
  pub fits : IsSignature signature
  pub bytes : IsBytes signature

abbrev pub AreSigned : KitValue → Type 0
AreSigned k =
    (n place : ℕ) (words : List ℕ) → place < (k.pen (Client n)).spent + (k.pen (Client n)).left →
    IsSigned ((k.signing (Client n)).gives place words)

abbrev pub RunsAreSafe : Type 0
RunsAreSafe =
    (s : Setup) → IsSetup s → AreSigned s.kit → (events : List EventValue) (st : State) → AreEvents events →
    run s events (start s) ≡ Ok st → IsSafe s st
