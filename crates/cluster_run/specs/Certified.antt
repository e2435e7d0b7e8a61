-- What it means that a pair of a run is certified.
use Rattle.std.specs.Prelude.{◌≡◌, ◌↔◌, true, List, Ok, Contains}
use Rattle.certificates.specs.Deciding.{Proves}
use Rattle.certificates.specs.Refusals.{decision_of}
use Rattle.frame_views.specs.Carried.{pairs_in}
use Rattle.frame_views.specs.Fitting.{FitsMessage, FitsCertificate, bounds_of}
use Rattle.frame_views.specs.Values.{MessageValue, PairValue}
use Rattle.cluster_run.specs.Events.{EventValue, run}
use Rattle.cluster_run.specs.Parts.{is_proven, saw}
use Rattle.cluster_run.specs.States.{Setup, IsSetup, State, start}

-- the transaction has a good form, and the certificate is one of it for the decision that it names
abbrev pub IsProven : Setup → PairValue → Type 0
IsProven s p = Proves s.kit.accepts s.cluster p.transaction (decision_of p.certificate.body) p.certificate

-- the test by which a run certifies holds exactly where a pair proves its decision
abbrev pub TestIsExact : Type 0
TestIsExact =
    (s : Setup) → IsSetup s → (p : PairValue) → FitsCertificate (bounds_of s.cluster) p.certificate →
    (is_proven s p ≡ true) ↔ IsProven s p

-- of every run, each certified pair proves its decision
abbrev pub CertifiedAreProven : Type 0
CertifiedAreProven =
    (s : Setup) → IsSetup s → (events : List EventValue) (st : State) → run s events (start s) ≡ Ok st →
    (p : PairValue) → Contains st.certified p → IsProven s p

-- each pair of a message that proves its decision is certified once the message is seen
abbrev pub ProvenAreCertified : Type 0
ProvenAreCertified =
    (s : Setup) → IsSetup s → (m : MessageValue) → FitsMessage (bounds_of s.cluster) m →
    (st : State) (p : PairValue) → Contains (pairs_in m) p → IsProven s p → Contains (saw s m st).certified p

-- what is certified stays certified as a run goes on
abbrev pub CertifiedStay : Type 0
CertifiedStay =
    (s : Setup) (events : List EventValue) (from to : State) → run s events from ≡ Ok to →
    (p : PairValue) → Contains from.certified p → Contains to.certified p
