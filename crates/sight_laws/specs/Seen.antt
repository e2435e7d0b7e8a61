-- Which messages a run has seen.
use Rattle.std.specs.Prelude.{◌≡◌, true, ℕ, List, ◌++◌, None, Ok, Contains, filter, find, map}
use Rattle.basil_types.specs.declared.party.Decision.TheVariants.{Commit}
use Rattle.basil_types.specs.Transaction.{TransactionValue}
use Rattle.frame_views.specs.Carried.{paired, pairs_in}
use Rattle.frame_views.specs.Signed.{SignedBy}
use Rattle.frame_views.specs.Values.{MessageValue, PairValue}
use Rattle.node_steps.specs.Lists.{firsts}
use Rattle.premise_watch.specs.Breaches.{WatchValue, after_marks, first_breach, forged}
use Rattle.premise_watch.specs.Marks.{Signature, Text, marks}
use Rattle.premise_watch.specs.Texts.{AreApart, AreTexts}
use Rattle.cluster_run.specs.Events.{EventValue, run}
use Rattle.cluster_run.specs.Headline.{proves}
use Rattle.cluster_run.specs.Parts.{is_proven, read_frame}
use Rattle.cluster_run.specs.States.{Setup, State, Posted, start}
use Rattle.cluster_run.specs.Telling.{is_pair_of, same_transaction}

-- its transactions were seen, none of its signatures is forged, and its pairs that prove their decisions are certified
pub record IsSeen (s : Setup) (watch : WatchValue) (certified : List PairValue) (m : MessageValue) : Type 0 where
  pub texts : (t : TransactionValue) → Contains (marks m) (Text t) → Contains watch.texts t
  pub signed : (g : SignedBy) → Contains (marks m) (Signature g) → forged s.kit.accepts watch g ≡ None
  pub pairs : (p : PairValue) → Contains (pairs_in m) p → is_proven s p ≡ true → Contains certified p

-- what these bytes read, if anything, was seen
abbrev pub IsSeenFrame : Setup → WatchValue → List PairValue → (frame : List ℕ) → Type 0
IsSeenFrame s watch certified frame = (m : MessageValue) → read_frame s frame ≡ Ok m → IsSeen s watch certified m

-- each message of the pool was
abbrev pub PoolIsSeen : Setup → State → Type 0
PoolIsSeen s st = (p : Posted) → Contains st.pool p → IsSeenFrame s st.watch st.certified p.frame

abbrev pub PostedAreSeen : Type 0
PostedAreSeen =
    (s : Setup) (events : List EventValue) (st : State) → run s events (start s) ≡ Ok st → PoolIsSeen s st

-- and stays so
abbrev pub SeenStays : Type 0
SeenStays =
    (s : Setup) (events : List EventValue) (st after : State) → run s events st ≡ Ok after →
    (m : MessageValue) → IsSeen s st.watch st.certified m → IsSeen s after.watch after.certified m

-- ---- a message that is seen again

-- the committed transactions of some pairs, each once
abbrev pub committed_in : List PairValue → List TransactionValue
committed_in pairs = firsts same_transaction (map paired (filter (proves Commit) pairs))

-- it breaks nothing; what keeps the texts before keeps them after; its proven pairs tell no new decision, and no new
-- committed transaction
pub record ShowsNothing (s : Setup) (watch : WatchValue) (certified : List PairValue) (m : MessageValue) : Type 0 where
  pub unbroken : first_breach s.kit.accepts watch (marks m) ≡ None
  pub texts : (entries : List (List ℕ × List ℕ)) → AreTexts entries watch.texts →
      AreTexts entries (after_marks watch (marks m)).texts
  pub decided : (named : List ℕ) → find (is_pair_of named) (certified ++ filter (is_proven s) (pairs_in m))
      ≡ find (is_pair_of named) certified
  pub committed : committed_in (certified ++ filter (is_proven s) (pairs_in m)) ≡ committed_in certified

-- one that was seen shows nothing new, where no two texts are a collision
abbrev pub SeenShowsNothing : Type 0
SeenShowsNothing =
    (s : Setup) (watch : WatchValue) (certified : List PairValue) (m : MessageValue) → AreApart watch.texts →
    IsSeen s watch certified m → ShowsNothing s watch certified m
