-- Released votes that wait for their signatures.
use Rattle.std.specs.Prelude.{◌≡◌, ℕ, ◌<◌, List, [], ◌∷◌, map, Option, None, Some, ⊤, slice_get, length}
use Rattle.basil_types.specs.declared.party.Party.{Party}
use Rattle.basil_types.specs.declared.party.Decision.{Decision}
use Rattle.basil_types.specs.Words.{words_of}
use Rattle.node_steps.specs.Pendings.{Front, fronts_of, IsReady}
use Rattle.txn_table.specs.declared.released.Home.{Home}
use Rattle.txn_table.specs.Entries.{EntryValue, askers_of}
use Rattle.txn_table.specs.Released.{released}
use Rattle.txn_table.specs.Tables.{id_of}
use Rattle.replica_core.specs.declared.seat.Seat.{Seat}
use Rattle.replica_core.specs.declared.work.Release.{Release}
use Rattle.replica_core.specs.Fronts.{front_to, vote_said}

-- the front of a released vote for an asker
abbrev pub release_front : Seat → List ℕ → Decision → Party → Front
release_front seat named d asker = front_to seat named d None asker

-- the release is of this vote at this place of the entries
pub record IsReleaseOf (seat : Seat) (size : ℕ) (entries : List EntryValue) (r : ℕ × Decision) (v : Release)
    : Type 0 where
  pub entry : EntryValue
  pub at : slice_get entries r.0 ≡ Some entry
  pub place : v.place ≡ r.0
  pub decision : v.decision ≡ r.1
  pub words : v.pending.words ≡ words_of (vote_said seat (id_of entry) r.1)
  pub fronts : fronts_of v.pending ≡ map (release_front seat (id_of entry) r.1) (askers_of entry.vote)
  pub ready : IsReady size v.pending

-- one for each
abbrev pub AreReleasesOf : Seat → ℕ → List EntryValue → List (ℕ × Decision) → List Release → Type 0
AreReleasesOf seat size entries [] [] = ⊤
AreReleasesOf seat size entries [] (v ∷ vs) = ⊥
AreReleasesOf seat size entries (r ∷ rs) [] = ⊥
AreReleasesOf seat size entries (r ∷ rs) (v ∷ vs) =
    IsReleaseOf seat size entries r v × AreReleasesOf seat size entries rs vs

abbrev pub AreWithin : List EntryValue → List (ℕ × Decision) → Type 0
AreWithin entries [] = ⊤
AreWithin entries (r ∷ rs) = (r.0 < length entries) × AreWithin entries rs

-- the votes that an outcome at a place releases, if it is one
abbrev pub released_by : Home → List EntryValue → Option ℕ → Decision → List (ℕ × Decision)
released_by home entries None d = []
released_by home entries (Some place) d = released home (record { place = place; outcome = d }) entries
