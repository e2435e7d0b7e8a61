-- Versions and their order.
use Rattle.std.specs.Prelude.{◌≡◌, ◌⊎◌, ◌↔◌, Bool, true, false, ◌&&◌, ◌==◌, replicate}
use Rattle.std.specs.Ordering.{nat_cmp, ordering_then, is_lt}
use Rattle.std.specs.Cmp.Lexicographic.{slice_cmp}
use Rattle.std.specs.Str.{bytes_eq}
use Rattle.std.specs.declared.cmp.Ordering.{Ordering}
use Rattle.basil_types.specs.Limits.{id_size}
use Rattle.basil_types.specs.declared.version.Version.{Version}

-- the version of an absent key
abbrev pub genesis : Version
genesis = record { time = 0; client = 0; id = replicate id_size 0 }

-- by time, then by client, then by id
abbrev pub version_cmp : Version → Version → Ordering
version_cmp a b =
    ordering_then (nat_cmp a.time b.time) (ordering_then (nat_cmp a.client b.client) (slice_cmp nat_cmp a.id b.id))

abbrev pub below : Version → Version → Bool
below a b = is_lt (version_cmp a b)

-- all three parts are equal
abbrev pub same_version : Version → Version → Bool
same_version a b = (a.time == b.time) && (a.client == b.client) && bytes_eq a.id b.id

-- whether a version stands strictly between two others
abbrev pub is_between : Version → Version → Version → Bool
is_between low v high = below low v && below v high

-- ---- laws

-- of two versions one is below the other, or they are equal; and never two of these
pub record AreInOrder : Type 0 where
  pub irreflexive : (v : Version) → below v v ≡ false
  pub transitive : (a b c : Version) → below a b ≡ true → below b c ≡ true → below a c ≡ true
  pub total : (a b : Version) → (below a b ≡ true) ⊎ ((a ≡ b) ⊎ (below b a ≡ true))

-- the test finds equal versions
abbrev pub AreToldApart : Type 0
AreToldApart = (a b : Version) → (same_version a b ≡ true) ↔ (a ≡ b)
