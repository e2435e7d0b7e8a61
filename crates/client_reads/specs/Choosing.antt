-- Which version a client reads, by the versions that replies carry (Basil, reads).
use Rattle.std.specs.Prelude.{◌≡◌, ◌||◌, ℕ, ◌≤◌, ◌⊎◌, Bool, false, not, List, ◌++◌, map, filter, fold, count_by, nat_le}
use Rattle.std.specs.Prelude.{Any}
use Rattle.std.specs.Prelude.{MatchBool}
use Rattle.std.specs.List.{list_any}
use Rattle.std.specs.Ordering.{ord_max}
use Rattle.basil_types.specs.declared.version.Version.{Version}
use Rattle.basil_types.specs.Setting.{Setting}
use Rattle.basil_types.specs.Version.{genesis, same_version, version_cmp, below}
use Rattle.quorum_laws.specs.Numbers.{one_correct}
use Rattle.client_reads.specs.declared.choice.Choice.{Choice}
use Rattle.client_reads.specs.declared.versions.ReplyVersions.{ReplyVersions}

-- ---- which versions count

-- some reply carries it as committed
abbrev pub carries_committed : List ReplyVersions → Version → Bool
carries_committed replies v = list_any (λ r. same_version r.committed v) replies

-- genesis needs no reply
abbrev pub is_committed : List ReplyVersions → Version → Bool
is_committed replies v = same_version v genesis || carries_committed replies v

-- how many replies carry it as prepared
abbrev pub prepared_by : List ReplyVersions → Version → ℕ
prepared_by replies v = count_by (λ r. same_version r.prepared v) replies

-- so many replies do that one is of a correct replica
abbrev pub is_prepared : Setting → List ReplyVersions → Version → Bool
is_prepared c replies v = nat_le (one_correct c.f) (prepared_by replies v)

abbrev pub counts : Setting → List ReplyVersions → Version → Bool
counts c replies v = is_committed replies v || is_prepared c replies v

-- ---- the choice

-- every version that the replies carry
abbrev pub carried : List ReplyVersions → List Version
carried replies = map (λ r. r.committed) replies ++ map (λ r. r.prepared) replies

-- the greatest of genesis and these
abbrev pub greatest : List Version → Version
greatest versions = fold (ord_max version_cmp) genesis versions

abbrev pub chosen : Setting → List ReplyVersions → Version
chosen c replies = greatest (filter (counts c replies) (carried replies))

-- a dependency exactly where it counts as prepared alone
abbrev pub choice : Setting → List ReplyVersions → Choice
choice c replies = record { version = chosen c replies; dependency = not (is_committed replies (chosen c replies)) }

-- ---- what a choice rests on

abbrev pub IsCommitted : List ReplyVersions → Version → Type 0
IsCommitted replies v = (v ≡ genesis) ⊎ Any (λ r. r.committed ≡ v) replies

abbrev pub IsPrepared : Setting → List ReplyVersions → Version → Type 0
IsPrepared c replies v = one_correct c.f ≤ prepared_by replies v

-- a dependency is prepared at so many replies; any other choice is genesis, or committed at some reply
abbrev pub IsCarried : Setting → List ReplyVersions → Choice → Type 0
IsCarried c replies choice =
    MatchBool choice.dependency (IsPrepared c replies choice.version) (IsCommitted replies choice.version)

-- no version that counts stands above this one
abbrev pub NoneAbove : Setting → List ReplyVersions → Version → Type 0
NoneAbove c replies v = (w : Version) → IsCommitted replies w ⊎ IsPrepared c replies w → below v w ≡ false
